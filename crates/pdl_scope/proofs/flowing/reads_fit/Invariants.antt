use Rattle.std.proofs.Common.{◌≡◌, ◌+◌, ◌≤◌, length, take}
use Rattle.pdl_machine.specs.Flows.{all_read}
use Rattle.pdl_scope.specs.Scope.{reads_limit}
use Rattle.pdl_scope.proofs.flowing.reads_fit.Given as goal

-- the formulas before this one read at least as many, and just as many where these are as few as may
-- be
abbrev pub invariant-loop-flow : goal.invariant-loop-flow
invariant-loop-flow l =
    let read = length (all_read (take l.flow-index l.flows)) + l.more in
    (l.count ≤ reads_limit → read ≤ l.count) × (l.count ≤ read)
