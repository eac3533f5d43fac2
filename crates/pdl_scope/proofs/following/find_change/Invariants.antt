use Rattle.std.proofs.Common.{◌≡◌, drop}
use Rattle.pdl_scope.specs.Plans.{change_to}
use Rattle.pdl_scope.proofs.following.find_change.Given as goal

-- no assignment before this one is to the root
abbrev pub invariant-loop-change : goal.invariant-loop-change
invariant-loop-change l = change_to (drop l.change-index l.plan) l.root ≡ change_to l.plan l.root
