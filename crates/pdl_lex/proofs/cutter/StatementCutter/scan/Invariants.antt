use Rattle.std.proofs.Common.{◌≡◌, ◌+◌, ◌-◌, ◌≤◌, false, take, length}
use Rattle.pdl_lex.specs.Steps.{IsQuiet}
use Rattle.pdl_lex.proofs.cutter.StatementCutter.scan.Given as goal

abbrev pub invariant-loop-used : goal.invariant-loop-used
invariant-loop-used l = record {
  within : l.used ≤ length l.piece;
  quiet : IsQuiet l.fn.self (take l.used l.piece) l.self;
  works : l.self.failed ≡ false;
  count : l.self.taken ≡ l.fn.self.taken + l.used;
}

abbrev pub decreases-loop-used : goal.decreases-loop-used
decreases-loop-used l = length l.piece - l.used
