use Rattle.std.proofs.Common.{◌≡◌, ◌≤◌, [], length}
use Rattle.pdl_sig.specs.Resolution.{joined_with, handed}
use Rattle.pdl_sig.proofs.ResolutionSteps.{left}
use Rattle.pdl_sig.proofs.joins.broadcast.Given as goal

abbrev pub invariant-loop-place : goal.invariant-loop-place
invariant-loop-place l = record {
  few : length l.joined.items ≤ 16;
  same : joined_with l.joined.items (left l.args l.given l.place) ≡ joined_with [] (handed l.args l.given);
}
