use Rattle.std.proofs.Common.{◌≡◌, drop}
use Rattle.pdl_code.specs.Refused.{lacks}
use Rattle.pdl_code.proofs.resolve.lacks_one.Given as goal

abbrev pub invariant-loop-k : goal.invariant-loop-k
invariant-loop-k l = lacks l.loops (drop l.k l.dims) l.k l.given ≡ lacks l.loops l.dims 0 l.given
