use Rattle.std.proofs.Common.{◌≡◌, drop}
use Rattle.std.specs.List.{list_any}
use Rattle.pdl_sig.specs.Resolution.{has_too_many}
use Rattle.pdl_sig.proofs.shapes.any_too_many.Given as goal

abbrev pub invariant-loop-arg : goal.invariant-loop-arg
invariant-loop-arg l = list_any (has_too_many l.sizes l.broadcast) (drop l.arg-index l.args) ≡ list_any (has_too_many l.sizes l.broadcast) l.args
