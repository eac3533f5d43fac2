use Rattle.std.proofs.Common.{◌≡◌, drop}
use Rattle.std.specs.List.{list_any}
use Rattle.pdl_sig.specs.Resolution.{is_too_large}
use Rattle.pdl_sig.proofs.shapes.any_too_large.Given as goal

abbrev pub invariant-loop-arg : goal.invariant-loop-arg
invariant-loop-arg l = list_any (is_too_large l.sizes l.broadcast) (drop l.arg-index l.args) ≡ list_any (is_too_large l.sizes l.broadcast) l.args
