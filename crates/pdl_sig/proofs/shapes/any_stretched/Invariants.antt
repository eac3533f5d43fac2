use Rattle.std.proofs.Common.{◌≡◌}
use Rattle.std.specs.List.{list_any}
use Rattle.pdl_sig.specs.Resolution.{is_stretched, handed}
use Rattle.pdl_sig.proofs.ResolutionSteps.{left}
use Rattle.pdl_sig.proofs.shapes.any_stretched.Given as goal

abbrev pub invariant-loop-place : goal.invariant-loop-place
invariant-loop-place l = list_any (is_stretched l.sizes l.broadcast) (left l.args l.given l.place) ≡ list_any (is_stretched l.sizes l.broadcast) (handed l.args l.given)
