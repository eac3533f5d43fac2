use Rattle.std.proofs.Common.{◌≡◌}
use Rattle.pdl_affine.specs.Views.{kept_dims}
use Rattle.pdl_affine.proofs.sizing.kept_dims.Given as goal

abbrev pub invariant-loop-place : goal.invariant-loop-place
invariant-loop-place l = l.kept.items ≡ kept_dims l.listed l.place
