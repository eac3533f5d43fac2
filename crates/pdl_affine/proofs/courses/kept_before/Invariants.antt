use Rattle.std.proofs.Common.{◌≡◌, ◌≤◌, length}
use Rattle.pdl_affine.specs.Views.{kept_dims}
use Rattle.pdl_affine.proofs.courses.kept_before.Given as goal

abbrev pub invariant-loop-place : goal.invariant-loop-place
invariant-loop-place l = record { within : l.count ≤ l.place; counted : l.count ≡ length (kept_dims l.listed l.place) }
