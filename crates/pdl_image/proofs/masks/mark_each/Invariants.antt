use Rattle.std.proofs.Common.{◌≡◌, length, take}
use Rattle.pdl_image.specs.Adding.{mask_part}
use Rattle.pdl_image.proofs.masks.mark_each.Given as goal

-- the part by the places before this one
abbrev pub invariant-loop-place : goal.invariant-loop-place
invariant-loop-place l = l.part ≡ mask_part l.first (length l.fn.part) (take l.place-index l.places)
