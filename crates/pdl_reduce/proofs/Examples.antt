-- The definitions on small arrays.
use Rattle.std.proofs.Common.{◌≡◌, ℕ, ℤ, pos, negsuc, List, [], ◌∷◌, Ok, Err, refl}
use Rattle.pdl_elem.specs.declared.Ty.TheVariants.{Byte, Short, Long}
use Rattle.pdl_elem.specs.declared.Ty.{Ty}
use Rattle.pdl_buf.specs.declared.made.Made.{Made}
use Rattle.pdl_reduce.specs.declared.Reduction.TheVariants.{Sumover, MaximumInd, Cumuprodover}
use Rattle.pdl_reduce.specs.declared.Whole.TheVariants.{Max, Min}
use Rattle.pdl_reduce.specs.declared.Pairing.TheVariants.{Inner, Outer, Matmult}
use Rattle.pdl_reduce.specs.Refusals.{mismatch, empty_reduce}
use Rattle.pdl_reduce.specs.Reductions.{reduced, whole_reduced}
use Rattle.pdl_reduce.specs.Pairings.{paired}

made : Ty → List ℕ → List ℤ → Made
made ty ds es = record { ty = ty; dims = ds; elems = es }

plane : Made
plane = made Short (3 ∷ 2 ∷ []) (pos 5 ∷ negsuc 0 ∷ pos 5 ∷ pos 300 ∷ pos 2 ∷ pos 7 ∷ [])

sums : reduced Sumover plane ≡ Ok (made Long (2 ∷ []) (pos 9 ∷ pos 309 ∷ []))
unfolding made plane
sums = refl

places : reduced MaximumInd plane ≡ Ok (made Long (2 ∷ []) (pos 0 ∷ pos 0 ∷ []))
unfolding made plane
places = refl

prefixes : reduced Cumuprodover plane ≡ Ok (made Long (3 ∷ 2 ∷ []) (pos 5 ∷ negsuc 4 ∷ negsuc 24 ∷ pos 300 ∷ pos 600 ∷ pos 4200 ∷ []))
unfolding made plane
prefixes = refl

least_of : whole_reduced Min plane ≡ Ok (made Short [] (negsuc 0 ∷ []))
unfolding made plane
least_of = refl

none : whole_reduced Max (made Long (0 ∷ []) []) ≡ Err empty_reduce
unfolding made
none = refl

none_along : reduced Sumover (made Byte (0 ∷ 2 ∷ []) []) ≡ Ok (made Long (2 ∷ []) (pos 0 ∷ pos 0 ∷ []))
unfolding made
none_along = refl

left : Made
left = made Long (2 ∷ 2 ∷ []) (pos 1 ∷ pos 2 ∷ pos 3 ∷ pos 4 ∷ [])

right : Made
right = made Long (2 ∷ 2 ∷ []) (pos 5 ∷ pos 6 ∷ pos 7 ∷ pos 8 ∷ [])

matrices : paired Matmult left right ≡ Ok (made Long (2 ∷ 2 ∷ []) (pos 19 ∷ pos 22 ∷ pos 43 ∷ pos 50 ∷ []))
unfolding made left right
matrices = refl

unfit : paired Inner (made Long (2 ∷ []) (pos 0 ∷ pos 1 ∷ [])) (made Long (3 ∷ []) (pos 0 ∷ pos 1 ∷ pos 2 ∷ [])) ≡ Err mismatch
unfolding made
unfit = refl

outers : paired Outer (made Long (2 ∷ []) (pos 2 ∷ pos 3 ∷ [])) (made Byte (1 ∷ 2 ∷ []) (pos 5 ∷ pos 7 ∷ [])) ≡ Ok (made Long (2 ∷ 1 ∷ 2 ∷ []) (pos 10 ∷ pos 15 ∷ pos 14 ∷ pos 21 ∷ []))
unfolding made
outers = refl
