-- where and which: the places at which a mask isn't 0 (PDL::Primitive, where and which).
use Rattle.std.specs.Prelude.{ℕ, zero, suc, ◌+◌, ◌&&◌, nat_eq, nat_le, nat_lt, if◌then◌else◌, List, [], ◌∷◌, length, get_or, filter, Result, Ok, Err, Bool, true, false, ℤ, pos, negsuc}
use Rattle.std.specs.List.{range_with_len}
use Rattle.std.specs.Cmp.Lexicographic.{pointwise}
use Rattle.pdl_shape.specs.Shape.{coordinates_of}
use Rattle.pdl_shape.specs.Refusals.{Refusal, mismatch}

-- whether a number counts as set
abbrev pub is_set : ℤ → Bool
is_set (pos zero) = false
is_set (pos (suc n)) = true
is_set (negsuc n) = true

-- the positions at which a mask is set, rising
abbrev pub which : List ℤ → List ℕ
which mask = filter (λ p. is_set (get_or mask p (pos 0))) (range_with_len 0 (length mask))

-- one dimension of as many elements as places, under a mask of the parent's dimensions
abbrev pub where_dims : List ℕ → List ℕ → List ℕ → Result (List ℕ) Refusal
where_dims parent mask_dims places = (if pointwise nat_eq parent mask_dims
    then Ok (length places ∷ []) else Err mismatch)

-- the parent's coordinates at the chosen place
abbrev pub where_source : List ℕ → List ℕ → List ℕ → List ℕ
where_source parent places at = coordinates_of parent (get_or places (get_or at 0 0) 0)

-- the places rise from one that is at least a, and lie below n
abbrev pub rises : (a n : ℕ) → List ℕ → Bool
rises a n [] = true
rises a n (p ∷ places) = nat_le a p && nat_lt p n && rises (p + 1) n places
