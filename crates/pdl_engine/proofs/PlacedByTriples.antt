-- Places that a triple shows over a base, one position after the other.
use Rattle.std.proofs.Common.{◌≡◌, ℕ, ◌<◌, ℤ, List, [], ◌∷◌, ◌++◌, length, get_or, arith, ap, sym, ◌∙◌}
use Rattle.std.specs.List.{range_with_len}
use Rattle.std.specs.Prelude.{Option, None}
use Rattle.std.proofs.lemmas.List.{append_assoc, append-nil, length-map}
use Rattle.std.proofs.lemmas.List.FromFn.{length-map-range_with_len, get_or-map-range_with_len}
use Rattle.std.proofs.lemmas.Simd.{map-map}
use Rattle.pdl_shape.specs.Shape.{size_of}
use Rattle.pdl_shape.specs.Triple.{Triple}
use Rattle.pdl_numbers.specs.Shown.{place_at}
use Rattle.pdl_nodes.specs.Placed.{placed, placed_by}
use Rattle.pdl_nodes.specs.Spots.{spots}

pub count_places : (known : Option (List (Option ℕ))) (t : Triple) → length (placed_by known t) ≡ size_of t.dims
count_places known t = length-map (spots t) (placed known) ∙ length-map-range_with_len (place_at t) 0 (size_of t.dims)

pub place_is : (known : Option (List (Option ℕ))) (t : Triple) (p : ℕ) → p < size_of t.dims → get_or (placed_by known t) p None ≡ placed known (place_at t p)
place_is known t p h =
    ap (λ (ps : List (Option ℕ)). get_or ps p None) (map-map (placed known) (place_at t) (range_with_len 0 (size_of t.dims)))
    ∙ get_or-map-range_with_len (λ q. placed known (place_at t q)) 0 (size_of t.dims) p p None h (omega arith)

-- what was found and what is left are all, also with one number more
pub found_more : (all left rest ns ms : List ℤ) (y : ℤ) → ns ++ left ≡ all → left ≡ y ∷ rest → ms ≡ ns ++ (y ∷ []) → ms ++ rest ≡ all
found_more all left rest ns ms y a b e =
    ap (λ (xs : List ℤ). xs ++ rest) e ∙ append_assoc ns (y ∷ []) rest ∙ ap (λ (xs : List ℤ). ns ++ xs) (sym b) ∙ a

-- and at the end nothing is left
pub nothing_left : (all left ns : List ℤ) → ns ++ left ≡ all → left ≡ [] → ns ≡ all
nothing_left all left ns a e = sym (append-nil ns) ∙ ap (λ (xs : List ℤ). ns ++ xs) (sym e) ∙ a
