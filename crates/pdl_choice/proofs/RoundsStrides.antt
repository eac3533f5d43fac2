-- The place of a corner, one of its numbers after another.
use Rattle.std.proofs.Common.{◌≡◌, ℕ, ◌+◌, ◌*◌, ◌<◌, ◌≤◌, List, [], ◌∷◌, length, take, drop, get_or, replicate, refl, ap, sym, ◌∙◌, arith, Option, Some, None, ℤ, pos, ◌+ℤ◌}
use Rattle.std.specs.Option.{option_map}
use Rattle.std.proofs.lemmas.List.{at_drop_all, at_drop_more, get_or-replicate, length-replicate, take_more, take-append-drop}
use Rattle.pdl_lemmas.specs.Numbers.{row_place_below}
use Rattle.pdl_shape.specs.Laws.{SizeLaws}
use Rattle.pdl_shape.specs.Shape.{extent, extent_limit, size_of}
use Rattle.pdl_choice.specs.declared.edges.Edge.{Edge}
use Rattle.pdl_choice.specs.Edges.{edge_coordinate}
use Rattle.pdl_choice.specs.Rounds.{placed, place_first}
use Rattle.pdl_choice.proofs.ChoiceLimits.{extent-take}
use Rattle.pdl_choice.proofs.ShapePositions.{size_of-append}

pub placed-nil : (edge : Edge) (parent : List ℕ) (q : ℕ) (at : List ℕ) → placed edge parent [] (q ∷ at) ≡ Some q
placed-nil edge [] q at = refl
placed-nil edge (n ∷ parent) q at = refl

-- the numbers of a corner below j are placed
pub record Placing (j place stride : ℕ) (edge : Edge) (parent : List ℕ) (corner : List ℤ) (at : List ℕ) : Type 0 where
  pub whole : placed edge parent corner at ≡ option_map (λ rest. place + stride * rest) (placed edge (drop j parent) (drop j corner) (drop j at))
  pub stride_is : stride ≡ size_of (take j parent)
  pub below : place < stride

-- the dimensions below the next one
pub stride_more : (j stride : ℕ) (parent : List ℕ) → j < length parent → stride ≡ size_of (take j parent) → stride * get_or parent j 0 ≡ size_of (take (j + 1) parent)
stride_more j stride parent h is =
    ap (λ n. n * get_or parent j 0) is
    ∙ one (size_of (take j parent)) (get_or parent j 0)
    ∙ sym (size_of-append (take j parent) (get_or parent j 0 ∷ []))
    ∙ ap size_of (sym (take_more parent j 0 h))
  where
    one : (s n : ℕ) → s * n ≡ s * (n * 1)
    one s n = grind arith

pub stride_fits : SizeLaws → (j stride : ℕ) (parent : List ℕ) → extent parent ≤ extent_limit → stride ≡ size_of (take j parent) → stride ≤ extent_limit
stride_fits extents j stride parent fits is = omega (arith, is, extents.size_within (take j parent), extent-take extents j parent)

deeper : (place stride x n : ℕ) (o : Option ℕ) → option_map (λ rest. place + stride * rest) (option_map (λ p. x + n * p) o) ≡ option_map (λ rest. (place + stride * x) + stride * n * rest) o
deeper place stride x n None = refl
deeper place stride x n (Some p) = ap Some (same place stride x n p)
  where
    same : (place stride x n p : ℕ) → place + stride * (x + n * p) ≡ (place + stride * x) + stride * n * p
    same place stride x n p = grind arith

-- the number at j is placed before those past it
placed_at : (j : ℕ) (edge : Edge) (parent : List ℕ) (corner : List ℤ) (at : List ℕ) → j < length parent → j < length corner → j < length at
    → placed edge (drop j parent) (drop j corner) (drop j at)
    ≡ place_first (get_or parent j 0) (edge_coordinate edge (get_or parent j 0) (get_or corner j (pos 0) +ℤ pos (get_or at j 0))) (placed edge (drop (j + 1) parent) (drop (j + 1) corner) (drop (j + 1) at))
placed_at j edge parent corner at h k l =
    at_drop_more (λ ds. placed edge ds (drop j corner) (drop j at)) parent j 0 h
    ∙ at_drop_more (λ vs. placed edge (get_or parent j 0 ∷ drop (j + 1) parent) vs (drop j at)) corner j (pos 0) k
    ∙ at_drop_more (λ cs. placed edge (get_or parent j 0 ∷ drop (j + 1) parent) (get_or corner j (pos 0) ∷ drop (j + 1) corner) cs) at j 0 l

pub placing_more : (j place stride x : ℕ) (edge : Edge) (parent : List ℕ) (corner : List ℤ) (at : List ℕ)
    → length corner ≤ length parent → length at ≡ length corner + 1 → j < length corner
    → Some x ≡ edge_coordinate edge (get_or parent j 0) (get_or corner j (pos 0) +ℤ pos (get_or at j 0)) → x < get_or parent j 0
    → Placing j place stride edge parent corner at → Placing (j + 1) (place + stride * x) (stride * get_or parent j 0) edge parent corner at
placing_more j place stride x edge parent corner at fit paired h is inside p = record {
  whole = p.whole
      ∙ ap (option_map (λ rest. place + stride * rest)) (placed_at j edge parent corner at (omega arith) h (omega arith) ∙ ap (λ o. place_first (get_or parent j 0) o (placed edge (drop (j + 1) parent) (drop (j + 1) corner) (drop (j + 1) at))) (sym is))
      ∙ deeper place stride x (get_or parent j 0) (placed edge (drop (j + 1) parent) (drop (j + 1) corner) (drop (j + 1) at));
  stride_is = stride_more j stride parent (omega arith) p.stride_is;
  below = row_place_below stride (get_or parent j 0) place x p.below inside;
}

-- and that place lies in the parent
pub placing_ended : (j place stride : ℕ) (edge : Edge) (parent : List ℕ) (corner : List ℤ) (at : List ℕ)
    → length corner ≤ j → j ≤ length corner → get_or at (length corner) 0 < size_of (drop (length corner) parent) → Placing j place stride edge parent corner at
    → place + stride * get_or at (length corner) 0 < size_of parent
placing_ended j place stride edge parent corner at end long within p =
    let same : j ≡ length corner = omega arith in
    let front : stride ≡ size_of (take (length corner) parent) = p.stride_is ∙ ap (λ n. size_of (take n parent)) same in
    let split : size_of (take (length corner) parent) * size_of (drop (length corner) parent) ≡ size_of parent = sym (size_of-append (take (length corner) parent) (drop (length corner) parent)) ∙ ap size_of (take-append-drop (length corner) parent) in
    omega (arith, row_place_below stride (size_of (drop (length corner) parent)) place (get_or at (length corner) 0) p.below within, ap (λ n. n * size_of (drop (length corner) parent)) front, split)

-- where no dimensions are left, it is the place
pub placing_stops : (j place stride : ℕ) (edge : Edge) (parent : List ℕ) (corner : List ℤ)
    → length corner ≤ j → j ≤ length corner → Placing j place stride edge parent corner (replicate (length corner + 1) 0) → placed edge parent corner (replicate (length corner + 1) 0) ≡ Some place
placing_stops j place stride edge parent corner end long p =
    let zeros : List ℕ = replicate (length corner + 1) 0 in
    p.whole
    ∙ ap (option_map (λ rest. place + stride * rest))
    (at_drop_all (λ vs. placed edge (drop j parent) vs (drop j zeros)) corner j end
    ∙ at_drop_more (λ cs. placed edge (drop j parent) [] cs) zeros j 0 (omega (arith, length-replicate {A = ℕ} (length corner + 1) 0))
    ∙ placed-nil edge (drop j parent) (get_or zeros j 0) (drop (j + 1) zeros)
    ∙ ap Some (get_or-replicate (length corner + 1) j 0 0 (omega arith)))
    ∙ ap Some (omega arith)
