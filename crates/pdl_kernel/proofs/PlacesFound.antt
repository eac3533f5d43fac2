-- The place of indices in a buffer.
use Rattle.std.proofs.Common.{◌≡◌, ℕ, ◌+◌, ◌*◌, ◌<◌, ◌≤◌, ℤ, pos, negsuc, List, [], ◌∷◌, length, drop, get_or, Some, None, Ok, refl, sym, ap, subst, ◌∙◌, arith, eqb-true}
use borrow.Author.Tests.{ltb-true}
use Rattle.std.specs.Prelude.{◌==◌, nat_lt, if◌then◌else◌, Option, option_and_then, option_map, Bool, true, false}
use Rattle.std.proofs.lemmas.List.{drop_all}
use Rattle.std.proofs.lemmas.List.FromFn.{get_or-map-range_with_len}
use Rattle.std.proofs.lemmas.Option.{cond_some}
use Rattle.pdl_shape.specs.Broadcast.{cut_to}
use Rattle.pdl_shape.specs.Laws.{PositionLaws}
use Rattle.pdl_shape.specs.Shape.{IsWithin, position_of, size_of}
use Rattle.pdl_kernel.specs.declared.axes.Axis.{Axis}
use Rattle.pdl_kernel.specs.Meaning.{and_then, coordinates_in, element, element_at, or_range, within}
use Rattle.pdl_kernel.specs.Places.{AreInOrder, Window, array_seen, dot, element_seen, found, sizes_of, strides_from, strides_of}

-- strides of an array, nowhere along a size of 1, lead to the place that broadcasting names
pub stretch : (n : ℕ) (gs cs : List ℕ) → dot (strides_from n gs) cs ≡ n * position_of gs (cut_to gs cs)
stretch n [] cs = omega arith
stretch n (g ∷ gs) [] = omega arith
stretch n (g ∷ gs) (c ∷ cs) = by (g == 1) refl (stretch (n * g) gs cs)
  where
    by : (b : Bool) → (g == 1) ≡ b → dot (strides_from (n * g) gs) cs ≡ (n * g) * position_of gs (cut_to gs cs)
        → (if b then 0 else n) * c + dot (strides_from (n * g) gs) cs ≡ n * ((if b then 0 else c) + g * position_of gs (cut_to gs cs))
    by true one rest = rw rest (grind arith)
    by false other rest = rw rest (grind arith)

-- coordinates within sizes aren't cut
pub uncut : (ds cs : List ℕ) → IsWithin ds cs → cut_to ds cs ≡ cs
uncut [] [] w = refl
uncut [] (c ∷ cs) w = absurd w
uncut (d ∷ ds) [] w = absurd w
uncut (d ∷ ds) (c ∷ cs) w = ap (λ xs. (if d == 1 then 0 else c) ∷ xs) (uncut ds cs w.1) ∙ ap (λ x. x ∷ cs) (by (d == 1) refl)
  where
    by : (b : Bool) → (d == 1) ≡ b → (if b then 0 else c) ≡ c
    by true one = let e : d ≡ 1 = eqb-true d 1 one in omega (arith, e, w.0)
    by false other = refl

-- strides of elements in order lead to positions
pub reach_in_order : (axes : List Axis) (cs : List ℕ) → AreInOrder axes → IsWithin (sizes_of axes) cs → dot (strides_of axes) cs ≡ position_of (sizes_of axes) cs
reach_in_order axes cs h w =
    let ds : List ℕ = sizes_of axes in
    let s = stretch 1 ds cs in
    let all : dot (strides_from 1 ds) cs ≡ position_of ds (cut_to ds cs) = omega (arith, s) in
    ap (λ ss. dot ss cs) h ∙ all ∙ ap (position_of ds) (uncut ds cs w)

-- an index that is within a size is below it
within_below : (i : ℤ) (d j : ℕ) → within i d ≡ Some j → j < d
within_below (negsuc i) d j e = cc
within_below (pos i) d j e = let both = cond_some (nat_lt i d) i j e in let t = ltb-true i d both.0 in omega (arith, t, both.1)

-- coordinates that indices are lie within the sizes
pub within_sizes : (ds : List ℕ) (is : List ℤ) (cs : List ℕ) → coordinates_in ds is ≡ Some cs → IsWithin ds cs
within_sizes [] is cs e = let n : cs ≡ [] = cc in subst (IsWithin []) (sym n) tt
within_sizes (d ∷ ds) [] cs e = cc
within_sizes (d ∷ ds) (i ∷ is) cs e = by (within i d) refl (coordinates_in ds is) (within_sizes ds is) e
  where
    by : (x : Option ℕ) → within i d ≡ x → (y : Option (List ℕ)) → ((ks : List ℕ) → y ≡ Some ks → IsWithin ds ks)
        → option_and_then (λ c. option_map (λ ks. c ∷ ks) y) x ≡ Some cs → IsWithin (d ∷ ds) cs
    by None x y rest e = cc
    by (Some c) x None rest e = cc
    by (Some c) x (Some ks) rest e = let all : c ∷ ks ≡ cs = cc in subst (IsWithin (d ∷ ds)) all (within_below i d c x, rest ks refl)

-- the element of a window at coordinates
pub element_is : PositionLaws → (w : Window) (cs : List ℕ) → IsWithin (sizes_of w.axes) cs → element (array_seen w) cs ≡ get_or w.elems (w.start + dot (strides_of w.axes) cs) (pos 0)
element_is laws w cs h =
    let ds : List ℕ = sizes_of w.axes in
    get_or-map-range_with_len (element_seen w) 0 (size_of ds) (position_of ds cs) (position_of ds cs) (pos 0) (laws.position_below ds cs h) (omega arith)
    ∙ ap (λ c. get_or w.elems (w.start + dot (strides_of w.axes) c) (pos 0)) (laws.coordinates_again ds cs h)

-- the element at the place of indices
pub element_found : PositionLaws → (w : Window) (is : List ℤ) → and_then (or_range (found w.axes is w.start)) (λ q. Ok (get_or w.elems q (pos 0))) ≡ element_at (array_seen w) is
element_found laws w is = by (coordinates_in (sizes_of w.axes) is) refl
  where
    by : (x : Option (List ℕ)) → coordinates_in (sizes_of w.axes) is ≡ x
        → and_then (or_range (option_map (λ cs. w.start + dot (strides_of w.axes) cs) x)) (λ q. Ok (get_or w.elems q (pos 0))) ≡ and_then (or_range x) (λ cs. Ok (element (array_seen w) cs))
    by None x = refl
    by (Some cs) x = ap Ok (sym (element_is laws w cs (within_sizes (sizes_of w.axes) is cs x)))

pub dot_none : (ss : List ℕ) → dot ss [] ≡ 0
dot_none [] = refl
dot_none (s ∷ ss) = refl

pub dot_past : (ss cs : List ℕ) (k : ℕ) → length cs ≤ k → dot (drop k ss) (drop k cs) ≡ 0
dot_past ss cs k le = ap (dot (drop k ss)) (drop_all k cs le) ∙ dot_none (drop k ss)
