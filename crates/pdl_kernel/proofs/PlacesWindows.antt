-- A number is put into a window whose elements lie in order.
use Rattle.std.proofs.Common.{◌≡◌, ℕ, ◌+◌, ◌<◌, ◌≤◌, ℤ, pos, List, [], length, take, drop, get_or, Some, Ok, Err, refl, sym, ap, ◌∙◌, arith}
use Rattle.std.specs.Prelude.{Bool, Option, None, option_map, Result, true, if◌then◌else◌, slice_set}
use Rattle.std.proofs.Math.Seq.{take-set-lt}
use Rattle.std.proofs.lemmas.List.{drop-set-add, drop-set-lt, get_or-drop, get_or-take, length-drop, length-set, length-take-le, take-set-le}
use Rattle.std.proofs.lemmas.List.FromFn.{fill_by_all}
use Rattle.pdl_elem.specs.declared.BinaryOp.{BinaryOp}
use Rattle.pdl_elem.specs.Numbers.{wrapped}
use Rattle.pdl_shape.specs.Laws.{PositionLaws}
use Rattle.pdl_shape.specs.Shape.{IsWithin, coordinates_of, position_of}
use Rattle.pdl_buf.specs.declared.made.Made.{Made}
use Rattle.pdl_kernel.specs.declared.faults.Fault.{Fault}
use Rattle.pdl_kernel.specs.Meaning.{and_then, assigned, changed, coordinates_in, element, or_range, stored}
use Rattle.pdl_kernel.specs.Places.{AreInOrder, IsSound, IsWhole, Rest, Window, array_seen, before_of, behind_of, count_of, dot, element_seen, found, is_written, put_in, rest_of, sizes_of, strides_of}
use Rattle.pdl_kernel.proofs.PlacesFound.{element_is, reach_in_order, within_sizes}

-- a window in order shows the elements from its start on
seen_in_order : PositionLaws → (w : Window) (i : ℕ) → AreInOrder w.axes → i < count_of w → element_seen w i ≡ get_or w.elems (w.start + i) (pos 0)
seen_in_order laws w i order lt =
    let ds : List ℕ = sizes_of w.axes in
    let e : dot (strides_of w.axes) (coordinates_of ds i) ≡ i = reach_in_order w.axes (coordinates_of ds i) order (laws.coordinates_within ds i lt) ∙ laws.position_again ds i lt in
    ap (λ k. get_or w.elems (w.start + k) (pos 0)) e

pub shown_in_order : PositionLaws → (w : Window) → AreInOrder w.axes → w.start + count_of w ≤ length w.elems → (array_seen w).elems ≡ take (count_of w) (drop w.start w.elems)
shown_in_order laws w order whole =
    let ys = drop w.start w.elems in
    let more : count_of w ≤ length ys = omega (arith, whole, length-drop w.start w.elems) in
    sym (fill_by_all (element_seen w) (take (count_of w) ys) (count_of w) (pos 0) (length-take-le (count_of w) ys more)
    (λ i lt. get_or-take (count_of w) ys i (pos 0) lt ∙ get_or-drop w.start w.elems i (pos 0) ∙ sym (seen_in_order laws w i order lt)))

-- the elements that are seen after a number was put at the k-th
put_seen : PositionLaws → (w : Window) (k : ℕ) (z : ℤ) → AreInOrder w.axes → w.start + count_of w ≤ length w.elems → k < count_of w
    → slice_set (array_seen w).elems k z ≡ (array_seen (record w { elems = slice_set w.elems (w.start + k) z })).elems
put_seen laws w k z order whole lt =
    ap (λ es. slice_set es k z) (shown_in_order laws w order whole) ∙ sym (take-set-lt (count_of w) (drop w.start w.elems) k z lt)
    ∙ ap (take (count_of w)) (sym (drop-set-add w.start w.elems k z))
    ∙ sym (shown_in_order laws (record w { elems = slice_set w.elems (w.start + k) z }) order (omega (arith, whole, length-set w.elems (w.start + k) z)))

-- a place that is found is a position of the window
record IsPosition (w : Window) (is : List ℤ) (p : ℕ) : Type 0 where
  cs : List ℕ
  coordinates : coordinates_in (sizes_of w.axes) is ≡ Some cs
  inside : IsWithin (sizes_of w.axes) cs
  at : w.start + position_of (sizes_of w.axes) cs ≡ p
  reached : w.start + dot (strides_of w.axes) cs ≡ p

position : (w : Window) (is : List ℤ) (p : ℕ) → AreInOrder w.axes → found w.axes is w.start ≡ Some p → IsPosition w is p
position w is p order e = by (coordinates_in (sizes_of w.axes) is) refl e
  where
    by : (x : Option (List ℕ)) → coordinates_in (sizes_of w.axes) is ≡ x → option_map (λ cs. w.start + dot (strides_of w.axes) cs) x ≡ Some p → IsPosition w is p
    by None x e = cc
    by (Some cs) x e =
        let inside = within_sizes (sizes_of w.axes) is cs x in
        let r = reach_in_order w.axes cs order inside in
        let reached : w.start + dot (strides_of w.axes) cs ≡ p = cc in
        record { cs = cs; coordinates = x; inside = inside; at = omega (arith, r, reached); reached = reached }

-- an assignment at a place that was found
pub assigned_found : PositionLaws → (w : Window) (is : List ℤ) (p : ℕ) (op : Option BinaryOp) (x : ℤ) → IsSound w → is_written w.role ≡ true → IsWhole (rest_of w) → found w.axes is w.start ≡ Some p
    → assigned (array_seen w) op x is ≡ and_then (changed op (get_or w.elems p (pos 0)) x) (λ y. Ok (array_seen (put_in w p y)))
assigned_found laws w is p op x sound written whole e =
    let order = sound.in_order written in
    let f = position w is p order e in
    let k = position_of (sizes_of w.axes) f.cs in
    let lt : k < count_of w = laws.position_below (sizes_of w.axes) f.cs f.inside in
    let elem : element (array_seen w) f.cs ≡ get_or w.elems p (pos 0) = element_is laws w f.cs f.inside ∙ ap (λ q. get_or w.elems q (pos 0)) f.reached in
    let put : (y : ℤ) → stored (array_seen w) f.cs y ≡ array_seen (put_in w p y) = λ y.
    ap (λ es. record { ty = w.ty; dims = sizes_of w.axes; elems = es }) (put_seen laws w k (wrapped w.ty y) order (whole written) lt)
    ∙ ap (λ q. array_seen (put_in w q y)) f.at in
    ap (λ c. and_then (or_range c) (λ cs. and_then (changed op (element (array_seen w) cs) x) (λ y. Ok (stored (array_seen w) cs y)))) f.coordinates
    ∙ ap (λ b. and_then (changed op b x) (λ y. Ok (stored (array_seen w) f.cs y))) elem
    ∙ each (changed op (get_or w.elems p (pos 0)) x) (stored (array_seen w) f.cs) (λ y. array_seen (put_in w p y)) put
  where
    each : (r : Result ℤ Fault) (f g : ℤ → Made) → ((y : ℤ) → f y ≡ g y) → and_then r (λ y. Ok (f y)) ≡ and_then r (λ y. Ok (g y))
    each (Ok y) f g h = ap Ok (h y)
    each (Err d) f g h = refl

-- what lies before and behind a window that code may write
pub before_is : (w : Window) → is_written w.role ≡ true → before_of w ≡ take w.start w.elems
before_is w h = ap (λ (b : Bool). if b then take w.start w.elems else w.elems) h

pub behind_is : (w : Window) → is_written w.role ≡ true → behind_of w ≡ drop (w.start + count_of w) w.elems
behind_is w h = ap (λ (b : Bool). if b then drop (w.start + count_of w) w.elems else []) h

-- what code can't change stays
pub rest_put : PositionLaws → (w : Window) (is : List ℤ) (p : ℕ) (y : ℤ) → IsSound w → is_written w.role ≡ true → found w.axes is w.start ≡ Some p → rest_of (put_in w p y) ≡ rest_of w
rest_put laws w is p y sound written e =
    let f = position w is p (sound.in_order written) e in
    let k = position_of (sizes_of w.axes) f.cs in
    let lt : k < count_of w = laws.position_below (sizes_of w.axes) f.cs f.inside in
    let z = wrapped w.ty y in
    let front = before_is (put_in w p y) written ∙ take-set-le w.start w.elems p z (omega (arith, f.at)) ∙ sym (before_is w written) in
    let back = behind_is (put_in w p y) written ∙ drop-set-lt (w.start + count_of w) w.elems p z (omega (arith, f.at, lt)) ∙ sym (behind_is w written) in
    let R : ℕ → List ℤ → List ℤ → Rest = λ n b c. record { role = w.role; ty = w.ty; axes = w.axes; outer = w.outer; start = w.start; room = n; before = b; behind = c } in
    ap (λ n. R n (before_of (put_in w p y)) (behind_of (put_in w p y))) (length-set w.elems p z)
    ∙ ap (λ b. R (length w.elems) b (behind_of (put_in w p y))) front ∙ ap (R (length w.elems) (before_of w)) back
