-- Windows that are filled one behind the other.
use Rattle.std.proofs.Common.{◌≡◌, ℕ, ◌+◌, ◌≤◌, ℤ, List, ◌++◌, length, take, drop, sym, ap, subst, ◌∙◌, arith}
use Rattle.std.specs.Prelude.{true}
use Rattle.std.proofs.lemmas.List.{append_assoc, drop-drop, take-append-drop}
use Rattle.std.proofs.Math.Seq.{drop-append-add, take-append_seam}
use Rattle.pdl_shape.specs.Laws.{PositionLaws}
use Rattle.pdl_kernel.specs.Places.{AreInOrder, IsWhole, Rest, Window, array_seen, count_of, is_written, rest_of}
use Rattle.pdl_kernel.proofs.PlacesWindows.{before_is, behind_is, shown_in_order}

-- what lies past the elements that are done
past_done : (es done : List ℤ) (n : ℕ) → drop (length done + n) (done ++ drop (length done) es) ≡ drop (length done + n) es
past_done es done n = drop-append-add done (drop (length done) es) n ∙ drop-drop n (length done) es

-- a window shows what was there, whatever is done before it
pub given_there : PositionLaws → (w : Window) (es done : List ℤ) → AreInOrder w.axes → w.start + count_of w ≤ length w.elems → w.start ≡ length done → w.elems ≡ done ++ drop (length done) es → w.start + count_of w ≤ length es
    → (array_seen w).elems ≡ (array_seen (record w { elems = es })).elems
given_there laws w es done order whole at filled enough =
    let same : drop w.start w.elems ≡ drop w.start es =
    (let zero : w.start ≡ length done + 0 = omega (arith, at) in
    ap (λ k. drop k w.elems) zero ∙ ap (drop (length done + 0)) filled ∙ past_done es done 0 ∙ ap (λ k. drop k es) (sym zero)) in
    shown_in_order laws w order whole ∙ ap (take (count_of w)) same ∙ sym (shown_in_order laws (record w { elems = es }) order enough)

-- after code that leaves alone what it can't change, the window's elements are done too
pub more_there : PositionLaws → (w v : Window) (es done : List ℤ) → AreInOrder w.axes → is_written w.role ≡ true → IsWhole (rest_of w) → w.start ≡ length done → w.elems ≡ done ++ drop (length done) es → rest_of v ≡ rest_of w
    → v.elems ≡ (done ++ (array_seen v).elems) ++ drop (length done + count_of w) es
more_there laws w v es done order written whole at filled kept =
    let n = count_of w in
    let writes : is_written v.role ≡ true = ap (λ (r : Rest). is_written r.role) kept ∙ written in
    let axes : v.axes ≡ w.axes = ap (λ (r : Rest). r.axes) kept in
    let within : v.start + count_of v ≤ length v.elems = subst IsWhole (sym kept) whole writes in
    let front : take v.start v.elems ≡ done =
    sym (before_is v writes) ∙ ap (λ (r : Rest). r.before) kept ∙ before_is w written ∙ ap (λ k. take k w.elems) at ∙ ap (take (length done)) filled ∙ take-append_seam done (drop (length done) es) in
    let here : take (count_of v) (drop v.start v.elems) ≡ (array_seen v).elems = sym (shown_in_order laws v (subst AreInOrder (sym axes) order) within) in
    let back : drop (v.start + count_of v) v.elems ≡ drop (length done + n) es =
    sym (behind_is v writes) ∙ ap (λ (r : Rest). r.behind) kept ∙ behind_is w written ∙ ap (λ k. drop (k + n) w.elems) at ∙ ap (drop (length done + n)) filled ∙ past_done es done n in
    sym (take-append-drop v.start v.elems)
    ∙ ap (λ xs. take v.start v.elems ++ xs) (sym (take-append-drop (count_of v) (drop v.start v.elems)))
    ∙ ap (λ xs. take v.start v.elems ++ (take (count_of v) (drop v.start v.elems) ++ xs)) (drop-drop (count_of v) v.start v.elems ∙ back)
    ∙ ap (λ xs. xs ++ (take (count_of v) (drop v.start v.elems) ++ drop (length done + n) es)) front
    ∙ ap (λ xs. done ++ (xs ++ drop (length done + n) es)) here
    ∙ sym (append_assoc done (array_seen v).elems (drop (length done + n) es))
