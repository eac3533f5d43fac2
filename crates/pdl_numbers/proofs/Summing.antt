-- A sum in words that wrap, one number more.
use Rattle.std.proofs.Common.{◌≡◌, ℕ, ◌+◌, ◌<◌, ◌≤◌, ℤ, pos, ◌+ℤ◌, List, length, take, drop, get_or, fold, arith, ap, ap₂, sym, ◌∙◌}
use Rattle.std.proofs.lemmas.Int.{int_wrap-add_left}
use Rattle.std.proofs.lemmas.List.{get_or-drop, length-drop}
use Rattle.std.proofs.lemmas.List.Sums.{fold_more}
use Rattle.std.specs.Int.{int_wrap, w64}

pub sum_more : (xs : List ℤ) (start count j : ℕ) (s x : ℤ) → start + count ≤ length xs → j < count
    → s ≡ int_wrap w64 (fold (λ sum x. sum +ℤ x) (pos 0) (take j (drop start xs))) → x ≡ get_or xs (start + j) (pos 0)
    → int_wrap w64 (s +ℤ x) ≡ int_wrap w64 (fold (λ sum x. sum +ℤ x) (pos 0) (take (j + 1) (drop start xs)))
sum_more xs start count j s x within h e f =
    let ys : List ℤ = drop start xs in
    ap₂ (λ (u v : ℤ). int_wrap w64 (u +ℤ v)) e (f ∙ sym (get_or-drop start xs j (pos 0)))
    ∙ int_wrap-add_left w64 (fold (λ sum x. sum +ℤ x) (pos 0) (take j ys)) (get_or ys j (pos 0))
    ∙ ap (int_wrap w64) (sym (fold_more (λ (sum x : ℤ). sum +ℤ x) (pos 0) ys j (pos 0) (omega (arith, length-drop start xs, within, h))))
