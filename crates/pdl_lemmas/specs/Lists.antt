-- Parts of lists, places in them, and the first place that passes a test.
use Rattle.std.specs.Prelude.{Bool, Option, not, drop, get_or, position}
use Rattle.std.specs.List.{range_with_len}
use Rattle.std.proofs.Common.{◌≡◌, ℕ, ◌+◌, ◌<◌, List, ◌++◌, length, take, map, length-append, Some, None, inl, inr, ap, sym, ◌∙◌, arith}
use Rattle.std.proofs.Math.Seq.{drop-append_seam, take-append_seam}
use Rattle.std.proofs.lemmas.Bool.{cases_lt}
use Rattle.std.proofs.lemmas.Bool.Decides.{nat_tests}
use Rattle.std.proofs.lemmas.List.{drop-drop, get_or_past}
use Rattle.std.proofs.lemmas.List.Folds.{prefix_len-append}
use Rattle.std.proofs.lemmas.List.FromFn.{fill_by_all, get_or-map-range_with_len, length-map-range_with_len}
use Rattle.std.proofs.lemmas.List.Sums.{prefix_len-le-length}

-- a list that was written over whole
pub take_written : {A : Type 0} (n : ℕ) (xs rest : List A) → length xs ≡ n → take n (xs ++ rest) ≡ xs
take_written n xs rest e = ap (λ (k : ℕ). take k (xs ++ rest)) (sym e) ∙ take-append_seam xs rest

-- two functions that agree at each number below n
pub map-range_same : {X : Type 0} (f g : ℕ → X) (n : ℕ) (d : X) → ((k : ℕ) → k < n → f k ≡ g k) → map f (range_with_len 0 n) ≡ map g (range_with_len 0 n)
map-range_same f g n d same =
    fill_by_all g (map f (range_with_len 0 n)) n d (length-map-range_with_len f 0 n)
    (λ k below. get_or-map-range_with_len f 0 n k k d below (omega arith) ∙ same k below)

-- what stands behind a part of a list
pub drop_behind : {A : Type 0} (xs : List A) (at : ℕ) (front rest : List A) → drop at xs ≡ front ++ rest → drop (at + length front) xs ≡ rest
drop_behind xs at front rest e = sym (drop-drop (length front) at xs) ∙ ap (drop (length front)) e ∙ drop-append_seam front rest

-- a place of a list that has something is inside of it
pub entry_inside : {A : Type 0} (os : List (Option A)) (k : ℕ) (x : A) → get_or os k None ≡ Some x → k < length os
entry_inside os k x e = elim (cases_lt k (length os)) [
  | inl low ↦ low
  | inr past ↦ (let n : None ≡ Some x = sym (get_or_past os k None past) ∙ e in cc)
]

-- the first place that passes a test, in a list of two parts
pub position_none : {A : Type 0} (t : A → Bool) (xs ys : List A) → position t xs ≡ None → position t ys ≡ None → position t (xs ++ ys) ≡ None
position_none t xs ys e f = grind (arith, nat_tests, length-append xs ys, prefix_len-append (λ x. not (t x)) xs ys, prefix_len-le-length (λ x. not (t x)) xs, prefix_len-le-length (λ x. not (t x)) ys, e, f)

pub position_after : {A : Type 0} (t : A → Bool) (xs ys : List A) (p : ℕ) → position t xs ≡ None → position t ys ≡ Some p → position t (xs ++ ys) ≡ Some (length xs + p)
position_after t xs ys p e f = grind (arith, nat_tests, length-append xs ys, prefix_len-append (λ x. not (t x)) xs ys, prefix_len-le-length (λ x. not (t x)) xs, prefix_len-le-length (λ x. not (t x)) ys, e, f)

pub position_before : {A : Type 0} (t : A → Bool) (xs ys : List A) (p : ℕ) → position t xs ≡ Some p → position t (xs ++ ys) ≡ Some p
position_before t xs ys p e = grind (arith, nat_tests, length-append xs ys, prefix_len-append (λ x. not (t x)) xs ys, prefix_len-le-length (λ x. not (t x)) xs, e)
