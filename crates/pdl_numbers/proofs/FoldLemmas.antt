-- Numbers into which others are taken, one after another.
use Rattle.std.proofs.Common.{◌≡◌, ◌≢◌, ℕ, ◌+◌, ◌<◌, ℤ, pos, List, length, get_or, arith, ap, sym, ◌∙◌, inl, inr}
use Rattle.std.specs.Prelude.{slice_set}
use Rattle.std.proofs.lemmas.Bool.{cases_lt}
use Rattle.std.proofs.lemmas.List.{get_or-set_same, get_or-set_other, length-set}
use Rattle.pdl_elem.specs.declared.Ty.{Ty}
use Rattle.pdl_elem.specs.Numbers.{wrapped}
use Rattle.pdl_numbers.specs.Folds.{HasFolded}

-- one number more is taken in
pub folded_more : (t : Ty) (f : ℤ → ℤ → ℤ) (number : ℕ → ℤ) (start j : ℕ) (old now : List ℤ) (v : ℤ) → start + j < length now → v ≡ wrapped t (f (get_or now (start + j) (pos 0)) (number j))
    → HasFolded t f number start j old now → HasFolded t f number start (j + 1) old (slice_set now (start + j) v)
folded_more t f number start j old now v below e h = record {
  as_many = length-set now (start + j) v ∙ h.as_many;
  taken = λ k few. elim (cases_lt k j) [
    | inl low ↦ let other : start + k ≢ start + j = λ same. omega (arith, same, low) in get_or-set_other now (start + j) (start + k) v (pos 0) other ∙ h.taken k low
    | inr high ↦
        let last : k ≡ j = omega (arith, few, high) in
        ap (λ (m : ℕ). get_or (slice_set now (start + j) v) (start + m) (pos 0)) last ∙ get_or-set_same now (start + j) v (pos 0) below ∙ e
        ∙ ap (λ (z : ℤ). wrapped t (f z (number j))) (h.after (start + j) (omega arith))
        ∙ ap (λ (m : ℕ). wrapped t (f (get_or old (start + m) (pos 0)) (number m))) (sym last)
  ];
  before = λ m low. let other : m ≢ start + j = λ same. omega (arith, same, low) in get_or-set_other now (start + j) m v (pos 0) other ∙ h.before m low;
  after = λ m high. let other : m ≢ start + j = λ same. omega (arith, same, high) in get_or-set_other now (start + j) m v (pos 0) other ∙ h.after m (omega (arith, high));
}

-- the numbers, found in another way
pub folded_as : (t : Ty) (f : ℤ → ℤ → ℤ) (number same : ℕ → ℤ) (start count : ℕ) (old new : List ℤ) → ((k : ℕ) → k < count → number k ≡ same k)
    → HasFolded t f number start count old new → HasFolded t f same start count old new
folded_as t f number same start count old new e h = record {
  as_many = h.as_many;
  taken = λ k few. h.taken k few ∙ ap (λ (x : ℤ). wrapped t (f (get_or old (start + k) (pos 0)) x)) (e k few);
  before = h.before;
  after = h.after;
}
