-- Names that are found or new, and the names of a dump's own.
use Rattle.std.proofs.Common.{◌≡◌, ℕ, zero, suc, ◌+◌, ◌<◌, ◌^◌, true, false, List, [], ◌∷◌, ◌++◌, get_or, refl, sym, ◌∙◌, ap, subst, arith, map}
use Rattle.std.proofs.lemmas.Fmt.{decimal_injective, decimal-digits_of}
use Rattle.std.proofs.lemmas.Int.Digits.{all_below_base_digits_of}
use Rattle.std.proofs.lemmas.List.{append_cancel_left}
use Rattle.std.proofs.lemmas.List.Elements.{All-contains_itself, All-head, All-tail}
use Rattle.std.proofs.lemmas.Slice.Eq.{bytes_eq-Decides}
use Rattle.std.specs.Cmp.Lexicographic.{pointwise}
use Rattle.std.specs.Fmt.{digits}
use Rattle.std.specs.Int.Digits.{digits_of, AllBelowBase}
use Rattle.std.specs.Prelude.{Some, None, nat_eq, decimal, All, Contains}
use Rattle.pdl_lemmas.specs.Options.{none_some}
use Rattle.pdl_lemmas.specs.Tests.{by_test}
use Rattle.pdl_image.specs.Stems.{stem_of, name_at, index_name}
use Rattle.pdl_image.specs.Laws.{StemsAreFree}
use Rattle.pdl_machine.specs.Names.{Named, found, without_name}
use Rattle.pdl_rebuild.specs.Rebuilt.{one_name, AreBelow, arrays_of}

pub same_text : (x : List ℕ) → pointwise nat_eq x x ≡ true
same_text x = (bytes_eq-Decides x x).1 refl

pub other_text : (x y : List ℕ) → (x ≡ y → ⊥) → pointwise nat_eq x y ≡ false
other_text x y differ = by_test (pointwise nat_eq x y) (λ same. absurd (differ ((bytes_eq-Decides x y).0 same))) (λ other. other)

pub found_front : {A : Type 0} (names more : Named A) (x : List ℕ) (a : A) → found names x ≡ Some a → found (names ++ more) x ≡ Some a
found_front [] more x a is = absurd (none_some is)
found_front (n ∷ names) more x a is =
    by_test (pointwise nat_eq x n.0)
    (λ same. rw same (rw same at is))
    (λ other. rw other (found_front names more x a (rw other at is)))

pub found_back : {A : Type 0} (names more : Named A) (x : List ℕ) → found names x ≡ None → found (names ++ more) x ≡ found more x
found_back [] more x fresh = refl
found_back (n ∷ names) more x fresh =
    by_test (pointwise nat_eq x n.0)
    (λ same. absurd (none_some (sym (rw same at fresh))))
    (λ other. rw other (found_back names more x (rw other at fresh)))

-- a name behind others, and without it
pub found_last : {A : Type 0} (names : Named A) (x : List ℕ) (a : A) → found names x ≡ None → found (names ++ one_name x a) x ≡ Some a
found_last names x a fresh = found_back names (one_name x a) x fresh ∙ rw (same_text x) refl

pub without_it : {A : Type 0} (front back : Named A) (x : List ℕ) (a : A) → found front x ≡ None → without_name (front ++ (one_name x a ++ back)) x ≡ front ++ back
without_it [] back x a fresh = rw (same_text x) refl
without_it (n ∷ front) back x a fresh =
    by_test (pointwise nat_eq x n.0)
    (λ same. absurd (none_some (sym (rw same at fresh))))
    (λ other. rw other (ap (λ ns. n ∷ ns) (without_it front back x a (rw other at fresh))))

pub one_new : {A : Type 0} (x y : List ℕ) (a : A) → (y ≡ x → ⊥) → found (one_name x a) y ≡ None
one_new x y a differ = rw (other_text y x differ) refl

-- an array that is found by name is one of those
pub found_below : (n : ℕ) (names : Named ℕ) (x : List ℕ) (v : ℕ) → AreBelow n (arrays_of names) → found names x ≡ Some v → v < n
found_below n [] x v below is = absurd (none_some is)
found_below n (m ∷ names) x v below is =
    by_test (pointwise nat_eq x m.0)
    (λ same. subst (λ u. u < n) (some_same (rw same at is)) below.0)
    (λ other. found_below n names x v below.1 (rw other at is))
  where
    some_same : Some m.1 ≡ Some v → m.1 ≡ v
    some_same e = cc

-- ---- the dump's own names

pub names_differ : (stem : List ℕ) (j k : ℕ) → j < 2 ^ 64 → k < 2 ^ 64 → (j ≡ k → ⊥) → name_at stem j ≡ name_at stem k → ⊥
names_differ stem j k small small' differ same = differ (decimal_injective j k small small' (append_cancel_left stem (decimal j) (decimal k) same))

-- a decimal doesn't begin with an `i`
no_letter : (k : ℕ) → k < 2 ^ 64 → 105 ∷ [] ≡ decimal k → ⊥
unfolding digits
no_letter zero small same = absurd (nought (ap (λ t. get_or t 0 0) same)) where
  nought : ◌≡◌ {A = ℕ} 105 48 → ⊥
  nought e = omega (arith, e)
no_letter (suc k) small same = by_first (digits_of 10 (suc k)) (all_below_base_digits_of 10 (suc k) (omega arith)) (same ∙ decimal-digits_of (suc k) (omega arith) small) where
  by_first : (ds : List ℕ) → AllBelowBase 10 ds → 105 ∷ [] ≡ map (λ d. 48 + d) ds → ⊥
  by_first [] below e = absurd (cc)
  by_first (d ∷ ds) below e = omega (arith, below.0, ap (λ t. get_or t 0 0) e)

pub index_differs : (stem : List ℕ) (k : ℕ) → k < 2 ^ 64 → index_name stem ≡ name_at stem k → ⊥
index_differs stem k small same = no_letter k small (append_cancel_left stem (105 ∷ []) (decimal k) same)

-- no bound name begins with the stem
abbrev pub AllApart : List ℕ → List (List ℕ) → Type 0
AllApart stem [] = Unit {0}
AllApart stem (x ∷ xs) = ((rest : List ℕ) → x ≡ stem ++ rest → ⊥) × AllApart stem xs

pub all_apart : StemsAreFree → (names : List (List ℕ)) → AllApart (stem_of names) names
all_apart free names = each names (All-contains_itself names) where
  each : (xs : List (List ℕ)) → All (Contains names) xs → AllApart (stem_of names) xs
  each [] all = tt
  each (x ∷ xs) all = (
    λ rest is. free names rest (subst (Contains names) is (All-head (Contains names) x xs all)),
    each xs (All-tail (Contains names) x xs all),
  )
