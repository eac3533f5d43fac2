-- Names and kernels that stand once each, after a binding, the end of a name, and other numbers.
use Rattle.std.proofs.Common.{◌≡◌, ℕ, ◌+◌, ◌≤◌, List, [], ◌∷◌, length, Bool, true, false, Some, None, refl, sym, subst, ◌∙◌, arith, nat_eq}
use Rattle.std.specs.Prelude.{is_none, nat_lt, not, if◌then◌else◌}
use Rattle.std.specs.Cmp.Lexicographic.{pointwise, same_text, nat_list_eq_equiv}
use Rattle.std.proofs.lemmas.Bool.{ltb-true}
use Rattle.pdl_lemmas.specs.Tests.{by_test}
use Rattle.pdl_machine.specs.Names.{Named, found, with_name, without_name, is_full_for}
use Rattle.pdl_machine.specs.Tidy.{renumbered}
use Rattle.pdl_machine.specs.Dumpable.{AreEach, AreNames}

-- whether two texts are the same
abbrev same : List ℕ → List ℕ → Bool
same x y = pointwise nat_eq x y

other_way : (x y : List ℕ) → same x y ≡ false → same y x ≡ false
other_way x y other = sym (nat_list_eq_equiv.symm x y) ∙ other

module _ {A : Type 0} where
  not_found : (n : List ℕ × A) (names : Named A) (y : List ℕ) → found (n ∷ names) y ≡ None → (same y n.0 ≡ false) × (found names y ≡ None)
  not_found n names y none' =
      by_test (same y n.0)
      (λ is. let e : Some n.1 ≡ None = rw is at none' in absurd (never e))
      (λ other. (other, rw other at none'))
    where
      never : {a : A} → Some a ≡ None → ⊥
      never e = cc

  past : (n : List ℕ × A) (names : Named A) (y : List ℕ) → same y n.0 ≡ false → found names y ≡ None → found (n ∷ names) y ≡ None
  past n names y other none' = rw other none'

  -- a name that isn't bound is none still where another one is bound
  unbound_still : (names : Named A) (x y : List ℕ) (a : A) → same x y ≡ false → found names y ≡ None → found (with_name names x a) y ≡ None
  unbound_still [] x y a apart none' = past (x, a) [] y (other_way x y apart) refl
  unbound_still (n ∷ names) x y a apart none' =
      let h = not_found n names y none' in
      let P : Bool → Type 0 = λ b. found (if b then (n.0, a) ∷ names else n ∷ with_name names x a) y ≡ None in
      by_test (same x n.0)
      (λ is. subst P (sym is) (past (n.0, a) names y h.0 h.1))
      (λ other. subst P (sym other) (past n (with_name names x a) y h.0 (unbound_still names x y a apart h.1)))

  -- and where one is given up
  unbound_without : (names : Named A) (x y : List ℕ) → found names y ≡ None → found (without_name names x) y ≡ None
  unbound_without [] x y none' = refl
  unbound_without (n ∷ names) x y none' =
      let h = not_found n names y none' in
      let P : Bool → Type 0 = λ b. found (if b then names else n ∷ without_name names x) y ≡ None in
      by_test (same x n.0)
      (λ is. subst P (sym is) h.1)
      (λ other. subst P (sym other) (past n (without_name names x) y h.0 (unbound_without names x y h.1)))

  pub each_with : (P : List ℕ → A → Type 0) (names : Named A) (x : List ℕ) (a : A) → AreEach P names → P x a → AreEach P (with_name names x a)
  each_with P [] x a each is = (is, refl, tt)
  each_with P (n ∷ names) x a each is =
      let Q : Bool → Type 0 = λ b. AreEach P (if b then (n.0, a) ∷ names else n ∷ with_name names x a) in
      by_test (same x n.0)
      (λ here. subst Q (sym here) (subst (λ y. P y a) (same_text x n.0 (sym here)) is, each.1, each.2))
      (λ other. subst Q (sym other) (each.0, unbound_still names x n.0 a other each.1, each_with P names x a each.2 is))

  pub each_without : (P : List ℕ → A → Type 0) (names : Named A) (x : List ℕ) → AreEach P names → AreEach P (without_name names x)
  each_without P [] x each = tt
  each_without P (n ∷ names) x each =
      let Q : Bool → Type 0 = λ b. AreEach P (if b then names else n ∷ without_name names x) in
      by_test (same x n.0)
      (λ here. subst Q (sym here) each.2)
      (λ other. subst Q (sym other) (each.0, unbound_without names x n.0 each.1, each_without P names x each.2))

  -- how many there are after a binding
  count_with : (names : Named A) (x : List ℕ) (a : A) → length (with_name names x a) ≡ length names + (if is_none (found names x) then 1 else 0)
  count_with [] x a = refl
  count_with (n ∷ names) x a =
      by_test (same x n.0)
      (λ here. rw here (omega arith))
      (λ other. rw other (omega (arith, count_with names x a)))

  -- where there is room, there are as many as may be, at most
  pub few_with : (limit : ℕ) (names : Named A) (x : List ℕ) (a : A) → is_full_for limit names x ≡ false → length names ≤ limit → length (with_name names x a) ≤ limit
  few_with limit names x a room few =
      let count : length (with_name names x a) ≡ length names + (if is_none (found names x) then 1 else 0) = count_with names x a in
      by_test (is_none (found names x))
      (λ new. let n : length (with_name names x a) ≡ length names + 1 = rw new at count in
      let shut_test : not (nat_lt (length names) limit) ≡ false = rw new at room in
      omega (arith, n, ltb-true (length names) limit (shut (nat_lt (length names) limit) shut_test)))
      (λ known. let n : length (with_name names x a) ≡ length names + 0 = rw known at count in omega (arith, n, few))
    where
      shut : (b : Bool) → not b ≡ false → b ≡ true
      shut true e = refl
      shut false e = cc

-- under other numbers the same names are bound
unbound_renumbered : (f : ℕ → ℕ) (names : Named ℕ) (y : List ℕ) → found names y ≡ None → found (renumbered f names) y ≡ None
unbound_renumbered f [] y none' = refl
unbound_renumbered f (n ∷ names) y none' =
    let h = not_found n names y none' in past (n.0, f n.1) (renumbered f names) y h.0 (unbound_renumbered f names y h.1)

unbound_before : (f : ℕ → ℕ) (names : Named ℕ) (y : List ℕ) → found (renumbered f names) y ≡ None → found names y ≡ None
unbound_before f [] y none' = refl
unbound_before f (n ∷ names) y none' =
    let h = not_found (n.0, f n.1) (renumbered f names) y none' in past n names y h.0 (unbound_before f names y h.1)

pub names_renumbered : (f : ℕ → ℕ) (names : Named ℕ) → AreNames names → AreNames (renumbered f names)
names_renumbered f [] each = tt
names_renumbered f (n ∷ names) each = (each.0, unbound_renumbered f names n.0 each.1, names_renumbered f names each.2)

pub names_before : (f : ℕ → ℕ) (names : Named ℕ) → AreNames (renumbered f names) → AreNames names
names_before f [] each = tt
names_before f (n ∷ names) each = (each.0, unbound_before f names n.0 each.1, names_before f names each.2)
