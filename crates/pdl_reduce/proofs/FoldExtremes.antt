-- The first place of what a fold picks.
use Rattle.std.proofs.Common.{◌≡◌, ◌≢◌, ℕ, ◌+◌, ◌<◌, ◌≤◌, ℤ, pos, ◌≤ℤ◌, List, ◌++◌, length, take, drop, get_or, fold, All, arith, Option, Some, None, inl, inr, refl, ap, sym, subst, ◌∙◌, length-take-le, take-append-drop}
use Rattle.std.specs.Prelude.{◌⊎◌, Bool, true, not, if◌then◌else◌, Contains, position}
use Rattle.std.specs.Int.{int_max, int_min}
use Rattle.std.specs.Ordering.{int_eq}
use Rattle.std.specs.List.{prefix_len}
use Rattle.std.specs.Option.{unwrap_or}
use Rattle.std.proofs.lemmas.Int.{fold-int_max_bounds, fold-int_max_reached, fold-int_min_bounds, fold-int_min_reached, ints}
use Rattle.std.proofs.lemmas.Bool.{cases_lt, lt-ltb, le-ltb, not-false, true≢false}
use Rattle.std.proofs.lemmas.Bool.Decides.{Decides-int_eq}
use Rattle.std.proofs.lemmas.Cmp.{int_eq_equiv}
use Rattle.std.proofs.lemmas.List.Elements.{All-contains, All-from_get_or, Contains-get_or}
use Rattle.std.proofs.lemmas.List.Sums.{fold-append, prefix_len_passes, prefix_len_stops}
use Rattle.pdl_lemmas.specs.Lists.{position_none, position_after}
use Rattle.pdl_reduce.specs.Folds.{Picks, first_place}

-- ---- the greatest and the least are picked

pub greatest_picks : Picks int_max
greatest_picks = record {
  one = λ a xs. fold-int_max_reached a xs (fold int_max a xs) refl;
  stays = λ a xs ys here.
      let s : ℤ = fold int_max a xs in
      let v : ℤ = fold int_max a (xs ++ ys) in
      let low : v ≤ℤ s = All-contains (λ x. x ≤ℤ s) xs v (fold-int_max_bounds a xs s refl).1 here in
      let high : s ≤ℤ v = (fold-int_max_bounds s ys v (fold-append int_max a xs ys)).0 in
      omega (arith, ints, low, high);
}

pub least_picks : Picks int_min
least_picks = record {
  one = λ a xs. fold-int_min_reached a xs (fold int_min a xs) refl;
  stays = λ a xs ys here.
      let s : ℤ = fold int_min a xs in
      let v : ℤ = fold int_min a (xs ++ ys) in
      let high : s ≤ℤ v = All-contains (λ x. s ≤ℤ x) xs v (fold-int_min_bounds a xs s refl).1 here in
      let low : v ≤ℤ s = (fold-int_min_bounds s ys v (fold-append int_min a xs ys)).0 in
      omega (arith, ints, low, high);
}

-- ---- a number stands in a list, or has no place there

nowhere : (x : ℤ) (xs : List ℤ) → position (λ y. int_eq y x) xs ≡ None → Contains xs x → ⊥
nowhere x xs e here =
    let t : ℤ → Bool = λ y. not (int_eq y x) in
    let n : ℕ = prefix_len t xs in
    let all : length xs ≤ n = elim (cases_lt n (length xs)) [
      | inl low ↦ (let n_is : None ≡ Some n = sym e ∙ ap (λ (b : Bool). if b then Some n else None) (lt-ltb n (length xs) low) in cc)
      | inr past ↦ past
    ] in
    let others : All (λ y. t y ≡ true) xs = All-from_get_or (λ y. t y ≡ true) xs x (λ i low. prefix_len_passes t xs i x (omega (arith, low, all))) in
    true≢false (sym (All-contains (λ y. t y ≡ true) xs x others here) ∙ ap not (int_eq_equiv.refl x))

somewhere : (x : ℤ) (xs : List ℤ) → (position (λ y. int_eq y x) xs ≡ None) ⊎ Contains xs x
somewhere x xs =
    let t : ℤ → Bool = λ y. not (int_eq y x) in
    let n : ℕ = prefix_len t xs in
    elim (cases_lt n (length xs)) [
      | inl low ↦ (
          let same : get_or xs n x ≡ x = (Decides-int_eq (get_or xs n x) x).0 (not-false (int_eq (get_or xs n x) x) (prefix_len_stops t xs x low)) in
          inr (subst (λ z. Contains xs z) same (Contains-get_or xs n x low)))
      | inr past ↦ inl (ap (λ (b : Bool). if b then Some n else None) (le-ltb n (length xs) past))
    ]

-- its first place in two lists, where the first of them lacks it
behind : (x : ℤ) (xs ys : List ℤ) → position (λ y. int_eq y x) xs ≡ None → Contains (xs ++ ys) x → length xs + first_place x ys ≡ first_place x (xs ++ ys)
behind x xs ys e here = by (position t ys) refl
  where
    t : ℤ → Bool
    t y = int_eq y x

    by : (o : Option ℕ) → position t ys ≡ o → length xs + first_place x ys ≡ first_place x (xs ++ ys)
    by None f = absurd (nowhere x (xs ++ ys) (position_none t xs ys e f) here)
    by (Some p) f = ap (λ (o : Option ℕ). length xs + unwrap_or o 0) f ∙ sym (ap (λ (o : Option ℕ). unwrap_or o 0) (position_after t xs ys p e f))

-- ---- the first place of what is picked stands behind the elements that came to something else

pub picked_behind : (f : ℤ → ℤ → ℤ) → Picks f → (xs : List ℤ) (a v : ℤ) (n : ℕ) → 0 < length xs → a ≡ get_or xs 0 (pos 0) → n ≤ length xs
    → v ≡ fold f a xs → (0 < n → fold f a (take n xs) ≢ v) → n + first_place v (drop n xs) ≡ first_place v xs
picked_behind f picks xs a v n some first inside is before =
    let us : List ℤ = take n xs in
    let vs : List ℤ = drop n xs in
    let whole : us ++ vs ≡ xs = take-append-drop n xs in
    let counted : length us ≡ n = length-take-le n xs inside in
    let here : Contains xs v = elim (picks.one a xs) [
      | inl start ↦ subst (λ z. Contains xs z) (sym (is ∙ start ∙ first)) (Contains-get_or xs 0 (pos 0) some)
      | inr among ↦ subst (λ z. Contains xs z) (sym is) among
    ] in
    let lacks : position (λ y. int_eq y v) us ≡ None = elim (somewhere v us) [
      | inl none ↦ none
      | inr early ↦ (
          let k : ℕ = early.0 in
          let low : k < length us = early.1 in
          let some_before : 0 < n = omega (arith, low, counted) in
          let last : v ≡ fold f a (us ++ vs) = is ∙ ap (fold f a) (sym whole) in
          absurd (before some_before (picks.stays a us vs (subst (λ z. Contains us z) last early) ∙ sym last)))
    ] in
    ap (λ (k : ℕ). k + first_place v vs) (sym counted)
    ∙ behind v us vs lacks (subst (λ zs. Contains zs v) (sym whole) here)
    ∙ ap (first_place v) whole
