-- Each listed corner in turn gets its place, and the others keep theirs.
use Rattle.std.proofs.Common.{◌≡◌, ◌⊎◌, inl, inr, ◌-◌, ◌+◌, ◌<◌, arith, ℕ, List, ℤ, ap, drop, get_or, set, length, subst, sym, ◌∙◌, None}
use Rattle.std.proofs.lemmas.Bool.{cases_eq}
use Rattle.std.proofs.lemmas.List.{get_or-set_other}
use Rattle.std.proofs.lemmas.List.Elements.{All-from_get_or}
use Rattle.std.proofs.lemmas.Grind.{get_or-set_at}
use Rattle.std.specs.Prelude.{Option}
use Rattle.pdl_shape.specs.Shape.{size_of}
use Rattle.pdl_choice.specs.Rounds.{numbers_at, placed}
use Rattle.pdl_choice.proofs.ShapeBounds.{corner_fits}
use Rattle.pdl_choice.proofs.RangePlaces.{length-corner}
use Rattle.pdl_choice.proofs.windows.set_beyond.Goals as goal

-- an element after one of them is set right
set_one : {X : Type 0} (f : ℕ → X) (xs : List X) (j q : ℕ) (x d : X) → j < length xs → x ≡ f j → (get_or (set xs j x) q d ≡ f q) ⊎ (get_or (set xs j x) q d ≡ get_or xs q d)
set_one f xs j q x d h is =
    elim (cases_eq q j) [
      | inl same ↦ inl (get_or-set_at xs j q x d same h ∙ is ∙ ap f (sym same))
      | inr other ↦ inr (get_or-set_other xs j q x d other)
    ]

set_stays : {X : Type 0} (f : ℕ → X) (xs : List X) (j q : ℕ) (x d : X) → j < length xs → x ≡ f j → get_or xs q d ≡ f q → get_or (set xs j x) q d ≡ f q
set_stays f xs j q x d h is before = elim (set_one f xs j q x d h is) [ inl right ↦ right | inr kept ↦ kept ∙ before ]

set_others : {X : Type 0} (f : ℕ → X) (xs old : List X) (j q : ℕ) (x d : X) → j < length xs → x ≡ f j → (get_or xs q d ≡ f q) ⊎ (get_or xs q d ≡ get_or old q d) → (get_or (set xs j x) q d ≡ f q) ⊎ (get_or (set xs j x) q d ≡ get_or old q d)
set_others f xs old j q x d h is before =
    elim (set_one f xs j q x d h is) [
      | inl right ↦ inl right
      | inr kept ↦ elim before [ inl right ↦ inl (kept ∙ right) | inr same ↦ inr (kept ∙ same) ]
    ]

set_more : {X : Type 0} (f : ℕ → X) (xs : List X) (list : List ℕ) (i k : ℕ) (x d : X) → get_or list i 0 < length xs → x ≡ f (get_or list i 0) → ((k : ℕ) → k < i → get_or xs (get_or list k 0) d ≡ f (get_or list k 0)) → k < i + 1
    → get_or (set xs (get_or list i 0) x) (get_or list k 0) d ≡ f (get_or list k 0)
set_more f xs list i k x d h is before below =
    elim (cases_eq k i) [
      | inl same ↦ get_or-set_at xs (get_or list i 0) (get_or list k 0) x d (ap (λ n. get_or list n 0) same) h ∙ is ∙ ap (λ n. f (get_or list n 0)) (sym same)
      | inr other ↦ set_stays f xs (get_or list i 0) (get_or list k 0) x d h is (before k (omega arith))
    ]

pub corner_place-requires-clause-within : goal.corner_place-requires-clause-within
corner_place-requires-clause-within c =
    let number : ℕ = get_or c.args.beyond.now c.loop-number.number-index 0 in
    let below : number < length c.args.places.now = c.requires.numbers c.loop-number.number-index 0 c.loop-number-test.true in
    let len : length c.corner_of-listed.result.now ≡ length c.args.at.now - 1 = ap length c.corner_of-listed.ensures ∙ length-corner c.args.ind.now _ number (corner_fits _ _ (length c.args.places.now) _ below c.requires.whole) in
    subst (λ (n : ℕ). get_or c.args.at.now n 0 < size_of (drop n c.args.parent.now)) (sym len) c.requires.within

pub loop-number-preserved : goal.loop-number-preserved
loop-number-preserved c =
    let number : ℕ = get_or c.args.beyond.now c.loop-number.number-index 0 in
    let place : ℕ → Option ℕ = λ q. placed c.args.edge c.args.parent.now (numbers_at c.args.ind.now (length c.args.at.now - 1) q) c.args.at.now in
    let below : number < length c.args.places.now = c.requires.numbers c.loop-number.number-index 0 c.loop-number-test.true in
    let inside : number < length c.loop-number.places = omega arith in
    let here : c.corner_place.result ≡ place number = c.corner_place.ensures.place ∙ ap (λ (corner : List ℤ). placed c.args.edge c.args.parent.now corner c.args.at.now) c.corner_of-listed.ensures in
    record {
      set = λ k h. set_more place c.loop-number.places c.args.beyond.now c.loop-number.number-index k c.corner_place.result None inside here c.loop-number.invariant.set h;
      others = λ q. set_others place c.loop-number.places c.args.places.now number q c.corner_place.result None inside here (c.loop-number.invariant.others q);
    }

pub returns-clause-set : goal.returns-clause-set
returns-clause-set c =
    All-from_get_or (λ (q : ℕ). get_or c.loop-number.places q None ≡ placed c.args.edge c.args.parent.now (numbers_at c.args.ind.now (length c.args.at.now - 1) q) c.args.at.now) c.args.beyond.now 0
    (λ k h. c.loop-number.invariant.set k (omega arith))
