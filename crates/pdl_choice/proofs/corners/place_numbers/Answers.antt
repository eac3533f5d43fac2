-- Each corner in turn is placed or listed.
use Rattle.std.proofs.Common.{◌≡◌, ◌⊎◌, inl, inr, ◌+◌, ◌*◌, ◌++◌, ◌∷◌, [], ◌<◌, ◌≤◌, ◌∙◌, ℕ, ℤ, List, All, ap, arith, get_or, length, length-append, set, subst, sym}
use Rattle.std.specs.List.{Any}
use Rattle.std.proofs.lemmas.Bool.{cases_eq}
use Rattle.std.proofs.lemmas.List.{get_or_append_left, get_or-set_other, get_or-set_same}
use Rattle.std.proofs.lemmas.List.Elements.{All-push, All-set}
use Rattle.std.proofs.lemmas.List.Quantifiers.{Any-push}
use Rattle.pdl_shape.specs.Shape.{extent_limit}
use Rattle.pdl_choice.specs.Rounds.{StandsAt, numbers_at}
use Rattle.pdl_choice.proofs.ShapeBounds.{corner_fits}
use Rattle.pdl_choice.proofs.RangePlaces.{length-corner}
use Rattle.pdl_choice.proofs.corners.place_numbers.Goals.{in-Some, in_default+then-len-most+in_ok-push}
use Rattle.pdl_choice.proofs.corners.place_numbers.Goals as goal

-- a number that is listed stays so
listed : (q : ℕ) (xs : List ℕ) (y : ℕ) → Any (λ b. b ≡ q) xs → Any (λ b. b ≡ q) (xs ++ y ∷ [])
listed q xs y a = (a.0, a.1, omega (arith, a.2, length-append xs (y ∷ [])), get_or_append_left xs (y ∷ []) a.1 a.0 a.2 ∙ a.3, a.4)

-- one more is listed
listed_more : (P : ℕ → Type 0) (xs ys : List ℕ) (i q : ℕ) → ys ≡ xs ++ i ∷ [] → ((q : ℕ) → q < i → Any (λ b. b ≡ q) xs ⊎ P q) → q < i + 1 → Any (λ b. b ≡ q) ys ⊎ P q
listed_more P xs ys i q is before h =
    subst (λ (zs : List ℕ). Any (λ b. b ≡ q) zs ⊎ P q) (sym is)
    (elim (cases_eq q i) [
      | inl same ↦ inl (Any-push (λ b. b ≡ q) xs i (sym same))
      | inr other ↦ elim (before q (omega arith)) [ inl a ↦ inl (listed q xs i a) | inr p ↦ inr p ]
    ])

-- or has its place
placed_more : (S : ℕ → ℕ → Type 0) (bases new xs : List ℕ) (i place q : ℕ) → new ≡ set bases i place → i < length bases → S i place → ((q : ℕ) → q < i → Any (λ b. b ≡ q) xs ⊎ S q (get_or bases q 0)) → q < i + 1
    → Any (λ b. b ≡ q) xs ⊎ S q (get_or new q 0)
placed_more S bases new xs i place q is inside here before h =
    subst (λ (bs : List ℕ). Any (λ b. b ≡ q) xs ⊎ S q (get_or bs q 0)) (sym is)
    (elim (cases_eq q i) [
      | inl same ↦ inr (subst (λ (j : ℕ). S j (get_or (set bases i place) j 0)) (sym same) (subst (S i) (sym (get_or-set_same bases i place 0 inside)) here))
      | inr other ↦ elim (before q (omega arith)) [ inl a ↦ inl a | inr s ↦ inr (subst (S q) (sym (get_or-set_other bases i q place 0 other)) s) ]
    ])

pub corner_of-corner-requires : goal.corner_of-corner-requires
corner_of-corner-requires c = corner_fits _ _ c.args.corners _ c.loop-number-test.true (c.requires.whole ∙ ap (λ n. n * c.args.corners) (sym c.requires.paired))

pub inner_place-requires-clause-paired : goal.inner_place-requires-clause-paired
inner_place-requires-clause-paired c =
    omega (arith, ap length c.corner_of-corner.ensures, length-corner c.args.ind.now c.args.len c.loop-number.number (corner_fits _ _ c.args.corners _ c.loop-number-test.true (c.requires.whole ∙ ap (λ n. n * c.args.corners) (sym c.requires.paired))), c.requires.paired)

pub loop-number-preserved : goal.loop-number-preserved
loop-number-preserved c =
    let stands : ℕ → ℕ → Type 0 = λ q b. StandsAt c.args.parent.now c.args.starts.now (numbers_at c.args.ind.now (length c.args.starts.now) q) b in
    let i : ℕ = c.loop-number.number in
    let inside : i < length c.loop-number.bases = omega (arith, c.loop-number.auto.bases, c.requires.long, c.loop-number-test.true) in
    elim c.match-inner_place.branch [
      | in-Some w ↦
          let place : ℕ = w.in-Some.place in
          let same : c.match-inner_place.beyond.items ≡ c.loop-number.beyond.items = ap (λ v. v.items) w.beyond-is in
          let here : stands i place = subst (λ (corner : List ℤ). StandsAt c.args.parent.now c.args.starts.now corner place) (c.corner_of-corner.ensures ∙ ap (λ (n : ℕ). numbers_at c.args.ind.now n i) c.requires.paired) w.in-Some.ensures.stands in
          record {
            small = subst (All (λ (b : ℕ). b ≤ extent_limit)) (sym w.bases-is) (All-set (λ (b : ℕ). b ≤ extent_limit) c.loop-number.bases i place w.in-Some.ensures.small c.loop-number.invariant.small);
            numbers = subst (All (λ (q : ℕ). q < c.args.corners)) (sym same) c.loop-number.invariant.numbers;
            each = λ q h. subst (λ (xs : List ℕ). Any (λ b. b ≡ q) xs ⊎ stands q (get_or c.match-inner_place.bases q 0)) (sym same)
                (placed_more stands c.loop-number.bases c.match-inner_place.bases c.loop-number.beyond.items i place q w.bases-is inside here c.loop-number.invariant.each h);
          }
      | in_default+then-len-most+in_ok-push w ↦
          let pushed : c.match-inner_place.beyond.items ≡ c.loop-number.beyond.items ++ i ∷ [] = ap (λ v. v.items) w.beyond-is ∙ w.in_ok-push.ensures.items in
          record {
            small = subst (All (λ (b : ℕ). b ≤ extent_limit)) (sym w.bases-is) c.loop-number.invariant.small;
            numbers = subst (All (λ (q : ℕ). q < c.args.corners)) (sym pushed) (All-push (λ (q : ℕ). q < c.args.corners) c.loop-number.beyond.items i c.loop-number.invariant.numbers c.loop-number-test.true);
            each = λ q h. subst (λ (bs : List ℕ). Any (λ b. b ≡ q) c.match-inner_place.beyond.items ⊎ stands q (get_or bs q 0)) (sym w.bases-is)
                (listed_more (λ q. stands q (get_or c.loop-number.bases q 0)) c.loop-number.beyond.items c.match-inner_place.beyond.items i q pushed c.loop-number.invariant.each h);
          }
    ]

pub returns : goal.returns
returns c =
    let long : c.args.corners ≡ length c.loop-number.bases = sym (c.loop-number.auto.bases ∙ c.requires.long) in
    record {
      small = c.loop-number.invariant.small;
      numbers = subst (λ (n : ℕ). All (λ q. q < n) c.loop-number.beyond.items) long c.loop-number.invariant.numbers;
      each = λ q h. c.loop-number.invariant.each q (omega (arith, long));
    }
