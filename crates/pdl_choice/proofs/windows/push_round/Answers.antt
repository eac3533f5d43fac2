-- The sums of all corners, and then the places of those that the edge decides.
use Rattle.std.proofs.Common.{◌≡◌, ◌⊎◌, inl, inr, ◌+◌, ◌-◌, ◌++◌, [], ◌<◌, ◌≤◌, ◌∙◌, ℕ, List, All, Option, None, Some, ap, ap₂, arith, drop, get_or, length, length-append, length-drop, map, subst, sym, take}
use Rattle.std.specs.List.{Any, range_with_len}
use Rattle.std.proofs.lemmas.List.{append-nil, drop_all, drop_at, get_or-map, length-map, take_all, take_at, with_items_is}
use Rattle.std.proofs.lemmas.List.FromFn.{fill_by_all}
use Rattle.pdl_shape.specs.Shape.{extent_limit}
use Rattle.pdl_choice.specs.Rounds.{numbers_at, placed}
use Rattle.pdl_choice.proofs.windows.push_round.Goals as goal
use borrow.Rule.Slice.PartMut.{post_of}

-- a sum of two places within the limits
small_sum : (base past limit : ℕ) → base ≤ limit → past ≤ limit → limit ≤ 1048576 → base + past < 4294967296
small_sum base past limit b p l = omega arith

-- places that are sums, or were set
all_placed_right : (place : ℕ → Option ℕ) (new part : List (Option ℕ)) (bases beyond : List ℕ) (past : ℕ) → part ≡ map (λ (b : ℕ). Some (b + past)) bases → length new ≡ length part
    → All (λ q. get_or new q None ≡ place q) beyond → ((q : ℕ) → get_or new q None ≡ place q ⊎ get_or new q None ≡ get_or part q None)
    → ((q : ℕ) → q < length bases → Any (λ b. b ≡ q) beyond ⊎ Some (get_or bases q 0 + past) ≡ place q)
    → new ≡ map place (range_with_len 0 (length bases))
all_placed_right place new part bases beyond past is long set others each =
    fill_by_all place new (length bases) None (long ∙ ap length is ∙ length-map bases (λ (b : ℕ). Some (b + past)))
    (λ k h. elim (each k h) [
      | inl a ↦ subst (λ (j : ℕ). get_or new j None ≡ place j) (a.3 ∙ a.4) (set a.0 a.1 a.2)
      | inr sum ↦ elim (others k) [
        | inl right ↦ right
        | inr same ↦ same ∙ ap (λ (ps : List (Option ℕ)). get_or ps k None) is ∙ get_or-map (λ (b : ℕ). Some (b + past)) bases k 0 None h ∙ sum
      ]
    ])

-- the last places of a list are set
last_set : (old pl sums new : List (Option ℕ)) (from : ℕ) → pl ≡ old ++ sums → from ≡ length old → length new ≡ length sums
    → take from pl ++ (new ++ post_of from (length pl - from) pl) ≡ old ++ new
last_set old pl sums new from is at long =
    let front : take from pl ≡ old = ap (take from) is ∙ take_at old sums from (sym at) in
    let rest : post_of from (length pl - from) pl ≡ [] = drop_all (length pl - from) (drop from pl) (omega (arith, length-drop from pl)) in
    ap₂ (λ (xs ys : List (Option ℕ)). xs ++ (new ++ ys)) front rest ∙ ap (λ (ys : List (Option ℕ)). old ++ ys) (append-nil new)

-- they are the sums
last_are : (old pl sums : List (Option ℕ)) (from : ℕ) → pl ≡ old ++ sums → from ≡ length old → take (length pl - from) (drop from pl) ≡ sums
last_are old pl sums from is at =
    let rest : drop from pl ≡ sums = ap (drop from) is ∙ drop_at old sums from (sym at) in
    ap (take (length pl - from)) rest ∙ whole (length pl - from) sums (omega (arith, ap length is, length-append old sums))
  where
    whole : (n : ℕ) (xs : List (Option ℕ)) → length xs ≤ n → take n xs ≡ xs
    whole n xs h = take_all n xs h

pub push_past-requires : goal.push_past-requires
push_past-requires c =
    let past : ℕ = c.past_first.result in
    let bound : past ≤ extent_limit = omega (arith, c.past_first.ensures.bound, c.shape_laws.ensures.sizes.size_within c.args.parent.now, c.requires.bounded) in
    subst (λ (bs : List ℕ). All (λ (b : ℕ). b + past < 4294967296) bs) (sym c.as_slice-bases.ensures.value)
    (λ k d h. small_sum (get_or c.args.known.now.bases.items k d) past extent_limit (c.requires.small k d h) bound (omega arith))

pub returns : goal.returns
returns c =
    let past : ℕ = c.past_first.result in
    let old : List (Option ℕ) = c.args.places.now.items in
    let pl : List (Option ℕ) = c.deref_mut.result.now in
    let new : List (Option ℕ) = c.set_beyond.new.places in
    let bases : List ℕ = c.args.known.now.bases.items in
    let beyond : List ℕ = c.args.known.now.beyond.items in
    let sums : List (Option ℕ) = map (λ (b : ℕ). Some (b + past)) bases in
    let place : ℕ → Option ℕ = λ q. placed c.args.edge c.args.parent.now (numbers_at c.args.ind.now (length c.args.zeros.now) q) c.args.at.now in
    let pushed : c.push_past.new.places.items ≡ old ++ sums = c.in_ok-push_past.ensures ∙ ap (λ (bs : List ℕ). old ++ map (λ (b : ℕ). Some (b + past)) bs) c.as_slice-bases.ensures.value in
    let is : pl ≡ old ++ sums = c.deref_mut.ensures.value ∙ pushed in
    let at : c.len-from.result ≡ length old = omega (arith, c.len-from.ensures) in
    let part : take (length pl - c.len-from.result) (drop c.len-from.result pl) ≡ sums = last_are old pl sums c.len-from.result is at in
    let zeros : length c.args.at.now - 1 ≡ length c.args.zeros.now = omega (arith, c.requires.paired) in
    let right : new ≡ map place (range_with_len 0 (length bases)) =
    all_placed_right place new (take (length pl - c.len-from.result) (drop c.len-from.result pl)) bases beyond past part c.set_beyond.auto.places
    (subst (λ (n : ℕ). All (λ q. get_or new q None ≡ placed c.args.edge c.args.parent.now (numbers_at c.args.ind.now n q) c.args.at.now) beyond) zeros
    (subst (λ (bs : List ℕ). All (λ q. get_or new q None ≡ placed c.args.edge c.args.parent.now (numbers_at c.args.ind.now (length c.args.at.now - 1) q) c.args.at.now) bs) c.as_slice-beyond.ensures.value c.set_beyond.ensures.set))
    (λ q. subst (λ (n : ℕ). get_or new q None ≡ placed c.args.edge c.args.parent.now (numbers_at c.args.ind.now n q) c.args.at.now ⊎ get_or new q None ≡ get_or (take (length pl - c.len-from.result) (drop c.len-from.result pl)) q None) zeros (c.set_beyond.ensures.others q))
    (λ q h. subst (λ (n : ℕ). Any (λ b. b ≡ q) beyond ⊎ Some (get_or bases q 0 + n) ≡ place q) (sym c.past_first.ensures.past) (c.requires.inside q h)) in
    let same : length new ≡ length sums = c.set_beyond.auto.places ∙ ap length part in
    let last : take c.len-from.result pl ++ (new ++ post_of c.len-from.result (length pl - c.len-from.result) pl) ≡ old ++ new = last_set old pl sums new c.len-from.result is at same in
    with_items_is c.push_past.new.places (take c.len-from.result pl ++ (new ++ post_of c.len-from.result (length pl - c.len-from.result) pl))
    (omega (arith, ap length last, length-append old new, length-append old sums, ap length pushed, same, c.push_past.new.places.ok))
    ∙ last
    ∙ ap (λ (ps : List (Option ℕ)). old ++ ps) right
