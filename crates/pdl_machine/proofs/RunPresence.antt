-- Which slots have a watcher, and what they were told, after a step and over a run.
use Rattle.std.proofs.Common.{◌≡◌, ◌≢◌, ℕ, zero, suc, ◌+◌, List, [], ◌∷◌, ◌++◌, map, Bool, true, false, cond, Option, Some, None, Result, Ok, Err, refl, sym, ◌∙◌, ap, subst, append_assoc, eqb-true, eq-eqb}
use Rattle.std.specs.Prelude.{◌==◌, option_map, is_some, is_none, ◌&&◌, if◌then◌else◌, IsSome, IfOk, slice_set}
use Rattle.std.proofs.lemmas.List.{get_or-set_other}
use Rattle.pdl_lemmas.specs.Tests.{by_test}
use Rattle.pdl_lex.specs.Pieces.{Mark, statement, script_too_long, script_marks}
use Rattle.pdl_lex.specs.declared.Piece.TheVariants.{Whole, TooLong}
use Rattle.pdl_syntax.specs.StatementTree.{StatementTree, bind, bind_list, assign, show, show_text, sever, reshape, undef, vars, dump, flow, pp_def, watch, unwatch}
use Rattle.pdl_io.specs.Counts.{next_count}
use Rattle.pdl_watch.specs.declared.notice.Notice.{Notice}
use Rattle.pdl_watch.specs.Slots.{joined, IsBelow}
use Rattle.pdl_watch.specs.SlotLaws.{BelowItself, BelowTwice}
use Rattle.pdl_machine.specs.declared.fault.Fault.{Fault}
use Rattle.pdl_machine.specs.declared.fault.Fault.TheVariants.{BadWatcher}
use Rattle.pdl_machine.specs.Then.{and_then}
use Rattle.pdl_machine.specs.Names.{bound_to}
use Rattle.pdl_machine.specs.State.{State, kept}
use Rattle.pdl_machine.specs.Tidy.{older, tidy}
use Rattle.pdl_machine.specs.Watches.{Watches, watch_of, padded, attach, detach, is_present, AreThere}
use Rattle.pdl_machine.specs.Step.{Stepped, Done, left, done, watching, unwatching, effect, step}
use Rattle.pdl_machine.specs.Laws.{StepsKeepThere, StepsGiveNone}
use Rattle.pdl_machine.specs.Reads.{reads}
use Rattle.pdl_machine.specs.Run.{Terms, Progress, step_read, mark_step, line_of, fault_ends, counted, after, next_step, after_mark, after_marks, start, run}
use Rattle.pdl_machine.proofs.RunLemmas.{by_refusal}
use Rattle.pdl_machine.proofs.WatchLemmas.{watch_of_renamed, watch_of-padded, watch_of-trimmed}
use Rattle.pdl_machine.proofs.OutcomeOrder.{ok_always}
use Rattle.pdl_machine.proofs.StepWatches.{SameWatches, effect_watches}

left_below : BelowItself → (ps : List Bool) (k : ℕ) → IsBelow (slice_set ps k false) ps
left_below self [] k = tt
left_below self (p ∷ ps) zero = (λ h. cc, self ps)
left_below self (p ∷ ps) (suc k) = (λ h. h, left_below self ps k)

left_is_below : BelowItself → (ps : List Bool) (statement : StatementTree) → IsBelow (left ps statement) ps
left_is_below self ps (unwatch k) = left_below self ps k
left_is_below self ps (bind x e severs) = self ps
left_is_below self ps (bind_list xs e) = self ps
left_is_below self ps (assign x views sign e) = self ps
left_is_below self ps (show e is_info) = self ps
left_is_below self ps (show_text t) = self ps
left_is_below self ps (sever x) = self ps
left_is_below self ps (reshape x sizes) = self ps
left_is_below self ps (undef x) = self ps
left_is_below self ps vars = self ps
left_is_below self ps dump = self ps
left_is_below self ps (flow x e) = self ps
left_is_below self ps (pp_def f a b) = self ps
left_is_below self ps (watch x k) = self ps

pub steps_give_none : BelowItself → StepsGiveNone
steps_give_none self number present s tree came is = by_effect (effect present s tree) is
  where
    slots_of : List Bool → Result Done Fault → List Bool
    slots_of other (Ok d) = d.present
    slots_of other (Err e) = other

    by_effect : (x : Stepped) → and_then x (λ p. Ok (done number present s tree p)) ≡ Ok came → IsBelow came.present present
    by_effect (Ok p) is =
        let e : left present tree ≡ came.present = ap (slots_of present) is in
        subst (λ (ps : List Bool). IsBelow ps present) e (left_is_below self present tree)
    by_effect (Err f) is = cc

-- where each attached slot has a watcher, so it is under other numbers
renumbered_there : (g : ℕ → ℕ) (present : List Bool) (ws : Watches) → AreThere present ws → AreThere present (map (option_map g) ws)
renumbered_there g present ws there k attached =
    let P : Option ℕ → Type 0 = λ o. IsSome o in
    there k (was_some (watch_of ws k) (subst P (watch_of_renamed g ws k) attached))
  where
    was_some : (o : Option ℕ) → IsSome (option_map g o) → IsSome o
    was_some (Some v) h = h
    was_some None h = h

-- with a slot attached that has a watcher
attached_there : (present : List Bool) (ws : Watches) (j v : ℕ) → is_present present j ≡ true → AreThere present ws → AreThere present (attach ws j v)
attached_there present ws j v here there k is =
    let P : Option ℕ → Type 0 = λ o. IsSome o in
    by_test (k == j)
    (λ same. ap (is_present present) (eqb-true k j same) ∙ here)
    (λ other. there k (subst P (get_or-set_other (padded ws (j + 1)) j k (Some v) None (apart other) ∙ watch_of-padded ws (j + 1) k) is))
  where
    apart : (k == j) ≡ false → k ≢ j
    apart other same = let t : (k == j) ≡ true = eq-eqb k j same in cc

none_attached : (o : Option ℕ) → o ≡ None → IsSome o → ⊥
none_attached o none is = let f : is_some o ≡ false = ap is_some none in cc

freed : (ws : Watches) (j : ℕ) → watch_of (slice_set ws j None) j ≡ None
freed [] j = refl
freed (w ∷ ws) zero = refl
freed (w ∷ ws) (suc j) = freed ws j

-- a slot that is given up isn't attached, and others are as they were
given_up : (ws : Watches) (j : ℕ) → watch_of (detach ws j) j ≡ None
given_up ws j = watch_of-trimmed (slice_set ws j None) j ∙ freed ws j

others_stay : (ws : Watches) (j k : ℕ) → k ≢ j → watch_of (detach ws j) k ≡ watch_of ws k
others_stay ws j k other = watch_of-trimmed (slice_set ws j None) k ∙ get_or-set_other ws j k None None other

-- a slot that is given up is neither attached nor present
detached_there : (present : List Bool) (ws : Watches) (j : ℕ) → AreThere present ws → AreThere (slice_set present j false) (detach ws j)
detached_there present ws j there k is =
    let P : Option ℕ → Type 0 = λ o. IsSome o in
    by_test (k == j)
    (λ same. absurd (none_attached (watch_of (detach ws j) k) (ap (watch_of (detach ws j)) (eqb-true k j same) ∙ given_up ws j) is))
    (λ other. get_or-set_other present j k false false (apart other) ∙ there k (subst P (others_stay ws j k (apart other)) is))
  where
    apart : (k == j) ≡ false → k ≢ j
    apart other same = let t : (k == j) ≡ true = eq-eqb k j same in cc

first_true : (a b : Bool) → (a && b) ≡ true → a ≡ true
first_true true b h = refl
first_true false b h = h

abbrev ThereAfter : List Bool → State × List ℕ → Type 0
ThereAfter present after = AreThere present after.0.watches

watching_there : (present : List Bool) (s : State) (k v : ℕ) → AreThere present s.watches → IfOk (watching present s k v) (ThereAfter present)
watching_there present s k v there = by_room (is_present present k && is_none (watch_of s.watches k)) refl
  where
    by_room : (b : Bool) → (is_present present k && is_none (watch_of s.watches k)) ≡ b
        → IfOk (and_then (if b then Ok (attach s.watches k v) else Err BadWatcher) (λ ws. Ok (record s { watches = ws }, []))) (ThereAfter present)
    by_room true is = attached_there present s.watches k v (first_true (is_present present k) (is_none (watch_of s.watches k)) is) there
    by_room false is = tt

unwatching_there : (present : List Bool) (s : State) (k : ℕ) → AreThere present s.watches → IfOk (unwatching s k) (ThereAfter (slice_set present k false))
unwatching_there present s k there = by_slot (is_none (watch_of s.watches k))
  where
    by_slot : (b : Bool) → IfOk (and_then (if b then Err BadWatcher else Ok (detach s.watches k)) (λ ws. Ok (record s { watches = ws }, []))) (ThereAfter (slice_set present k false))
    by_slot true = tt
    by_slot false = detached_there present s.watches k there

same_there : (present : List Bool) (s : State) → AreThere present s.watches → (x : Stepped) → IfOk x (SameWatches s) → IfOk x (ThereAfter present)
same_there present s there (Ok after) same = subst (AreThere present) (sym same) there
same_there present s there (Err e) same = tt

effect_there : (present : List Bool) (s : State) (statement : StatementTree) → AreThere present s.watches → IfOk (effect present s statement) (ThereAfter (left present statement))
effect_there present s (watch x k) there =
    ok_always (ThereAfter present) (bound_to s.names x) (watching present s k) (λ v. watching_there present s k v there)
effect_there present s (unwatch k) there = unwatching_there present s k there
effect_there present s (bind x e severs) there = same_there present s there (effect present s (bind x e severs)) (effect_watches present s (bind x e severs) tt)
effect_there present s (bind_list xs e) there = same_there present s there (effect present s (bind_list xs e)) (effect_watches present s (bind_list xs e) tt)
effect_there present s (assign x views sign e) there = same_there present s there (effect present s (assign x views sign e)) (effect_watches present s (assign x views sign e) tt)
effect_there present s (show e is_info) there = same_there present s there (effect present s (show e is_info)) (effect_watches present s (show e is_info) tt)
effect_there present s (show_text t) there = there
effect_there present s (sever x) there = same_there present s there (effect present s (sever x)) (effect_watches present s (sever x) tt)
effect_there present s (reshape x sizes) there = same_there present s there (effect present s (reshape x sizes)) (effect_watches present s (reshape x sizes) tt)
effect_there present s (undef x) there = same_there present s there (effect present s (undef x)) (effect_watches present s (undef x) tt)
effect_there present s vars there = there
effect_there present s dump there = same_there present s there (effect present s dump) (effect_watches present s dump tt)
effect_there present s (flow x e) there = same_there present s there (effect present s (flow x e)) (effect_watches present s (flow x e) tt)
effect_there present s (pp_def f a b) there = same_there present s there (effect present s (pp_def f a b)) (effect_watches present s (pp_def f a b) tt)

pub steps_keep_there : StepsKeepThere
steps_keep_there number present s tree came there is = by_effect (effect present s tree) (effect_there present s tree there) is
  where
    slots_of : Watches × List Bool → Result Done Fault → Watches × List Bool
    slots_of other (Ok d) = (d.state.watches, d.present)
    slots_of other (Err e) = other

    by_effect : (x : Stepped) → IfOk x (ThereAfter (left present tree)) → and_then x (λ p. Ok (done number present s tree p)) ≡ Ok came → AreThere came.present came.state.watches
    by_effect (Ok p) fine is =
        let P : Watches × List Bool → Type 0 = λ w. AreThere w.1 w.0 in
        let e : ((tidy p.0).watches, left present tree) ≡ (came.state.watches, came.present) = ap (slots_of ([], [])) is in
        subst P e (renumbered_there (older (kept p.0)) (left present tree) p.0.watches fine)
    by_effect (Err f) fine is = cc

joined_none : (xs : List (List Notice)) → joined xs [] ≡ xs
joined_none [] = refl
joined_none (x ∷ xs) = refl

joined_twice : (xs ys zs : List (List Notice)) → joined (joined xs ys) zs ≡ joined xs (joined ys zs)
joined_twice [] ys zs = refl
joined_twice (x ∷ xs) [] zs = refl
joined_twice (x ∷ xs) (y ∷ ys) [] = refl
joined_twice (x ∷ xs) (y ∷ ys) (z ∷ zs) =
    ap (λ (ns : List Notice). ns ∷ joined (joined xs ys) zs) (append_assoc x y z) ∙ ap (λ (all : List (List Notice)). (x ++ (y ++ z)) ∷ all) (joined_twice xs ys zs)

-- what slots are told by a statement
abbrev told_by : Result Done Fault → List (List Notice)
told_by (Ok d) = d.told
told_by (Err e) = []

after-told : (ends : Bool) (p : Progress) (line : ℕ) (r : Result Done Fault) → (after ends p line r).told ≡ joined p.told (told_by r)
after-told ends p line (Ok d) = refl
after-told ends p line (Err e) = sym (joined_none p.told)

mark_told : (terms : Terms) (p : Progress) (m : Mark) → (more : List (List Notice)) × ((after_mark terms p m).told ≡ joined p.told more)
mark_told terms p m =
    by_refusal (λ q. (more : List (List Notice)) × (q.told ≡ joined p.told more)) terms p m
    ([], sym (joined_none p.told))
    (told_by (next_step p m), after-told (fault_ends terms.keep m) (counted p) (line_of m) (next_step p m))

-- what was told stays at the front
pub told_stays : (terms : Terms) (p : Progress) (ms : List Mark) → (more : List (List Notice)) × ((after_marks terms p ms).told ≡ joined p.told more)
told_stays terms p [] = ([], sym (joined_none p.told))
told_stays terms p (m ∷ ms) =
    let more = told_stays terms (after_mark terms p m) ms in
    let first = mark_told terms p m in
    elim p.ended as (λ b. (more : List (List Notice)) × ((cond b p (after_marks terms (after_mark terms p m) ms)).told ≡ joined p.told more)) [
      | true ↦ ([], sym (joined_none p.told))
      | false ↦ (
        joined first.0 more.0,
        more.1 ∙ ap (λ (all : List (List Notice)). joined all more.0) first.1 ∙ joined_twice p.told first.0 more.0,
      )
    ]

-- what holds of slots by each step holds over statements, whatever faults come
mark_below : BelowItself → (number : ℕ) (present : List Bool) (s : State) (m : Mark) → IfOk (mark_step number present s m) (λ d. IsBelow d.present present)
mark_below self number present s (statement (Whole cut)) = by_reading (reads cut.text)
  where
    by_step : (tree : StatementTree) (r : Result Done Fault) → step number present s tree ≡ r → IfOk r (λ d. IsBelow d.present present)
    by_step tree (Ok d) is = steps_give_none self number present s tree d is
    by_step tree (Err e) is = tt

    by_reading : (r : Result StatementTree Fault) → IfOk (step_read number present s r) (λ d. IsBelow d.present present)
    by_reading (Ok tree) = by_step tree (step number present s tree) refl
    by_reading (Err e) = tt
mark_below self number present s (statement (TooLong line)) = tt
mark_below self number present s (script_too_long line) = tt

pub none_comes : BelowItself → BelowTwice → (terms : Terms) (p : Progress) (ms : List Mark) → IsBelow (after_marks terms p ms).present p.present
none_comes self twice terms p [] = self p.present
none_comes self twice terms p (m ∷ ms) =
    let next : IsBelow (after_marks terms (after_mark terms p m) ms).present p.present =
    twice (after_marks terms (after_mark terms p m) ms).present (after_mark terms p m).present p.present (none_comes self twice terms (after_mark terms p m) ms)
    (by_refusal (λ q. IsBelow q.present p.present) terms p m (self p.present) (by_result (next_step p m) (mark_below self (next_count p.count) p.present p.state m))) in
    elim p.ended as (λ b. IsBelow (cond b p (after_marks terms (after_mark terms p m) ms)).present p.present) [
      | true ↦ self p.present
      | false ↦ next
    ]
  where
    by_result : (r : Result Done Fault) → IfOk r (λ d. IsBelow d.present p.present) → IsBelow (after (fault_ends terms.keep m) (counted p) (line_of m) r).present p.present
    by_result (Ok d) h = h
    by_result (Err e) h = self p.present

mark_there : (number : ℕ) (present : List Bool) (s : State) (m : Mark) → AreThere present s.watches → IfOk (mark_step number present s m) (λ d. AreThere d.present d.state.watches)
mark_there number present s (statement (Whole cut)) there = by_reading (reads cut.text)
  where
    by_step : (tree : StatementTree) (r : Result Done Fault) → step number present s tree ≡ r → IfOk r (λ d. AreThere d.present d.state.watches)
    by_step tree (Ok d) is = steps_keep_there number present s tree d there is
    by_step tree (Err e) is = tt

    by_reading : (r : Result StatementTree Fault) → IfOk (step_read number present s r) (λ d. AreThere d.present d.state.watches)
    by_reading (Ok tree) = by_step tree (step number present s tree) refl
    by_reading (Err e) = tt
mark_there number present s (statement (TooLong line)) there = tt
mark_there number present s (script_too_long line) there = tt

pub stay_there : (terms : Terms) (p : Progress) (ms : List Mark) → AreThere p.present p.state.watches → AreThere (after_marks terms p ms).present (after_marks terms p ms).state.watches
stay_there terms p [] there = there
stay_there terms p (m ∷ ms) there =
    let first = by_refusal (λ q. AreThere q.present q.state.watches) terms p m there (by_result (next_step p m) (mark_there (next_count p.count) p.present p.state m there)) in
    let next = stay_there terms (after_mark terms p m) ms first in
    elim p.ended as (λ b. AreThere (cond b p (after_marks terms (after_mark terms p m) ms)).present (cond b p (after_marks terms (after_mark terms p m) ms)).state.watches) [
      | true ↦ there
      | false ↦ next
    ]
  where
    by_result : (r : Result Done Fault) → IfOk r (λ d. AreThere d.present d.state.watches)
        → AreThere (after (fault_ends terms.keep m) (counted p) (line_of m) r).present (after (fault_ends terms.keep m) (counted p) (line_of m) r).state.watches
    by_result (Ok d) h = h
    by_result (Err e) h = there

pub none_comes_in_a_run : BelowItself → BelowTwice → (terms : Terms) (script : List ℕ) → IsBelow (run terms script).present terms.present
none_comes_in_a_run self twice terms script = none_comes self twice terms (start terms) (script_marks script)

pub are_there_in_a_run : (terms : Terms) (script : List ℕ) → AreThere (run terms script).present (run terms script).state.watches
are_there_in_a_run terms script = stay_there terms (start terms) (script_marks script) (λ k is. absurd (none_attached (watch_of [] k) refl is))
