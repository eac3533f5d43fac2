-- What a session keeps from one statement to the next, and what it moves.
use Rattle.std.proofs.Common.{◌≡◌, ℕ, ℤ, ◌+◌, ◌≤◌, Bool, true, false, List, [], ◌∷◌, ◌++◌, map, Option, Some, None, Result, Ok, Err, refl, sym, ap, subst, ◌∙◌, arith, eq-eqb, eqb-true}
use Rattle.std.specs.Option.{option_map_or}
use Rattle.std.specs.Prelude.{◌==◌, if◌then◌else◌, nat_eq, is_ok, IfSome, IsSomeAnd, OnErr, OnOk}
use Rattle.std.specs.Cmp.Lexicographic.{pointwise}
use Rattle.pdl_lemmas.specs.Tests.{by_test}
use Rattle.pdl_shape.specs.Shape.{size_of}
use Rattle.pdl_buf.specs.declared.made.Made.{Made}
use Rattle.pdl_world.specs.BaseLaws.{IsShownAsBefore, ReachedKeepBases, SweepsLeaveLooks}
use Rattle.pdl_ops.specs.Elementwise.{OpRefusal}
use Rattle.pdl_flow.specs.Meaning.{meaning}
use Rattle.pdl_world.specs.Laws.{OlderPathsStay, OlderStay, PathsStay}
use Rattle.pdl_world.specs.Paths.{path, root_of}
use Rattle.pdl_world.specs.Sound.{IsLive, IsSound}
use Rattle.pdl_world.specs.Swept.{is_listed, sweep, held_itself}
use Rattle.pdl_world.specs.SweepLaws.{NewGoesUnheld, ReachedAreSeenAsBefore}
use Rattle.pdl_world.specs.Windows.{base}
use Rattle.pdl_world.specs.World.{World, ArrayDef, Look, look, root, dims_in, has_repeats, places_in, assign as assign_in}
use Rattle.pdl_engine.specs.Held.{written_back as written_back_in}
use Rattle.pdl_engine.specs.Reading.{IsWarm, KeepsViews, read_steps, view_as}
use Rattle.pdl_engine.specs.State.{is_fresh}
use Rattle.pdl_lexemes.specs.declared.AssignOp.{AssignOp}
use Rattle.pdl_syntax.specs.StatementTree.{StatementTree, assign, bind, bind_list, pp_def, reshape, sever, show, show_text, undef, unwatch, vars, watch, dump, flow}
use Rattle.pdl_syntax.specs.Tree.{Tree, number, named, literal, unary, binary, call}
use Rattle.pdl_machine.specs.declared.fault.Fault.{Fault}
use Rattle.pdl_machine.specs.declared.fault.Fault.TheVariants.{FlowTarget}
use Rattle.pdl_machine.specs.Flows.{Flows, Needs, followers, is_flow}
use Rattle.pdl_machine.specs.Following.{follow, followed, given}
use Rattle.pdl_machine.specs.Arrays.{Arrays, array_in, with_new}
use Rattle.pdl_machine.specs.Dumpable.{IsSpelled}
use Rattle.pdl_machine.specs.Laws.{AreGrown}
use Rattle.pdl_machine.specs.Names.{Named, found, number_of}
use Rattle.pdl_machine.specs.Outcome.{Valued}
use Rattle.pdl_machine.specs.State.{State, AreLive, IsSwept, IsWhole, held, kept, needs, with_arrays, with_world}
use Rattle.pdl_machine.specs.Step.{Stepped, assigned, assigning, effect, flowed, target_in, unless_flow}
use Rattle.pdl_machine.specs.Then.{and_then}
use Rattle.pdl_machine.specs.Tidy.{settled, tidy}
use Rattle.pdl_machine.specs.Operators.{values_for}
use Rattle.pdl_machine.specs.Value.{known, number_made, value_of}
use Rattle.pdl_machine.specs.Watches.{attached}
use Rattle.pdl_scope.specs.declared.fault.ScopeFault.{ScopeFault}
use Rattle.pdl_scope.specs.Answers.{Prints, Runs}
use Rattle.pdl_scope.specs.Costs.{IsInOrder, NewArraysGoUnwritten}
use Rattle.pdl_scope.specs.Growth.{as_grown, unread}
use Rattle.pdl_scope.specs.Scope.{Scope, engine_of, machine, Grows, OnlyReads}
use Rattle.pdl_session.specs.Bounds.{AssignsPlainly, LeavesReadable, MovesPlainly, PrintsPlainly, RunsInPlace, plain_count, warm_after}
use Rattle.pdl_session.specs.Session.{IsAsBefore, IsAtRest, IsKeptWarm}
use Rattle.pdl_session.proofs.ScopeFacts.{state_is}
use Rattle.pdl_session.proofs.WorldGrown.{grown_look}
use Rattle.pdl_session.proofs.FlowNeeds.{HaveSamePaths, grown_paths, held_needed, held_past, needs_same, whole_needs_live}

-- each array of a list of live ones is live
live_held : (w : World) (vs : List ℕ) (v : ℕ) → AreLive w vs → is_listed vs v ≡ true → IsLive w v
live_held w [] v live h = cc
live_held w (u ∷ vs) v live h = by_test (u == v)
    (λ is. subst (IsLive w) (eqb-true u v is) live.0)
    (λ other. live_held w vs v live.1 (rw other at h))

-- the array of a name is held
found_held : (names : Named ℕ) (more : List ℕ) (x : List ℕ) → IfSome (found names x) (λ v. is_listed (map (λ n. n.1) names ++ more) v ≡ true)
found_held [] more x = tt
found_held (n ∷ names) more x = by_name (pointwise nat_eq x n.0) (found names x) (found_held names more x)
  where
    by_name : (same : Bool) (o : Option ℕ) → IfSome o (λ v. is_listed (map (λ n. n.1) names ++ more) v ≡ true) → IfSome (if same then Some n.1 else o) (λ v. is_listed (map (λ n. n.1) (n ∷ names) ++ more) v ≡ true)
    by_name true o rest = rw (eq-eqb n.1 n.1 refl) refl
    by_name false None rest = tt
    by_name false (Some v) rest = held_past n.1 v (map (λ n. n.1) names ++ more) rest

pub name_held : (s : State) (x : List ℕ) (v : ℕ) → number_of s.names x ≡ Some v → is_listed (held s) v ≡ true
name_held s x v is = subst (λ o. IfSome o (λ u. is_listed (held s) u ≡ true)) is (found_held s.names.arrays (attached s.watches) x)

pub name_live : (s : State) (x : List ℕ) (v : ℕ) → IsWhole s → number_of s.names x ≡ Some v → IsLive s.arrays.world v
name_live s x v whole is = live_held s.arrays.world (held s) v whole.live (name_held s x v is)

-- new arrays that aren't held leave nothing of a sweep
grown_sweep : NewGoesUnheld → OlderStay → (more w : World) (vs : List ℕ) → IsSound (more ++ w) → AreLive w vs → sweep (more ++ w) vs ≡ sweep w vs
grown_sweep goes older [] w vs sound live = refl
grown_sweep goes older ((k, d) ∷ more) w vs sound live =
    let there : (v : ℕ) → is_listed vs v ≡ true → IsLive (more ++ w) v = λ v h.
    (let l : IsLive w v = live_held w vs v live h in subst (λ o. IsSomeAnd o (λ l. Unit {0})) (sym (grown_look older more w v sound.2 l)) l) in
    goes (more ++ w) k d vs sound.0 there ∙ grown_sweep goes older more w vs sound.2 live

pub swept_grown : NewGoesUnheld → OlderStay → (old new : Arrays) (vs : List ℕ) → AreGrown old new → IsSound new.world → AreLive old.world vs → sweep new.world vs ≡ sweep old.world vs
swept_grown goes older old new vs grown sound live =
    ap (λ w. sweep w vs) grown.is ∙ grown_sweep goes older grown.more old.world vs (subst IsSound grown.is sound) live

-- the laws that this takes from worlds
pub record Laws : Type 0 where
  pub goes : NewGoesUnheld
  pub older : OlderStay
  pub paths : OlderPathsStay
  pub assigned_paths : PathsStay
  pub bases : ReachedKeepBases
  pub seen : ReachedAreSeenAsBefore
  pub assigned : SweepsLeaveLooks

-- A statement has run from one scope to another, and then what nothing reaches was let go.
pub record LetsGo (old mid new : Scope) : Type 0 where
  pub whole : IsWhole (machine old)
  pub swept : IsSwept (machine old)
  pub ran : IsWhole (machine mid)
  pub gone : machine new ≡ with_world (settled (machine mid)) (kept (machine mid))
  pub stay : (v : ℕ) → IsLive new.arrays.world v → is_fresh (engine_of mid) v ≡ true → is_fresh (engine_of new) v ≡ true

world_is : (old mid new : Scope) → LetsGo old mid new → new.arrays.world ≡ kept (machine mid)
world_is old mid new h = ap (λ (s : State). s.arrays.world) h.gone

-- where only new arrays came, the same is needed
grown_needs : Laws → (old mid new : Scope) → LetsGo old mid new → Grows old mid → needs (machine mid) ≡ needs (machine old)
grown_needs laws old mid new h grown =
    ap needs (state_is old mid grown)
    ∙ needs_same old.arrays.world mid.arrays.world old.flows (held (machine old))
    (grown_paths laws.older laws.paths old.arrays mid.arrays (needs (machine old)).arrays (as_grown old mid grown) h.ran.sound (whole_needs_live (machine old) h.whole))

-- and the arrays of before are left
pub grown_back : Laws → (old mid new : Scope) → LetsGo old mid new → Grows old mid → new.arrays.world ≡ old.arrays.world
grown_back laws old mid new h grown =
    world_is old mid new h
    ∙ ap (λ (n : Needs). sweep mid.arrays.world n.arrays) (grown_needs laws old mid new h grown)
    ∙ swept_grown laws.goes laws.older old.arrays mid.arrays (needs (machine old)).arrays (as_grown old mid grown) h.ran.sound (whole_needs_live (machine old) h.whole)
    ∙ h.swept.arrays

-- after a refusal nothing is moved when arrays are let go
pub refused_unmoved : {T : Type 0} → Laws → NewArraysGoUnwritten → (r : Result T ScopeFault) (x : Stepped) (old mid new : Scope) (now after : ℕ) (o n : List ℕ) → LetsGo old mid new → IsInOrder old → IsInOrder mid → Runs x old mid o n r
    → now ≤ after → after ≤ now + written_back_in (engine_of mid) new.arrays.world mid.arrays.world → OnErr r (after ≡ now)
refused_unmoved laws unwritten (Ok y) x old mid new now after o n h first last ran risen written = tt
refused_unmoved laws unwritten (Err e) x old mid new now after o n h first last ran risen written =
    let back : new.arrays.world ≡ old.arrays.world = grown_back laws old mid new h ran.1.grown in
    let none : written_back_in (engine_of mid) new.arrays.world mid.arrays.world ≡ 0 = unwritten old mid first last ran.1.grown new.arrays.world (λ v live. subst (λ w. IsLive w v) (sym back) live) in
    omega (arith, risen, written, none)

-- so where arrays were read
pub reads_back : Laws → (old mid new : Scope) → LetsGo old mid new → OnlyReads old mid → new.arrays.world ≡ old.arrays.world
reads_back laws old mid new h reads = world_is old mid new h ∙ ap kept (unread old mid reads) ∙ h.swept.arrays

-- The arrays have the same paths, and are seen alike after every sweep, whatever their elements are.
record IsSeenAlike (w z : World) : Type 0 where
  looks : (held : List ℕ) (u : ℕ) → look (sweep z held) u ≡ look (sweep w held) u
  paths : (u : ℕ) → path z u ≡ path w u

alike_itself : (w : World) → IsSeenAlike w w
alike_itself w = record { looks = λ held u. refl; paths = λ u. refl }

alike_assigned : Laws → (w z : World) (v : ℕ) (values : List ℤ) → IsSeenAlike w z → IsSeenAlike w (assign_in z v values)
alike_assigned laws w z v values h = record {
  looks = λ held u. laws.assigned z v u values held ∙ h.looks held u;
  paths = λ u. laws.assigned_paths z v u values ∙ h.paths u;
}

-- so after flows followed
alike_given : Laws → (w : World) (a : Arrays) (r : ℕ) (x : Result Made OpRefusal) → IsSeenAlike w a.world → IsSeenAlike w (given a r x).world
alike_given laws w a r (Ok m) h = alike_assigned laws w a.world r m.elems h
alike_given laws w a r (Err refusal) h = h

alike_followed : Laws → (w : World) (a : Arrays) (flows : Flows) → IsSeenAlike w a.world → IsSeenAlike w (followed a flows).world
alike_followed laws w a [] h = h
alike_followed laws w a (f ∷ flows) h = alike_followed laws w (follow a f) flows (alike_given laws w a f.root (meaning (array_in a) f.formula) h)

-- a root was made, values were assigned, and flows followed
record IsWritten (s new : State) : Type 0 where
  d : ArrayDef
  after : Arrays
  alike : IsSeenAlike ((s.arrays.next, d) ∷ s.arrays.world) after.world
  is : new ≡ with_arrays s after

values_written : Laws → (s new : State) (a : Arrays) (d : ArrayDef) (v : ℕ) (o n : List ℕ) (r : Result (List ℤ) Fault) → a.world ≡ (s.arrays.next, d) ∷ s.arrays.world
    → Prints (and_then (and_then r (λ values. Ok (record a { world = assign_in a.world v values }))) (λ b. Ok (flowed (with_arrays s b), []))) new o n → IsWritten s new
values_written laws s new a d v o n (Err e) is h = absurd h
values_written laws s new a d v o n (Ok values) is h =
    let b : Arrays = record a { world = assign_in a.world v values } in
    let w : World = (s.arrays.next, d) ∷ s.arrays.world in
    let begun : IsSeenAlike w b.world = alike_assigned laws w a.world v values (subst (IsSeenAlike w) (sym is) (alike_itself w)) in
    record { d = d; after = followed b s.flows; alike = alike_followed laws w b s.flows begun; is = h.0 }

-- of the arrays after the root, whatever it is
root_written : Laws → (s new : State) (d : ArrayDef) (v : ℕ) (sign : AssignOp) (o n : List ℕ) → Prints (and_then (assigned sign (with_new s.arrays d).0 v s.arrays.next) (λ a. Ok (flowed (with_arrays s a), []))) new o n → IsWritten s new
root_written laws s new d v sign o n h =
    let a = (with_new s.arrays d).0 in
    values_written laws s new a d v o n (values_for sign (array_in a v) (array_in a s.arrays.next)) refl h

-- what is written where the right side is a number or a list
abbrev after_target : State → AssignOp → Tree → Valued → Stepped
after_target s sign e x = and_then x (λ v. and_then (value_of s.names v.0 e) (λ u. and_then (assigned sign u.0 v.1 u.1) (λ a. Ok (flowed (with_arrays s a), []))))

written : Laws → (s new : State) (x : List ℕ) (sign : AssignOp) (e : Tree) (count : ℕ) (o n : List ℕ) → plain_count e ≡ Some count → Prints (assigning s (named x) sign e) new o n → IsWritten s new
written laws s new x sign e count o n plain h = by_name (number_of s.names x) h
  where
    by_value : (v : ℕ) (e : Tree) → plain_count e ≡ Some count → Prints (after_target s sign e (Ok (s.arrays, v))) new o n → IsWritten s new
    by_value v (number k) plain h = root_written laws s new (root (number_made k).ty [] (k ∷ [])) v sign o n h
    by_value v (literal ty ds es) plain h = root_written laws s new (root ty ds es) v sign o n h
    by_value v (named y) plain h = absurd (cc)
    by_value v (unary op f) plain h = absurd (cc)
    by_value v (binary op f g) plain h = absurd (cc)
    by_value v (call f args) plain h = absurd (cc)

    by_flow : (v : ℕ) (flowing : Bool) → Prints (after_target s sign e (if flowing then Err FlowTarget else Ok (s.arrays, v))) new o n → IsWritten s new
    by_flow v true h = absurd h
    by_flow v false h = by_value v e plain h

    by_name : (b : Option ℕ) → Prints (after_target s sign e (and_then (known s.arrays b) (unless_flow s.flows))) new o n → IsWritten s new
    by_name None h = absurd h
    by_name (Some v) h = by_flow v (is_flow s.flows (root_of s.arrays.world v)) h

-- what is seen then is what was seen before, once the root is let go
written_back : Laws → (old mid new : Scope) (u : ℕ) → LetsGo old mid new → IsWritten (machine old) (machine mid) → look new.arrays.world u ≡ look old.arrays.world u
written_back laws old mid new u h w =
    let vs = (needs (machine old)).arrays in
    let first = (old.arrays.next, w.d) ∷ old.arrays.world in
    let live = whole_needs_live (machine old) h.whole in
    ap (λ z. look z u) (world_is old mid new h)
    ∙ ap (λ s. look (kept s) u) w.is
    ∙ ap (λ (n : Needs). look (sweep w.after.world n.arrays) u) (needs_same old.arrays.world w.after.world old.flows (held (machine old)) (paths_back laws old w.d w.after.world h.whole w.alike vs live))
    ∙ w.alike.looks vs u
    ∙ ap (λ z. look z u) (laws.goes old.arrays.world old.arrays.next w.d vs h.whole.below (λ v held. live_held old.arrays.world vs v live held) ∙ h.swept.arrays)
  where
    paths_back : Laws → (s : Scope) (d : ArrayDef) (z : World) → IsWhole (machine s) → IsSeenAlike ((s.arrays.next, d) ∷ s.arrays.world) z → (vs : List ℕ) → AreLive s.arrays.world vs → HaveSamePaths s.arrays.world z vs
    paths_back laws s d z whole alike [] live = tt
    paths_back laws s d z whole alike (v ∷ vs) live =
        (alike.paths v ∙ laws.paths s.arrays.world s.arrays.next v d whole.below live.0, paths_back laws s d z whole alike vs live.1)

-- an assignment leaves names, and watches
assigned_names : (s new : State) (to : Tree) (sign : AssignOp) (e : Tree) (o n : List ℕ) → Prints (assigning s to sign e) new o n → new.names ≡ s.names
assigned_names s new to sign e o n h = by_target (target_in s to) h
  where
    by_values : (t : Result Arrays Fault) → Prints (and_then t (λ a. Ok (flowed (with_arrays s a), []))) new o n → new.names ≡ s.names
    by_values (Err f) h = absurd h
    by_values (Ok a) h = ap (λ (t : State). t.names) h.0

    by_value : (v : ℕ) (t : Valued) → Prints (and_then t (λ u. and_then (assigned sign u.0 v u.1) (λ a. Ok (flowed (with_arrays s a), [])))) new o n → new.names ≡ s.names
    by_value v (Err f) h = absurd h
    by_value v (Ok u) h = by_values (assigned sign u.0 v u.1) h

    by_target : (t : Valued) → Prints (after_target s sign e t) new o n → new.names ≡ s.names
    by_target (Err f) h = absurd h
    by_target (Ok v) h = by_value v.1 (value_of s.names v.0 e) h

-- an array that is held stays warm
warm_held : Laws → (old mid new : Scope) (v : ℕ) → LetsGo old mid new → is_listed (held (machine mid)) v ≡ true → IsWarm (engine_of mid) v → IsKeptWarm new v
warm_held laws old mid new v h is warm =
    let vs = (needs (machine mid)).arrays in
    let w = mid.arrays.world in
    let needed : is_listed vs v ≡ true = held_needed w mid.flows (held (machine mid)) v is in
    let live : IsLive w v = live_held w (held (machine mid)) v h.ran.live is in
    let there : IsLive (sweep w vs) v = subst (λ o. IsSomeAnd o (λ l. Unit {0})) (sym (laws.seen w vs v h.ran.sound (held_itself v needed)).look_is) live in
    let kept : IsShownAsBefore w (sweep w vs) v = laws.bases w vs v h.ran.sound (held_itself v needed) in
    let left : IsLive new.arrays.world v = subst (λ z. IsLive z v) (sym (world_is old mid new h)) there in
    let same : places_in new.arrays.world (base new.arrays.world v) ≡ places_in w (base w v) =
    ap (λ z. places_in z (base z v)) (world_is old mid new h) ∙ ap (places_in (sweep w vs)) kept.base_is ∙ ap (λ o. option_map_or (λ (l : Look). l.places) o []) kept.base_look_is in
    (left, λ none. h.stay v left (warm (ap has_repeats (sym same) ∙ none)))

-- after a statement: what it assigned to is warm
pub assigned_warm : Laws → (present : List Bool) (st : StatementTree) (old mid new : Scope) (o n : List ℕ) → LetsGo old mid new → Prints (effect present (machine old) st) (machine mid) o n → LeavesReadable st old mid
    → IfSome (warm_after old st) (IsKeptWarm new)
assigned_warm laws present (assign x [] sign e) old mid new o n h ran readable = by_name (number_of old.names x) refl readable
  where
    by_name : (b : Option ℕ) → number_of old.names x ≡ b → IfSome b (IsWarm (engine_of mid)) → IfSome b (IsKeptWarm new)
    by_name None is warm = tt
    by_name (Some v) is warm =
        let bound : number_of mid.names x ≡ Some v = ap (λ names. number_of names x) (assigned_names (machine old) (machine mid) (named x) sign e o n ran) ∙ is in
        warm_held laws old mid new v h (name_held (machine mid) x v bound) warm
assigned_warm laws present (assign x (v ∷ vs) sign e) old mid new o n h ran readable = tt
assigned_warm laws present (bind x e severs) old mid new o n h ran readable = tt
assigned_warm laws present (bind_list xs e) old mid new o n h ran readable = tt
assigned_warm laws present (show e info) old mid new o n h ran readable = tt
assigned_warm laws present (show_text t) old mid new o n h ran readable = tt
assigned_warm laws present (sever x) old mid new o n h ran readable = tt
assigned_warm laws present (reshape x sizes) old mid new o n h ran readable = tt
assigned_warm laws present (undef x) old mid new o n h ran readable = tt
assigned_warm laws present vars old mid new o n h ran readable = tt
assigned_warm laws present dump old mid new o n h ran readable = tt
assigned_warm laws present (flow x e) old mid new o n h ran readable = tt
assigned_warm laws present (pp_def f s c) old mid new o n h ran readable = tt
assigned_warm laws present (watch x k) old mid new o n h ran readable = tt
assigned_warm laws present (unwatch k) old mid new o n h ran readable = tt

-- after a refused one what was warm is
pub refused_warm : Laws → (old mid new : Scope) (warm : Option ℕ) → LetsGo old mid new → Grows old mid → IfSome warm (IsKeptWarm old) → IfSome warm (IsKeptWarm new)
refused_warm laws old mid new None h grown before = tt
refused_warm laws old mid new (Some v) h grown before =
    let back : new.arrays.world ≡ old.arrays.world = grown_back laws old mid new h grown in
    let left : IsLive new.arrays.world v = subst (λ z. IsLive z v) (sym back) before.0 in
    (left, λ none. h.stay v left (grown.stay v (before.1 (ap (λ z. has_repeats (places_in z (base z v))) (sym back) ∙ none))))

-- and the scope is as before
pub as_before : {T : Type 0} → Laws → (r : Result T ScopeFault) (wanted : Stepped) (old mid new : Scope) (o n : List ℕ) → LetsGo old mid new → Runs wanted old mid o n r → OnErr r (IsAsBefore old new)
as_before laws (Ok t) wanted old mid new o n h ran = tt
as_before laws (Err f) wanted old mid new o n h ran =
    let grown : Grows old mid = ran.1.grown in
    let back : new.arrays.world ≡ old.arrays.world = grown_back laws old mid new h grown in
    record {
      names = ap (λ (s : State). s.names) h.gone ∙ grown.names;
      world = back;
      watches = ap (λ (s : State). s.watches) h.gone ∙ grown.watches;
      flows = ap (λ (s : State). s.flows) h.gone ∙ ap (λ (m : Needs). m.flows) (grown_needs laws old mid new h grown) ∙ h.swept.flows;
      lent = λ v live fresh. h.stay v (subst (λ z. IsLive z v) (sym back) live) (grown.stay v fresh);
    }

-- what a statement leaves readable can be read after the others were let go
pub left_readable : Laws → (present : List Bool) (st : StatementTree) (old mid new : Scope) (before after : ℕ) (o n : List ℕ) → LetsGo old mid new → Prints (effect present (machine old) st) (machine mid) o n → MovesPlainly st old mid before after
    → LeavesReadable st old mid → LeavesReadable st old new
left_readable laws present (assign x [] sign e) old mid new before after o n h ran moves readable =
    by_name (number_of old.names x) (assigned_warm laws present (assign x [] sign e) old mid new o n h ran readable)
  where
    by_name : (b : Option ℕ) → IfSome b (IsKeptWarm new) → IfSome b (IsWarm (engine_of new))
    by_name None warm = tt
    by_name (Some v) warm = warm.1
left_readable laws present (show (named x) false) old mid new before after o n h ran moves readable = by_name (number_of old.names x) refl readable
  where
    by_name : (b : Option ℕ) → number_of old.names x ≡ b → IfSome b (λ v. is_fresh (engine_of mid) v ≡ true) → IfSome b (λ v. is_fresh (engine_of new) v ≡ true)
    by_name None is fresh = tt
    by_name (Some v) is fresh =
        let back : new.arrays.world ≡ old.arrays.world = reads_back laws old mid new h moves.reads in
        h.stay v (subst (λ z. IsLive z v) (sym back) (name_live (machine old) x v h.whole is)) fresh
left_readable laws present (assign x (v ∷ vs) sign e) old mid new before after o n h ran moves readable = tt
left_readable laws present (show (named x) true) old mid new before after o n h ran moves readable = tt
left_readable laws present (show (number k) info) old mid new before after o n h ran moves readable = tt
left_readable laws present (show (literal ty ds es) info) old mid new before after o n h ran moves readable = tt
left_readable laws present (show (unary op e) info) old mid new before after o n h ran moves readable = tt
left_readable laws present (show (binary op e f) info) old mid new before after o n h ran moves readable = tt
left_readable laws present (show (call f args) info) old mid new before after o n h ran moves readable = tt
left_readable laws present (bind x e severs) old mid new before after o n h ran moves readable = tt
left_readable laws present (bind_list xs e) old mid new before after o n h ran moves readable = tt
left_readable laws present (show_text t) old mid new before after o n h ran moves readable = tt
left_readable laws present (sever x) old mid new before after o n h ran moves readable = tt
left_readable laws present (reshape x sizes) old mid new before after o n h ran moves readable = tt
left_readable laws present (undef x) old mid new before after o n h ran moves readable = tt
left_readable laws present vars old mid new before after o n h ran moves readable = tt
left_readable laws present dump old mid new before after o n h ran moves readable = tt
left_readable laws present (flow x e) old mid new before after o n h ran moves readable = tt
left_readable laws present (pp_def f s c) old mid new before after o n h ran moves readable = tt
left_readable laws present (watch x k) old mid new before after o n h ran moves readable = tt
left_readable laws present (unwatch k) old mid new before after o n h ran moves readable = tt

-- the arrays of before are seen as before where a number or a list is assigned to a bare name
seen_back : {T : Type 0} → Laws → (present : List Bool) (r : Result T ScopeFault) (x : List ℕ) (sign : AssignOp) (e : Tree) (count u : ℕ) (old mid new : Scope) (o n : List ℕ) → LetsGo old mid new → plain_count e ≡ Some count
    → Runs (effect present (machine old) (assign x [] sign e)) old mid o n r → look new.arrays.world u ≡ look old.arrays.world u
seen_back laws present (Ok t) x sign e count u old mid new o n h plain ran =
    written_back laws old mid new u h (written laws (machine old) (machine mid) x sign e count o n plain ran)
seen_back laws present (Err f) x sign e count u old mid new o n h plain ran =
    ap (λ z. look z u) (grown_back laws old mid new h ran.1.grown)

-- a number or a list is assigned again to an array that is warm
pub again : {T : Type 0} → Laws → (present : List Bool) (r : Result T ScopeFault) (st : StatementTree) (warm : Option ℕ) (old mid new : Scope) (before now after : ℕ) (o n : List ℕ) → LetsGo old mid new
    → IfSome warm (IsKeptWarm old) → Runs (effect present (machine old) st) old mid o n r → MovesPlainly st old mid before now → (KeepsViews mid.arrays.world new.arrays.world → after ≡ now)
    → (x : List ℕ) (sign : AssignOp) (e : Tree) (v count : ℕ) → st ≡ assign x [] sign e → plain_count e ≡ Some count → number_of old.names x ≡ Some v → warm ≡ Some v
    → has_repeats (places_in old.arrays.world (base old.arrays.world v)) ≡ false → attached old.watches ≡ [] → followers old.arrays.world old.flows v ≡ []
    → after ≤ before + (size_of (dims_in old.arrays.world v) + count)
again laws present r st warm old mid new before now after o n h rest ran moves let_go x sign e v count is plain bound warm_is none unwatched unread =
    let m : IfSome (plain_count e) (λ k. AssignsPlainly x k old mid before now) = subst (λ s. MovesPlainly s old mid before now) is moves in
    let a : AssignsPlainly x count old mid before now = subst (λ b. IfSome b (λ k. AssignsPlainly x k old mid before now)) plain m in
    let at : IsKeptWarm old v = subst (λ b. IfSome b (IsKeptWarm old)) warm_is rest in
    let moved : now ≤ before + (size_of (dims_in old.arrays.world v) + count) = a.counted v bound (at.1 none) unwatched unread in
    let runs : Runs (effect present (machine old) (assign x [] sign e)) old mid o n r = subst (λ s. Runs (effect present (machine old) s) old mid o n r) is ran in
    let keeps : KeepsViews mid.arrays.world new.arrays.world = λ u view.
    view_as old.arrays.world new.arrays.world u (sym (seen_back laws present r x sign e count u old mid new o n h plain runs)) (a.roots u view) in
    let same : after ≡ now = let_go keeps in
    omega (arith, moved, same)

-- a bare name is printed
pub shown : Laws → (st : StatementTree) (old mid new : Scope) (before now after : ℕ) → LetsGo old mid new → MovesPlainly st old mid before now → (KeepsViews mid.arrays.world new.arrays.world → after ≡ now)
    → (x : List ℕ) (v : ℕ) → st ≡ show (named x) false → number_of old.names x ≡ Some v → after ≤ before + read_steps (engine_of old) v
shown laws st old mid new before now after h moves let_go x v is bound =
    let m : PrintsPlainly x old mid before now = subst (λ s. MovesPlainly s old mid before now) is moves in
    let moved : now ≤ before + read_steps (engine_of old) v = m.counted v bound in
    let back : new.arrays.world ≡ mid.arrays.world = reads_back laws old mid new h m.reads ∙ ap (λ (a : Arrays). a.world) (sym m.reads.arrays) in
    let same : after ≡ now = let_go (λ u view. subst (λ z. KeepsViews mid.arrays.world z) (sym back) (λ y there. there) u view) in
    omega (arith, moved, same)

-- what ran in place
pub in_place : {T : Type 0} (present : List Bool) (r : Result T ScopeFault) (st : StatementTree) (old mid new : Scope) (o n : List ℕ) → machine new ≡ with_world (settled (machine mid)) (kept (machine mid))
    → Runs (effect present (machine old) st) old mid o n r → OnOk r (RunsInPlace present old st new)
in_place present (Err f) st old mid new o n gone ran = tt
in_place present (Ok t) st old mid new o n gone ran = by_effect (effect present (machine old) st) refl ran
  where
    by_effect : (x : Stepped) → effect present (machine old) st ≡ x → Prints x (machine mid) o n → RunsInPlace present old st new
    by_effect (Err f) is prints = absurd prints
    by_effect (Ok after) is prints = record { after = after; is = is; left = gone ∙ ap (λ (s : State). with_world (settled s) (kept s)) prints.0 }

-- what a session keeps after a statement
pub at_rest : {T : Type 0} → Laws → (present : List Bool) (r : Result T ScopeFault) (st : StatementTree) (warm assigned now : Option ℕ) (old mid new : Scope) (o n : List ℕ) → LetsGo old mid new → IsSwept (machine new) → IsSpelled (tidy (machine new)) → IfSome warm (IsKeptWarm old)
    → OnOk r (assigned ≡ warm_after old st) → now ≡ (if is_ok r then assigned else warm) → Runs (effect present (machine old) st) old mid o n r → OnOk r (LeavesReadable st old mid) → IsAtRest new now
at_rest laws present (Ok t) st warm assigned now old mid new o n h swept spelled rest at is ran readable = record {
  swept = swept;
  spelled = spelled;
  kept_warm = subst (λ b. IfSome b (IsKeptWarm new)) (sym (is ∙ at)) (assigned_warm laws present st old mid new o n h ran readable);
}
at_rest laws present (Err f) st warm assigned now old mid new o n h swept spelled rest at is ran readable = record {
  swept = swept;
  spelled = spelled;
  kept_warm = subst (λ b. IfSome b (IsKeptWarm new)) (sym is) (refused_warm laws old mid new warm h ran.1.grown rest);
}

pub warm_ok : {T : Type 0} (r : Result T ScopeFault) (assigned before now wanted : Option ℕ) → now ≡ (if is_ok r then assigned else before) → OnOk r (assigned ≡ wanted) → OnOk r (now ≡ wanted)
warm_ok (Ok t) assigned before now wanted is at = is ∙ at
warm_ok (Err f) assigned before now wanted is at = tt

pub warm_err : {T : Type 0} (r : Result T ScopeFault) (assigned before now wanted : Option ℕ) → now ≡ (if is_ok r then assigned else before) → before ≡ wanted → OnErr r (now ≡ wanted)
warm_err (Ok t) assigned before now wanted is at = tt
warm_err (Err f) assigned before now wanted is at = is ∙ at

pub readable_then : {T : Type 0} → Laws → (present : List Bool) (r : Result T ScopeFault) (st : StatementTree) (old mid new : Scope) (before after : ℕ) (o n : List ℕ) → LetsGo old mid new → Runs (effect present (machine old) st) old mid o n r → MovesPlainly st old mid before after
    → OnOk r (LeavesReadable st old mid) → OnOk r (LeavesReadable st old new)
readable_then laws present (Ok t) st old mid new before after o n h ran moves readable = left_readable laws present st old mid new before after o n h ran moves readable
readable_then laws present (Err f) st old mid new before after o n h ran moves readable = tt
