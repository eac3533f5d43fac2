-- What a script of late writes moves.
use Rattle.std.proofs.Common.{◌≡◌, ℕ, zero, suc, ◌+◌, ◌≤◌, true, false, [], ◌∷◌, Option, Some, None, Ok, Err, refl, sym, ap, subst, ◌∙◌, arith, eq-eqb}
use Rattle.std.specs.Prelude.{pos, ◌==◌, sum_by, IfSome, codes, get_or}
use Rattle.pdl_lemmas.specs.Tests.{by_test}
use Rattle.pdl_slices.specs.Meaning.{slice_of, read_on}
use Rattle.pdl_shape.specs.Shape.{size_of}
use Rattle.pdl_world.specs.Paths.{path, root_of}
use Rattle.pdl_world.specs.Sound.{IsLive}
use Rattle.pdl_world.specs.World.{dims_in, has_repeats, places_in}
use Rattle.pdl_engine.specs.Reading.{IsWarm, read_steps}
use Rattle.pdl_engine.specs.State.{State as Engine, AreWaiting, IsLazy, base, is_fresh, outdated, outdated_at, waiting, waiting_size}
use Rattle.pdl_nodes.specs.Owed.{owed}
use Rattle.pdl_lexemes.specs.declared.AssignOp.TheVariants.{Set}
use Rattle.pdl_syntax.specs.StatementTree.{StatementTree, vars}
use Rattle.pdl_syntax.specs.Tree.{number}
use Rattle.pdl_machine.specs.Names.{number_of}
use Rattle.pdl_machine.specs.State.{State, kept, no_names, with_world}
use Rattle.pdl_machine.specs.Step.{Stepped, effect}
use Rattle.pdl_machine.specs.Flows.{followers}
use Rattle.pdl_machine.specs.Tidy.{settled}
use Rattle.pdl_machine.specs.Watches.{attached}
use Rattle.pdl_scope.specs.Scope.{Scope, engine_of, machine}
use Rattle.pdl_session.specs.Bounds.{RunsInPlace}
use Rattle.pdl_session.specs.Session.{Session}
use Rattle.pdl_session.specs.WorkedBounds.{Follows, LateWritesMoveLittle, late_writes}

-- the state that is left
abbrev left_by : Stepped → State
left_by (Ok after) = with_world (settled after.0) (kept after.0)
left_by (Err e) = no_names

-- the state after so many statements
abbrev state_at : ℕ → State
state_at zero = no_names
state_at (suc i) = left_by (effect [] (state_at i) (get_or late_writes i vars))

next_state : (old new : Scope) (st : StatementTree) (s : State) → RunsInPlace [] old st new → machine old ≡ s → machine new ≡ left_by (effect [] s st)
next_state old new st s r is = r.left ∙ ap left_by (sym r.is) ∙ ap (λ t. left_by (effect [] t st)) is

-- where a view that waits can be lent, to read its root costs at most its size
root_cost : (e : Engine) (r b : ℕ) → IsLazy e → IsLive e.world r → IsLive e.world b → root_of e.world r ≡ r → root_of e.world b ≡ r → base e.world b ≡ b → outdated e r ≡ 0 → is_fresh e b ≡ true
    → read_steps e r ≤ size_of (dims_in e.world b)
root_cost e r b lazy live there root_r root_b base_b none fresh = by_test (is_fresh e r) (λ is. rw is (omega arith)) (λ other. rw other (let w = by_waiting (waiting e r) refl in omega (arith, none, w)))
  where
    by_waiting : (o : Option ℕ) → waiting e r ≡ o → waiting_size e o ≤ size_of (dims_in e.world b)
    by_waiting None is = omega arith
    by_waiting (Some v) is =
        let at : AreWaiting e r v = lazy.waits r v live is in
        let same : b ≡ v = sym base_b ∙ at.only b there (root_b ∙ sym root_r) fresh in
        let sizes : size_of (dims_in e.world b) ≡ size_of (dims_in e.world v) = ap (λ u. size_of (dims_in e.world u)) same in
        omega (arith, sizes)

-- a root owes nothing itself
root_owes : (e : Engine) (r : ℕ) → path e.world r ≡ r ∷ [] → base e.world r ≡ r → root_of e.world r ≡ r → outdated e r ≡ 0
root_owes e r path_r base_r root_r =
    ap (sum_by (outdated_at e)) path_r
    ∙ ap (λ b. 0 + owed b (root_of e.world r == r) (is_fresh e r) (size_of (dims_in e.world r))) (eq-eqb (base e.world r) r base_r)
    ∙ ap (λ b. 0 + owed true b (is_fresh e r) (size_of (dims_in e.world r))) (eq-eqb (root_of e.world r) r root_r)

pub late_writes_move_little : LateWritesMoveLittle
unfolding slice_of read_on
late_writes_move_little s n first follows = (fourth, fifth, sixth)
  where
    f0 : Follows (s 0) (get_or late_writes 0 vars) (s 1) (n 0) (n 1)
    f0 = follows 0 (omega arith)

    f1 : Follows (s 1) (get_or late_writes 1 vars) (s 2) (n 1) (n 2)
    f1 = follows 1 (omega arith)

    f2 : Follows (s 2) (get_or late_writes 2 vars) (s 3) (n 2) (n 3)
    f2 = follows 2 (omega arith)

    f3 : Follows (s 3) (get_or late_writes 3 vars) (s 4) (n 3) (n 4)
    f3 = follows 3 (omega arith)

    f4 : Follows (s 4) (get_or late_writes 4 vars) (s 5) (n 4) (n 5)
    f4 = follows 4 (omega arith)

    f5 : Follows (s 5) (get_or late_writes 5 vars) (s 6) (n 5) (n 6)
    f5 = follows 5 (omega arith)

    m1 : machine (s 1).scope ≡ state_at 1
    m1 = next_state (s 0).scope (s 1).scope (get_or late_writes 0 vars) no_names f0.in_place (ap (λ (x : Session). machine x.scope) first)

    m2 : machine (s 2).scope ≡ state_at 2
    m2 = next_state (s 1).scope (s 2).scope (get_or late_writes 1 vars) (state_at 1) f1.in_place m1

    m3 : machine (s 3).scope ≡ state_at 3
    m3 = next_state (s 2).scope (s 3).scope (get_or late_writes 2 vars) (state_at 2) f2.in_place m2

    m4 : machine (s 4).scope ≡ state_at 4
    m4 = next_state (s 3).scope (s 4).scope (get_or late_writes 3 vars) (state_at 3) f3.in_place m3

    m5 : machine (s 5).scope ≡ state_at 5
    m5 = next_state (s 4).scope (s 5).scope (get_or late_writes 4 vars) (state_at 4) f4.in_place m4

    b2 : number_of (s 2).scope.names (codes "b") ≡ Some 3
    b2 = subst (λ (t : State). number_of t.names (codes "b") ≡ Some 3) (sym m2) refl

    b3 : number_of (s 3).scope.names (codes "b") ≡ Some 3
    b3 = subst (λ (t : State). number_of t.names (codes "b") ≡ Some 3) (sym m3) refl

    x4 : number_of (s 4).scope.names (codes "x") ≡ Some 1
    x4 = subst (λ (t : State). number_of t.names (codes "x") ≡ Some 1) (sym m4) refl

    x5 : number_of (s 5).scope.names (codes "x") ≡ Some 1
    x5 = subst (λ (t : State). number_of t.names (codes "x") ≡ Some 1) (sym m5) refl

    once3 : has_repeats (places_in (s 3).scope.arrays.world (base (s 3).scope.arrays.world 3)) ≡ false
    once3 = subst (λ (t : State). has_repeats (places_in t.arrays.world (base t.arrays.world 3)) ≡ false) (sym m3) refl

    unwatched3 : attached (s 3).scope.watches ≡ []
    unwatched3 = subst (λ (t : State). attached t.watches ≡ []) (sym m3) refl

    unread3 : followers (s 3).scope.arrays.world (s 3).scope.flows 3 ≡ []
    unread3 = subst (λ (t : State). followers t.arrays.world t.flows 3 ≡ []) (sym m3) refl

    size3 : size_of (dims_in (s 3).scope.arrays.world 3) ≡ 3
    size3 = subst (λ (t : State). size_of (dims_in t.arrays.world 3) ≡ 3) (sym m3) refl

    fourth : n 4 ≤ n 3 + 4
    fourth = (let a = f3.again (codes "b") Set (number (pos 2)) 3 1 refl refl b3 (f2.warm ∙ b2) once3 unwatched3 unread3 in omega (arith, a, size3))

    once4 : has_repeats (places_in (s 4).scope.arrays.world (base (s 4).scope.arrays.world 3)) ≡ false
    once4 = subst (λ (t : State). has_repeats (places_in t.arrays.world (base t.arrays.world 3)) ≡ false) (sym m4) refl

    fresh4 : is_fresh (engine_of (s 4).scope) 3 ≡ true
    fresh4 = (subst (λ o. IfSome o (IsWarm (engine_of (s 4).scope))) b3 f3.readable) once4

    live4 : IsLive (s 4).scope.arrays.world 1 × IsLive (s 4).scope.arrays.world 3
    live4 = subst (λ (t : State). IsLive t.arrays.world 1 × IsLive t.arrays.world 3) (sym m4) (tt, tt)

    roots4 : (root_of (s 4).scope.arrays.world 1 ≡ 1) × (root_of (s 4).scope.arrays.world 3 ≡ 1)
    roots4 = subst (λ (t : State). (root_of t.arrays.world 1 ≡ 1) × (root_of t.arrays.world 3 ≡ 1)) (sym m4) (refl, refl)

    bases4 : (base (s 4).scope.arrays.world 1 ≡ 1) × (base (s 4).scope.arrays.world 3 ≡ 3)
    bases4 = subst (λ (t : State). (base t.arrays.world 1 ≡ 1) × (base t.arrays.world 3 ≡ 3)) (sym m4) (refl, refl)

    path4 : path (s 4).scope.arrays.world 1 ≡ 1 ∷ []
    path4 = subst (λ (t : State). path t.arrays.world 1 ≡ 1 ∷ []) (sym m4) refl

    size4 : size_of (dims_in (s 4).scope.arrays.world 3) ≡ 3
    size4 = subst (λ (t : State). size_of (dims_in t.arrays.world 3) ≡ 3) (sym m4) refl

    fifth : n 5 ≤ n 4 + 3
    fifth =
        let e = engine_of (s 4).scope in
        let cost : read_steps e 1 ≤ size_of (dims_in e.world 3) = root_cost e 1 3 f3.lazy live4.0 live4.1 roots4.0 roots4.1 bases4.1 (root_owes e 1 path4 bases4.0 roots4.0) fresh4 in
        let shown = f4.shown (codes "x") 1 refl x4 in
        omega (arith, cost, shown, size4)

    fresh5 : is_fresh (engine_of (s 5).scope) 1 ≡ true
    fresh5 = subst (λ o. IfSome o (λ v. is_fresh (engine_of (s 5).scope) v ≡ true)) x4 f4.readable

    sixth : n 6 ≤ n 5
    sixth =
        let shown = f5.shown (codes "x") 1 refl x5 in
        let none : read_steps (engine_of (s 5).scope) 1 ≡ 0 = rw fresh5 refl in
        omega (arith, shown, none)
