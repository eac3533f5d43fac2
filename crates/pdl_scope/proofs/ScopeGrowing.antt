-- States to which nothing but new arrays came.
use Rattle.std.proofs.Common.{◌≡◌, ℕ, ℤ, ◌+◌, ◌≤◌, List, [], ◌∷◌, ◌++◌, map, Option, Result, Ok, refl, sym, ap, subst, ◌∙◌, arith}
use Rattle.std.specs.Prelude.{IsSomeAnd}
use Rattle.pdl_world.specs.World.{World, ArrayDef, Look, assign}
use Rattle.pdl_world.specs.Sound.{NumbersBelow, IsSound, IsLive}
use Rattle.pdl_world.specs.Laws.{LooksStay, NumbersStay}
use Rattle.pdl_engine.specs.State.{State as Engine, Joins, SameArrays}
use Rattle.pdl_machine.specs.Names.{Named, Names}
use Rattle.pdl_lexemes.specs.declared.AssignOp.{AssignOp}
use Rattle.pdl_machine.specs.declared.fault.Fault.{Fault}
use Rattle.pdl_machine.specs.Arrays.{Arrays, with_new, array_in}
use Rattle.pdl_machine.specs.Flows.{Flows}
use Rattle.pdl_machine.specs.Following.{AreFlows}
use Rattle.pdl_machine.specs.Operators.{values_for}
use Rattle.pdl_machine.specs.Step.{assigned}
use Rattle.pdl_machine.specs.Laws.{AreGrown}
use Rattle.pdl_machine.specs.Then.{and_then}
use Rattle.pdl_machine.specs.State.{State, with_arrays, held, AreLive, IsWhole}
use Rattle.pdl_machine.specs.Watches.{Watches}
use Rattle.pdl_scope.specs.Answers.{Prints}
use Rattle.pdl_scope.specs.Scope.{Scope, arrays_of, scope_in, state_in, Grows, AreRootsFresh}
use Rattle.pdl_scope.proofs.FlowingStays.{GrowthLaws, flows_joined}

abbrev state_of : Names → Watches → Flows → Arrays → State
state_of names ws fs a = record { names = names; arrays = a; watches = ws; flows = fs }

below_more : (w : World) (m n : ℕ) → m ≤ n → NumbersBelow m w → NumbersBelow n w
below_more [] m n h b = tt
below_more (a ∷ w) m n h b = (omega arith, below_more w m n h b.1)

pub still_live : (w u : World) → ((v : ℕ) → IsLive w v → IsLive u v) → (vs : List ℕ) → AreLive w vs → AreLive u vs
still_live w u still [] live = tt
still_live w u still (v ∷ vs) live = (still v live.0, still_live w u still vs live.1)

-- the arrays of names that are bound later can be looked at, and so can the next one
pub live_too : (s mid : Scope) (more : Named ℕ) (x : List ℕ) (id : ℕ) → Grows s mid → AreLive s.arrays.world (map (λ n. n.1) more) → IsLive mid.arrays.world id → AreLive mid.arrays.world (map (λ n. n.1) (more ++ (x, id) ∷ []))
live_too s mid [] x id g live last = (last, tt)
live_too s mid (n ∷ more) x id g live last = (g.still n.1 live.0, live_too s mid more x id g live.1 last)

-- what comes of a new array
pub record IsJoined (names : Names) (ws : Watches) (fs : Flows) (a : Arrays) (p : Arrays × ℕ) : Type 0 where
  pub whole : IsWhole (state_of names ws fs p.0)
  pub grown : AreGrown a p.0
  pub still : (v : ℕ) → IsLive a.world v → IsLive p.0.world v

joined : GrowthLaws → (names : Names) (ws : Watches) (fs : Flows) (a : Arrays) (d : ArrayDef) → IsWhole (state_of names ws fs a) → IsSound ((a.next, d) ∷ a.world) → IsJoined names ws fs a (with_new a d)
joined laws names ws fs a d whole sound =
    let P : Option Look → Type 0 = λ o. IsSomeAnd o (λ l. Unit {0}) in
    let still : (v : ℕ) → IsLive a.world v → IsLive ((a.next, d) ∷ a.world) v = λ v live. subst P (sym (laws.older a.world a.next v d whole.below live)) live in
    record {
      whole = record {
        sound = sound;
        below = (omega arith, below_more a.world a.next (a.next + 1) (omega arith) whole.below);
        live = still_live a.world ((a.next, d) ∷ a.world) still (held (state_of names ws fs a)) whole.live;
        flows = flows_joined laws a (with_new a d).0 a.next d fs whole.below refl whole.flows;
      };
      grown = record { more = (a.next, d) ∷ []; is = refl };
      still = still;
    }

abbrev numbered : World → ℕ → ℕ → Arrays × ℕ
numbered w next id = (record { world = w; next = next }, id)

pub joins : (e t : Engine) (d : ArrayDef) (id : ℕ) → Joins e id d t → with_new (arrays_of e) d ≡ (arrays_of t, id)
joins e t d id j =
    ap (λ w. numbered w (e.next + 1) e.next) (sym (j.world ∙ ap (λ k. (k, d) ∷ e.world) j.number)) ∙ ap (λ n. numbered t.world n e.next) (sym j.next)
    ∙ ap (numbered t.world t.next) (sym j.number)

-- a new array of the engine came
pub came : GrowthLaws → (names : Names) (ws : Watches) (fs : Flows) (e t : Engine) (d : ArrayDef) (id : ℕ) → IsWhole (state_in names ws fs e) → Joins e id d t → IsSound t.world → IsJoined names ws fs (arrays_of e) (arrays_of t, id)
came laws names ws fs e t d id whole is sound =
    let S : Arrays × ℕ → Type 0 = λ p. IsSound p.0.world in
    let j : with_new (arrays_of e) d ≡ (arrays_of t, id) = joins e t d id is in
    subst (λ (p : Arrays × ℕ). IsJoined names ws fs (arrays_of e) p) j (joined laws names ws fs (arrays_of e) d whole (subst S (sym j) sound))

-- and nothing else, which can be lent if it is a root
pub grown : GrowthLaws → (names : Names) (ws : Watches) (fs : Flows) (e t : Engine) (d : ArrayDef) (id : ℕ) → IsWhole (state_in names ws fs e) → Joins e id d t → IsSound t.world → AreRootsFresh t ((id, d) ∷ [])
    → Grows (scope_in names ws fs e) (scope_in names ws fs t)
grown laws names ws fs e t d id whole is sound roots =
    let j = came laws names ws fs e t d id whole is sound in
    record {
      names = refl;
      arrays = record { more = (id, d) ∷ []; is = is.world; roots = roots };
      watches = refl;
      flows = refl;
      still = j.still;
      stay = is.stay;
    }

-- arrays that may be lent now are the same arrays
pub readied_arrays : (e t : Engine) → SameArrays e t → arrays_of t ≡ arrays_of e
readied_arrays e t s = ap (λ w. record { world = w; next = t.next }) s.world ∙ ap (λ n. record { world = e.world; next = n }) s.next

pub readied : (names : Names) (ws : Watches) (fs : Flows) (e t : Engine) → SameArrays e t → state_in names ws fs t ≡ state_in names ws fs e
readied names ws fs e t s = ap (state_of names ws fs) (readied_arrays e t s)

-- the arrays after an assignment, where flows have followed
pub whole_assigned : LooksStay → NumbersStay → (names : Names) (ws : Watches) (fs : Flows) (e t : Engine) (v : ℕ) (vs : List ℤ) → IsWhole (state_in names ws fs e) → t.world ≡ assign e.world v vs → t.next ≡ e.next → IsSound t.world → AreFlows (arrays_of t) fs
    → IsWhole (state_in names ws fs t)
whole_assigned looks stay names ws fs e t v vs whole world next sound flows =
    let B : World → Type 0 = NumbersBelow e.next in
    let L : Option Look → Type 0 = λ o. IsSomeAnd o (λ l. Unit {0}) in
    let still : (u : ℕ) → IsLive e.world u → IsLive t.world u =
    λ u live. let W : World → Type 0 = λ w. IsLive w u in subst W (sym world) (subst L (sym (looks e.world v u vs)) live) in
    record {
      sound = sound;
      below = subst (λ n. NumbersBelow n t.world) (sym next) (subst B (sym world) (stay e.world e.next v vs whole.below));
      live = still_live e.world t.world still (held (state_in names ws fs e)) whole.live;
      flows = flows;
    }
