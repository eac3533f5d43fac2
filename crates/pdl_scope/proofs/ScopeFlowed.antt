-- The arrays after an assignment, once flows have followed.
use Rattle.std.proofs.Common.{◌≡◌, ℕ, ℤ, ◌∷◌, [], List, ◌++◌, Bool, true, false, Option, Result, Ok, refl, sym, ap, subst, ◌∙◌, eq-eqb}
use Rattle.std.specs.Prelude.{◌==◌}
use Rattle.pdl_lexemes.specs.declared.AssignOp.{AssignOp}
use Rattle.pdl_world.specs.KeepingLaws.{AssignsKeepAll}
use Rattle.pdl_world.specs.Laws.{AssignsSoundly, LooksStay, NumbersStay, PathsStay}
use Rattle.pdl_world.specs.Paths.{root_of}
use Rattle.pdl_world.specs.Sound.{IsLive, IsSound, NumbersBelow}
use Rattle.pdl_world.specs.Swept.{KeepsAll}
use Rattle.pdl_world.specs.World.{World, assign, elements, look}
use Rattle.pdl_engine.specs.Held.{count_at}
use Rattle.pdl_engine.specs.Reading.{KeepsViews, view_as}
use Rattle.pdl_engine.specs.State.{State as Engine}
use Rattle.pdl_machine.specs.Arrays.{Arrays, array_in}
use Rattle.pdl_machine.specs.FlowLaws.{FlowsFollow, KeepsLooks, OnlyAffectedFollow}
use Rattle.pdl_machine.specs.Flows.{Flows, affected, is_flow}
use Rattle.pdl_machine.specs.Following.{AreFlows, followed}
use Rattle.pdl_machine.specs.Names.{Names}
use Rattle.pdl_machine.specs.Operators.{values_for}
use Rattle.pdl_machine.specs.State.{State, with_arrays, held, IsWhole}
use Rattle.pdl_machine.specs.Step.{assigned, flowed}
use Rattle.pdl_machine.specs.Then.{and_then}
use Rattle.pdl_machine.specs.Watches.{Watches}
use Rattle.pdl_machine.specs.declared.fault.Fault.{Fault}
use Rattle.pdl_scope.specs.Answers.{Prints}
use Rattle.pdl_scope.specs.Plans.{AllCanAssign, IsPlan, all_assigned, planned}
use Rattle.pdl_scope.specs.Scope.{all_held, arrays_of, state_in, IsHeld}
use Rattle.pdl_scope.specs.declared.following.Change.{Change}
use Rattle.pdl_scope.proofs.FlowFollowers.{affected_same}
use Rattle.pdl_scope.proofs.ScopeGrowing.{still_live}
use Rattle.pdl_scope.proofs.PlanLemmas.{keeps_after, numbers_after}
use Rattle.pdl_scope.proofs.PlanAssignments.{Laws as PlanLaws, live_after, looks_after, others_stay, root_stays}

-- the laws that are used here
pub record Laws : Type 0 where
  pub plans : PlanLaws
  pub paths : PathsStay
  pub numbers : NumbersStay
  pub sound : AssignsSoundly
  pub keeps : AssignsKeepAll
  pub follow : FlowsFollow
  pub only : OnlyAffectedFollow

abbrev pub written_in : Arrays → (v : ℕ) → List ℤ → Arrays
written_in a v vs = record a { world = assign a.world v vs }

keeps_looks : Laws → (w : World) (v : ℕ) (vs : List ℤ) → KeepsLooks w (assign w v vs)
keeps_looks laws w v vs u live = (laws.plans.looks w v u vs, laws.paths w v u vs)

-- only those flows have to follow that read an array of the root
pub follow_alone : Laws → (s : State) (v : ℕ) (vs : List ℤ) → IsWhole s → IsSound (assign s.arrays.world v vs) → is_flow s.flows (root_of s.arrays.world v) ≡ false
    → followed (written_in s.arrays v vs) s.flows ≡ followed (written_in s.arrays v vs) (affected s.arrays.world s.flows (root_of s.arrays.world v ∷ []))
follow_alone laws s v vs whole sound none =
    laws.only s b r whole sound (keeps_looks laws w v vs) none left
    ∙ ap (followed b) (affected_same b.world w s.flows (r ∷ []) (r ∷ []) (λ u. root_stays laws.plans.looks w v u vs) (λ q. refl))
  where
    w : World
    w = s.arrays.world

    b : Arrays
    b = written_in s.arrays v vs

    r : ℕ
    r = root_of w v

    clash : {t : Bool} → t ≡ true → t ≡ false → ⊥
    clash t f = cc

    left : (u : ℕ) → IsLive w u → (r == root_of b.world u) ≡ false → elements b.world u ≡ elements w u
    left u live other =
        others_stay laws.plans w v u vs (λ same. clash (eq-eqb r (root_of b.world u) (sym (root_stays laws.plans.looks w v u vs ∙ same))) other)

-- and then they equal their formulas
pub are_followed : Laws → (s : State) (v : ℕ) (vs : List ℤ) → IsWhole s → IsSound (assign s.arrays.world v vs) → AreFlows (followed (written_in s.arrays v vs) s.flows) s.flows
are_followed laws s v vs whole sound = laws.follow s (written_in s.arrays v vs) whole sound (keeps_looks laws s.arrays.world v vs)

abbrev arrays_at : World → ℕ → Arrays
arrays_at w next = record { world = w; next = next }

arrays_are : {w u : World} {m n : ℕ} → w ≡ u → m ≡ n → arrays_at w m ≡ arrays_at u n
arrays_are p q = cc

-- where none has to, nothing follows
pub alone_followed : Laws → (names : Names) (ws : Watches) (fs : Flows) (e t : Engine) (v : ℕ) (vs : List ℤ) → IsWhole (state_in names ws fs e) → t.world ≡ assign e.world v vs → t.next ≡ e.next → IsSound t.world
    → is_flow fs (root_of e.world v) ≡ false → affected e.world fs (root_of e.world v ∷ []) ≡ [] → arrays_of t ≡ followed (written_in (arrays_of e) v vs) fs
alone_followed laws names ws fs e t v vs whole world next sound none alone =
    arrays_are world next
    ∙ sym (follow_alone laws (state_in names ws fs e) v vs whole (subst IsSound world sound) none ∙ ap (followed (written_in (arrays_of e) v vs)) alone)

-- after a plan they have
pub plan_followed : Laws → (names : Names) (ws : Watches) (fs : Flows) (e t n : Engine) (v : ℕ) (vs : List ℤ) (cs : List Change) → IsWhole (state_in names ws fs e) → IsSound (assign e.world v vs) → is_flow fs (root_of e.world v) ≡ false
    → IsPlan e fs v vs n cs → t.world ≡ all_assigned e.world cs → t.next ≡ e.next → arrays_of t ≡ followed (written_in (arrays_of e) v vs) fs
plan_followed laws names ws fs e t n v vs cs whole sound none plan world next =
    arrays_are world next ∙ plan.follows ∙ sym (follow_alone laws (state_in names ws fs e) v vs whole sound none)

-- so the flows equal their formulas
pub flows_after : Laws → (names : Names) (ws : Watches) (fs : Flows) (e t : Engine) (v : ℕ) (vs : List ℤ) → IsWhole (state_in names ws fs e) → IsSound (assign e.world v vs) → arrays_of t ≡ followed (written_in (arrays_of e) v vs) fs → AreFlows (arrays_of t) fs
flows_after laws names ws fs e t v vs whole sound is =
    subst (λ (a : Arrays). AreFlows a fs) (sym is) (are_followed laws (state_in names ws fs e) v vs whole sound)

abbrev state_of : Names → Watches → Flows → Arrays → State
state_of names ws fs a = record { names = names; arrays = a; watches = ws; flows = fs }

-- the values are written, flows have followed, and nothing is printed
pub values_flowed : (sign : AssignOp) (names : Names) (ws : Watches) (fs : Flows) (e t : Engine) (v u : ℕ) (vs : List ℤ) → values_for sign (array_in (arrays_of e) v) (array_in (arrays_of e) u) ≡ Ok vs
    → arrays_of t ≡ followed (written_in (arrays_of e) v vs) fs → Prints (and_then (assigned sign (arrays_of e) v u) (λ a. Ok (flowed (with_arrays (state_in names ws fs e) a), []))) (state_in names ws fs t) [] []
values_flowed sign names ws fs e t v u vs h is =
    let P : Result (List ℤ) Fault → Type 0 =
    λ x. Prints (and_then (and_then x (λ us. Ok (written_in (arrays_of e) v us))) (λ a. Ok (flowed (state_of names ws fs a), []))) (state_in names ws fs t) [] [] in
    subst P (sym h) (ap (state_of names ws fs) is, refl)

-- a plan leaves the state whole, and held as before
pub held_planned : Laws → (names : Names) (ws : Watches) (fs : Flows) (e t : Engine) (cs : List Change) (leaving : List ℕ) → IsHeld (state_in names ws fs e) e.holds leaving → t.world ≡ all_assigned e.world cs → t.holds ≡ e.holds → t.next ≡ e.next → IsSound t.world → AreFlows (arrays_of t) fs
    → IsHeld (state_in names ws fs t) t.holds leaving
held_planned laws names ws fs e t cs leaving h world holds next sound flows =
    let hs : List ℕ = all_held (state_in names ws fs e) ++ leaving in record {
      whole = record {
        sound = sound;
        below = subst (λ n. NumbersBelow n t.world) (sym next) (subst (λ (w : World). NumbersBelow e.next w) (sym world) (numbers_after laws.numbers e.next e.world cs h.whole.below));
        live = still_live e.world t.world (λ u there. subst (λ (w : World). IsLive w u) (sym world) (live_after laws.plans.looks e.world cs u there)) (held (state_in names ws fs e)) h.whole.live;
        flows = flows;
      };
      few = h.few;
      slots = h.slots;
      reads = h.reads;
      counts = λ u. ap (λ xs. count_at xs u) holds ∙ h.counts u;
      reached = subst (λ (w : World). KeepsAll w hs) (sym world) (keeps_after laws.keeps e.world cs hs h.reached);
    }

-- a plan makes no view
pub planned_views : LooksStay → (w u : World) (cs : List Change) → u ≡ all_assigned w cs → KeepsViews u w
planned_views looks w u cs is v there =
    let seen : look u v ≡ look w v = ap (λ (x : World). look x v) is ∙ looks_after looks w cs v in
    view_as u w v seen there
