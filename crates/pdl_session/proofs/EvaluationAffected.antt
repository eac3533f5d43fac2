-- Which flows an assignment affects, whatever new arrays came before it.
use Rattle.std.proofs.Common.{◌≡◌, ◌≤◌, ℕ, List, [], ◌∷◌, ◌++◌, Bool, false, Result, Ok, refl, sym, ap, ◌∙◌, arith}
use Rattle.std.specs.List.{list_any}
use Rattle.std.specs.Option.{option_map_or}
use Rattle.std.specs.Prelude.{◌||◌, if◌then◌else◌}
use Rattle.pdl_shape.specs.Shape.{size_of}
use Rattle.pdl_flow.specs.Formula.{arrays_in}
use Rattle.pdl_world.specs.Laws.{OlderStay}
use Rattle.pdl_world.specs.Paths.{root_of}
use Rattle.pdl_world.specs.Sound.{IsLive, IsSound}
use Rattle.pdl_world.specs.Swept.{is_listed}
use Rattle.pdl_world.specs.World.{World, Look, dims_in}
use Rattle.pdl_lexemes.specs.declared.AssignOp.{AssignOp}
use Rattle.pdl_machine.specs.declared.fault.Fault.{Fault}
use Rattle.pdl_machine.specs.Arrays.{Arrays}
use Rattle.pdl_machine.specs.Flows.{Flows, affected, all_read, followers, is_flow, reads_from}
use Rattle.pdl_machine.specs.Laws.{AreGrown}
use Rattle.pdl_machine.specs.Names.{Names}
use Rattle.pdl_machine.specs.Outcome.{Valued}
use Rattle.pdl_machine.specs.State.{AreLive, IsWhole}
use Rattle.pdl_machine.specs.Step.{assigned, target_in}
use Rattle.pdl_machine.specs.Then.{and_then}
use Rattle.pdl_machine.specs.Value.{value_of}
use Rattle.pdl_syntax.specs.Tree.{Tree}
use Rattle.pdl_scope.specs.Costs.{IsInOrder}
use Rattle.pdl_scope.specs.FlowCosts.{GrowingMakesNoFlowDearer, following_steps}
use Rattle.pdl_scope.specs.Growth.{as_grown}
use Rattle.pdl_scope.specs.Scope.{Scope, engine_of, machine, Grows}
use Rattle.pdl_session.specs.Evaluations.{followers_of, followers_in}
use Rattle.pdl_session.specs.Moves.{arrays_assigned, flows_steps, value_size}
use Rattle.pdl_session.proofs.WorldGrown.{grown_seen}
use Rattle.pdl_session.proofs.FlowNeeds.{read_live}

-- each of these arrays has its root in both worlds
abbrev HaveSameRoots : World → World → List ℕ → Type 0
HaveSameRoots w z [] = Unit {0}
HaveSameRoots w z (v ∷ vs) = (root_of z v ≡ root_of w v) × HaveSameRoots w z vs

roots_before : (w z : World) (us vs : List ℕ) → HaveSameRoots w z (us ++ vs) → HaveSameRoots w z us
roots_before w z [] vs same = tt
roots_before w z (u ∷ us) vs same = (same.0, roots_before w z us vs same.1)

roots_behind : (w z : World) (us vs : List ℕ) → HaveSameRoots w z (us ++ vs) → HaveSameRoots w z vs
roots_behind w z [] vs same = same
roots_behind w z (u ∷ us) vs same = roots_behind w z us vs same.1

reads_same : (w z : World) (roots ks : List ℕ) → HaveSameRoots w z ks → list_any (λ k. is_listed roots (root_of z k)) ks ≡ list_any (λ k. is_listed roots (root_of w k)) ks
reads_same w z roots [] same = refl
reads_same w z roots (k ∷ ks) same =
    ap (λ r. is_listed roots r || list_any (λ k. is_listed roots (root_of z k)) ks) same.0
    ∙ ap (λ b. is_listed roots (root_of w k) || b) (reads_same w z roots ks same.1)

-- where roots are the same, the same flows are affected
affected_same : (w z : World) (flows : Flows) (roots : List ℕ) → HaveSameRoots w z (all_read flows) → affected z flows roots ≡ affected w flows roots
affected_same w z [] roots same = refl
affected_same w z (f ∷ flows) roots same =
    let here = roots_before w z (arrays_in f.formula) (all_read flows) same in
    let rest = roots_behind w z (arrays_in f.formula) (all_read flows) same in
    ap (λ (b : Bool). if b then f ∷ affected z flows (f.root ∷ roots) else affected z flows roots) (reads_same w z roots (arrays_in f.formula) here)
    ∙ ap (λ (fs : Flows). if reads_from w f roots then f ∷ fs else affected z flows roots) (affected_same w z flows (f.root ∷ roots) rest)
    ∙ ap (λ (fs : Flows). if reads_from w f roots then f ∷ affected w flows (f.root ∷ roots) else fs) (affected_same w z flows roots rest)

-- roots stay where arrays come
grown_root : OlderStay → (old new : Arrays) (v : ℕ) → AreGrown old new → IsSound new.world → IsLive old.world v → root_of new.world v ≡ root_of old.world v
grown_root older old new v grown sound live = ap (λ o. option_map_or (λ (l : Look). l.root) o v) (grown_seen older old new v grown sound live)

grown_roots : OlderStay → (old new : Arrays) (vs : List ℕ) → AreGrown old new → IsSound new.world → AreLive old.world vs → HaveSameRoots old.world new.world vs
grown_roots older old new [] grown sound live = tt
grown_roots older old new (v ∷ vs) grown sound live = (grown_root older old new v grown sound live.0, grown_roots older old new vs grown sound live.1)

-- a target is of the same root once its value came
pub late_root : OlderStay → (mid late : Scope) (v : ℕ) → Grows mid late → IsWhole (machine late) → IsLive mid.arrays.world v → root_of late.arrays.world v ≡ root_of mid.arrays.world v
late_root older mid late v g whole live = grown_root older mid.arrays late.arrays v (as_grown mid late g) whole.sound live

-- it is no flow's still
pub late_unflowed : OlderStay → (mid late : Scope) (v : ℕ) → Grows mid late → IsWhole (machine late) → IsLive mid.arrays.world v → is_flow mid.flows (root_of mid.arrays.world v) ≡ false
    → is_flow late.flows (root_of late.arrays.world v) ≡ false
late_unflowed older mid late v g whole live h =
    ap (λ (fs : Flows). is_flow fs (root_of late.arrays.world v)) g.flows ∙ ap (is_flow mid.flows) (late_root older mid late v g whole live) ∙ h

-- and affects the same flows
pub late_affected : OlderStay → (mid late : Scope) (v : ℕ) → Grows mid late → IsWhole (machine mid) → IsWhole (machine late) → IsLive mid.arrays.world v
    → affected late.arrays.world late.flows (root_of late.arrays.world v ∷ []) ≡ affected mid.arrays.world mid.flows (root_of mid.arrays.world v ∷ [])
late_affected older mid late v g whole after live =
    ap (λ (fs : Flows). affected late.arrays.world fs (root_of late.arrays.world v ∷ [])) g.flows
    ∙ ap (λ r. affected late.arrays.world mid.flows (r ∷ [])) (late_root older mid late v g after live)
    ∙ affected_same mid.arrays.world late.arrays.world mid.flows (root_of mid.arrays.world v ∷ [])
    (grown_roots older mid.arrays late.arrays (all_read mid.flows) (as_grown mid late g) after.sound (read_live mid.arrays mid.flows whole.flows))

-- the flows that a target affects
pub aimed_affected : (old mid : Scope) (to : Tree) (v : ℕ) → target_in (machine old) to ≡ Ok (mid.arrays, v) → Grows old mid → followers_in old to ≡ affected mid.arrays.world mid.flows (root_of mid.arrays.world v ∷ [])
aimed_affected old mid to v is g = ap (followers_of old.flows) is ∙ ap (λ (fs : Flows). affected mid.arrays.world fs (root_of mid.arrays.world v ∷ [])) (sym g.flows)

-- also once its value came
pub assigned_affected : OlderStay → (old mid late : Scope) (to : Tree) (v : ℕ) → target_in (machine old) to ≡ Ok (mid.arrays, v) → IsLive mid.arrays.world v → Grows old mid → Grows mid late → IsWhole (machine mid) → IsWhole (machine late)
    → affected late.arrays.world late.flows (root_of late.arrays.world v ∷ []) ≡ followers_in old to
assigned_affected older old mid late to v is live g h whole after = late_affected older mid late v h whole after live ∙ sym (aimed_affected old mid to v is g)

-- the arrays after an assignment whose sides came
sides_assigned : (old mid late : Scope) (to : Tree) (sign : AssignOp) (e : Tree) (v u : ℕ) → target_in (machine old) to ≡ Ok (mid.arrays, v) → mid.names ≡ old.names → value_of mid.names mid.arrays e ≡ Ok (late.arrays, u)
    → arrays_assigned old to sign e ≡ assigned sign late.arrays v u
sides_assigned old mid late to sign e v u aimed names valued =
    ap (λ (x : Valued). and_then x (λ p. and_then (value_of old.names p.0 e) (λ q. assigned sign q.0 p.1 q.1))) aimed
    ∙ ap (λ (ns : Names). and_then (value_of ns mid.arrays e) (λ q. assigned sign q.0 v q.1)) (sym names)
    ∙ ap (λ (x : Valued). and_then x (λ q. assigned sign q.0 v q.1)) valued

-- the flows that follow it take no more than where its statement begins
pub flows_within : GrowingMakesNoFlowDearer → OlderStay → (old mid late : Scope) (to : Tree) (sign : AssignOp) (e : Tree) (v u : ℕ) → IsInOrder old → IsInOrder mid → IsInOrder late → target_in (machine old) to ≡ Ok (mid.arrays, v) → IsLive mid.arrays.world v
    → value_of mid.names mid.arrays e ≡ Ok (late.arrays, u) → Grows old mid → Grows mid late → Grows old late
    → following_steps (engine_of late) (followers late.arrays.world late.flows v) (size_of (dims_in late.arrays.world v)) (assigned sign late.arrays v u) ≤ flows_steps old to sign e
flows_within law older old mid late to sign e v u first middle last aimed live valued g h all =
    let after : Result Arrays Fault = assigned sign late.arrays v u in
    let size : size_of (dims_in late.arrays.world v) ≡ size_of (dims_in mid.arrays.world v) = ap (λ o. size_of (option_map_or (λ (l : Look). l.dims) o [])) (grown_seen older mid.arrays late.arrays v (as_grown mid late h) last.whole.sound live) in
    let flows : followers late.arrays.world late.flows v ≡ followers mid.arrays.world old.flows v =
    assigned_affected older old mid late to v aimed live g h middle.whole last.whole ∙ ap (followers_of old.flows) aimed in
    let here : following_steps (engine_of late) (followers late.arrays.world late.flows v) (size_of (dims_in late.arrays.world v)) after ≡ following_steps (engine_of late) (followers mid.arrays.world old.flows v) (size_of (dims_in mid.arrays.world v)) after =
    ap (λ (fs : Flows). following_steps (engine_of late) fs (size_of (dims_in late.arrays.world v)) after) flows
    ∙ ap (λ n. following_steps (engine_of late) (followers mid.arrays.world old.flows v) n after) size in
    let less = law old late first last all mid.arrays.world v (size_of (dims_in mid.arrays.world v)) after in
    let there : flows_steps old to sign e ≡ following_steps (engine_of old) (followers mid.arrays.world old.flows v) (size_of (dims_in mid.arrays.world v)) after =
    ap (λ (x : Valued). following_steps (engine_of old) (followers_of old.flows x) (value_size x) (arrays_assigned old to sign e)) aimed
    ∙ ap (following_steps (engine_of old) (followers mid.arrays.world old.flows v) (size_of (dims_in mid.arrays.world v))) (sides_assigned old mid late to sign e v u aimed g.names valued) in
    omega (arith, here, less, there)
