-- What holds of flows: after each statement each root equals its formula.
use Rattle.std.specs.Prelude.{◌≡◌, ℕ, ◌==◌, Bool, true, false, List, [], ◌∷◌, Ok}
use Rattle.pdl_flow.specs.Formula.{FormulaTree}
use Rattle.pdl_flow.specs.Meaning.{meaning}
use Rattle.pdl_world.specs.World.{World, look, elements}
use Rattle.pdl_world.specs.CutLaws.{ShowsTheSame}
use Rattle.pdl_world.specs.SweepLaws.{IsSeenAsBefore}
use Rattle.pdl_world.specs.Swept.{is_listed, sweep}
use Rattle.pdl_world.specs.Paths.{path, root_of}
use Rattle.pdl_world.specs.Sound.{IsSound, IsLive}
use Rattle.pdl_syntax.specs.Tree.{Tree}
use Rattle.pdl_syntax.specs.StatementTree.{StatementTree}
use Rattle.pdl_syntax.specs.WellMade.{IsWellMade}
use Rattle.pdl_machine.specs.Arrays.{Arrays, array_in}
use Rattle.pdl_machine.specs.Flows.{Flows, is_flow, all_read, needs_of, affected}
use Rattle.pdl_machine.specs.Following.{followed, AreFlows}
use Rattle.pdl_machine.specs.Formulas.{formula_of}
use Rattle.pdl_machine.specs.State.{State, IsWhole}
use Rattle.pdl_machine.specs.Value.{value_in}
use Rattle.pdl_machine.specs.Tidy.{tidy}
use Rattle.pdl_machine.specs.Step.{effect}
use Rattle.pdl_machine.specs.Laws.{Assigns}

-- each array that was there is seen as it was but for its elements
abbrev pub KeepsLooks : (old new : World) → Type 0
KeepsLooks old new = (v : ℕ) → IsLive old v → (look new v ≡ look old v) × (path new v ≡ path old v)

-- flows equal their formulas where they did before, each array that these read shows the same, and
-- each root is seen as before
abbrev pub FlowsStay : Type 0
FlowsStay = (a b : Arrays) (flows : Flows) → AreFlows a flows →
    ((k : ℕ) → is_listed (all_read flows) k ≡ true → IsLive a.world k →
    ShowsTheSame a.world b.world k × IsLive b.world k) →
    ((r : ℕ) → is_flow flows r ≡ true → IsLive a.world r → path a.world r ≡ r ∷ [] →
    IsSeenAsBefore a.world b.world r) → AreFlows b flows

-- where elements changed, as by an assignment, flows that follow equal their formulas again
abbrev pub FlowsFollow : Type 0
FlowsFollow = (s : State) (a : Arrays) → IsWhole s → IsSound a.world →
    KeepsLooks s.arrays.world a.world → AreFlows (followed a s.flows) s.flows

-- where only arrays of one root changed, which isn't a flow's, only the flows have to follow that
-- read one of them, directly or through flows: the others stay as they are
abbrev pub OnlyAffectedFollow : Type 0
OnlyAffectedFollow = (s : State) (a : Arrays) (r : ℕ) → IsWhole s → IsSound a.world →
    KeepsLooks s.arrays.world a.world → is_flow s.flows r ≡ false →
    ((v : ℕ) → IsLive s.arrays.world v → (r == root_of a.world v) ≡ false →
    elements a.world v ≡ elements s.arrays.world v) →
    followed a s.flows ≡ followed a (affected a.world s.flows (r ∷ []))

-- flows that equal their formulas change nothing when they follow
abbrev pub FlowsRest : Type 0
FlowsRest = (a : Arrays) (flows : Flows) → IsSound a.world → AreFlows a flows →
    followed a flows ≡ a

-- a statement that doesn't assign leaves flows equal to their formulas, where its arrays are sound
abbrev pub OthersKeepFlows : Type 0
OthersKeepFlows = (present : List Bool) (s : State) (statement : StatementTree)
    (after : State × List ℕ) → IsWhole s → IsWellMade statement → (Assigns statement → ⊥) →
    effect present s statement ≡ Ok after → IsSound after.0.arrays.world →
    AreFlows after.0.arrays after.0.flows

-- where arrays are let go, the flows that stay equal their formulas, if all that is needed then is
-- held
abbrev pub LettingGoKeepsFlows : Type 0
LettingGoKeepsFlows = (a b : Arrays) (flows : Flows) (held many : List ℕ) → IsSound a.world →
    AreFlows a flows → b.world ≡ sweep a.world many →
    ((v : ℕ) → is_listed (needs_of a.world flows held).arrays v ≡ true → is_listed many v ≡ true) →
    AreFlows b (needs_of a.world flows held).flows

-- the flows that are kept equal their formulas under their new numbers
abbrev pub TidyingKeepsFlows : Type 0
TidyingKeepsFlows = (s : State) → IsWhole s → AreFlows (tidy s).arrays (tidy s).flows

-- an expression that is a formula has the formula's value, where its arrays are sound
abbrev pub FormulasAreValues : Type 0
FormulasAreValues = (s : State) (e : Tree) (v : Arrays × ℕ) (f : FormulaTree) → IsWhole s →
    value_in s e ≡ Ok v → formula_of s.names e ≡ Ok f → IsSound v.0.world →
    meaning (array_in s.arrays) f ≡ Ok (array_in v.0 v.1)
