-- What holds of every step, whatever numbers its arrays have.
use Rattle.std.specs.Prelude.{◌≡◌, ◌↔◌, ℕ, Bool, true, List, ◌++◌, Contains, Option, Some, option_map, is_some, All, Ok, ◌⊎◌, []}
use Rattle.pdl_elem.specs.Tables.{found_in}
use Rattle.pdl_buf.specs.declared.made.Made.{Made}
use Rattle.pdl_world.specs.World.{World, ArrayDef}
use Rattle.pdl_world.specs.Sound.{IsSound}
use Rattle.pdl_world.specs.Swept.{is_listed, sweep, Has, IsReached}
use Rattle.pdl_lexemes.specs.declared.WordKind.TheVariants.{View}
use Rattle.pdl_lexemes.specs.Lexing.{word_kinds, kind_of_word}
use Rattle.pdl_nice.specs.Nice.{nice_word}
use Rattle.pdl_syntax.specs.StatementTree.{StatementTree, assign}
use Rattle.pdl_watch.specs.Slots.{IsQuiet, IsBelow}
use Rattle.pdl_machine.specs.declared.builtin.Builtin.TheVariants.{Nice}
use Rattle.pdl_machine.specs.Builtin.{views, builtin_of}
use Rattle.pdl_machine.specs.Names.{names_limit, kernels_limit, number_of}
use Rattle.pdl_machine.specs.Arrays.{Arrays, array_in}
use Rattle.pdl_machine.specs.Flows.{Flow, all_read, is_reached, IsNeeded}
use Rattle.pdl_machine.specs.State.{State, with_arrays, with_world, held, needs, kept, IsSwept, AreLive, IsWhole}
use Rattle.pdl_machine.specs.Tidy.{settled, tidy}
use Rattle.pdl_machine.specs.Watches.{Watches, attached, trimmed, AreThere, notices}
use Rattle.pdl_machine.specs.Step.{Done, effect, step}

-- how many names are bound at once at most, and how many kernels are there
pub record LimitsAre : Type 0 where
  pub names : names_limit ≡ 512
  pub kernels : kernels_limit ≡ 256

-- where nothing is left over, a step from the renumbered state is the step
abbrev pub StepsAlike : Type 0
StepsAlike = (number : ℕ) (present : List Bool) (s : State) (statement : StatementTree) →
    IsWhole s → IsSwept s → step number present (tidy s) statement ≡ step number present s statement

-- nothing but new arrays came
pub record AreGrown (old new : Arrays) : Type 0 where
  pub more : World
  pub is : new.world ≡ more ++ old.world

-- new arrays that nothing reaches are unseen
abbrev pub NewArraysUnseen : Type 0
NewArraysUnseen = (s : State) (a : Arrays) → AreGrown s.arrays a → IsSound a.world →
    AreLive s.arrays.world (held s) → AreLive s.arrays.world (all_read s.flows) →
    tidy (with_arrays s a) ≡ tidy s

-- a sweep by fewer after a sweep by more is the sweep by fewer
abbrev pub SweepsByFewer : Type 0
SweepsByFewer = (w : World) (many few : List ℕ) →
    ((v : ℕ) → is_listed few v ≡ true → is_listed many v ≡ true) →
    sweep (sweep w many) few ≡ sweep w few

-- letting arrays go is unseen, where all that the state needs is held still
abbrev pub LettingGoUnseen : Type 0
LettingGoUnseen = (s : State) (many : List ℕ) →
    ((v : ℕ) → is_listed (needs s).arrays v ≡ true → is_listed many v ≡ true) →
    tidy (with_world s (sweep s.arrays.world many)) ≡ tidy s

-- and so is letting go of the flows and the arrays that the state doesn't keep
abbrev pub SettlingUnseen : Type 0
SettlingUnseen = (s : State) → tidy (with_world (settled s) (kept s)) ≡ tidy s

-- each array of the state is reached
abbrev pub AreAllReached : State → Type 0
AreAllReached s = (k : ℕ) (d : ArrayDef) → Has s.arrays.world k d →
    IsReached s.arrays.world (needs s).arrays k

-- an array on the path of one that is held is reached
abbrev pub PathsReach : Type 0
PathsReach = (w : World) (held : List ℕ) (v : ℕ) → is_reached w held v ≡ true → IsReached w held v

-- after a step each array that is left is reached
abbrev pub StepsLeaveReached : Type 0
StepsLeaveReached = (number : ℕ) (present : List Bool) (s : State) (statement : StatementTree)
    (done : Done) → IsWhole s →
    step number present s statement ≡ Ok done → AreAllReached done.state

-- the array is needed for what the state holds by itself
abbrev pub IsNeededBy : State → ℕ → Type 0
IsNeededBy s k = IsNeeded s.arrays.world s.flows (held s) k

-- the arrays that are kept are the least set that has those that the state holds by itself, the
-- parents of its views, and all that a flow reads whose root it has
abbrev pub KeptAreNeeded : Type 0
KeptAreNeeded = (s : State) (k : ℕ) (d : ArrayDef) → IsWhole s →
    (Has (kept s) k d ↔ (Has s.arrays.world k d × IsNeededBy s k))

-- the flows that stay are those whose root is needed: the others end
abbrev pub NeededFlowsStay : Type 0
NeededFlowsStay = (s : State) (f : Flow) → IsWhole s →
    (Contains (needs s).flows f ↔ (Contains s.flows f × IsNeededBy s f.root))

-- what a name shows, if it is bound
abbrev pub shown_by : State → List ℕ → Option Made
shown_by s x = option_map (array_in s.arrays) (number_of s.names x)

-- letting arrays go and numbering the others anew changes nothing that a name shows
abbrev pub TidyingShowsTheSame : Type 0
TidyingShowsTheSame = (s : State) (x : List ℕ) → IsWhole s → shown_by (tidy s) x ≡ shown_by s x

-- an assignment, the only statement of which watchers hear
abbrev pub Assigns : StatementTree → Type 0
Assigns (assign x vs sign e) = Unit {0}
Assigns _ = ⊥

-- watchers are told of assignments alone: of any other statement each slot has no notices
abbrev pub OnlyAssignmentsTell : Type 0
OnlyAssignmentsTell = (number : ℕ) (present : List Bool) (s : State) (statement : StatementTree)
    (after : State × List ℕ) → IsWhole s → (Assigns statement → ⊥) →
    effect present s statement ≡ Ok after →
    IsQuiet (notices number s.arrays.world after.0.arrays.world after.0.watches)

-- a statement has text or notices, never both
abbrev pub EitherTextOrNotices : Type 0
EitherTextOrNotices = (number : ℕ) (present : List Bool) (s : State) (statement : StatementTree)
    (done : Done) → IsWhole s → step number present s statement ≡ Ok done →
    (done.text ≡ []) ⊎ IsQuiet done.told

-- entries behind the last attached slot attach nothing
abbrev pub TrimmingAttachesTheSame : Type 0
TrimmingAttachesTheSame = (ws : Watches) → attached (trimmed ws) ≡ attached ws

-- what slots are told doesn't depend on new arrays that came before the change
abbrev pub GrowingTellsTheSame : Type 0
GrowingTellsTheSame = (number : ℕ) (old mid : Arrays) (new : World) (ws : Watches) →
    AreGrown old mid → IsSound mid.world → AreLive old.world (attached ws) →
    notices number mid.world new ws ≡ notices number old.world new ws

-- after a step each attached slot has a watcher, where it was so before
abbrev pub StepsKeepThere : Type 0
StepsKeepThere = (number : ℕ) (present : List Bool) (s : State) (statement : StatementTree)
    (done : Done) → AreThere present s.watches →
    step number present s statement ≡ Ok done → AreThere done.present done.state.watches

-- a step gives no slot a watcher
abbrev pub StepsGiveNone : Type 0
StepsGiveNone = (number : ℕ) (present : List Bool) (s : State) (statement : StatementTree)
    (done : Done) → step number present s statement ≡ Ok done → IsBelow done.present present

-- the names of views are the view words of the grammar, which may stand in a target; and the call
-- that nice slices are written for is one of them
pub record ViewsAreViewWords : Type 0 where
  pub words : All (λ v. kind_of_word v.0 ≡ View) views
  pub named : All (λ w. w.1 ≡ View → is_some (found_in views w.0) ≡ true) word_kinds
  pub nice : builtin_of nice_word ≡ Some Nice
