-- The states that the lines of a dump go through.
use Rattle.std.specs.Prelude.{◌≡◌, ℕ, ◌<◌, false, List, [], ◌∷◌, length, map, is_some}
use Rattle.std.specs.List.{list_any}
use Rattle.pdl_world.specs.Swept.{KeepsAll}
use Rattle.pdl_world.specs.World.{World, ArrayDef, root, view}
use Rattle.pdl_machine.specs.Names.{KernelTexts, Named}
use Rattle.pdl_machine.specs.State.{State}
use Rattle.pdl_machine.specs.Watches.{Watches}

-- a state of slots, kernels, names and arrays, without flows, in which the next array gets this
-- number
abbrev pub state_with : Watches → (kernels : Named KernelTexts) → (names : Named ℕ) → World → (next : ℕ)
    → State
state_with ws kernels names w next = record {
  names = record { arrays = names; kernels = kernels };
  arrays = record { world = w; next = next };
  watches = ws;
  flows = [];
}

-- in which the next array gets the number of arrays
abbrev pub state_of : Watches → (kernels : Named KernelTexts) → (names : Named ℕ) → World → State
state_of ws kernels names w = state_with ws kernels names w (length w)

-- the parent of a view has a number below this one
abbrev pub ParentBelow : ℕ → ArrayDef → Type 0
ParentBelow n (root ty ds es) = Unit {0}
ParentBelow n (view p t) = p < n

-- the arrays are numbered 0, 1, 2 and so on, and a view's parent is older
abbrev pub InOrder : World → Type 0
InOrder [] = Unit {0}
InOrder ((k, d) ∷ w) = (k ≡ length w) × (ParentBelow (length w) d × InOrder w)

-- each of the numbers is below this one
abbrev pub AreBelow : ℕ → List ℕ → Type 0
AreBelow n [] = Unit {0}
AreBelow n (v ∷ vs) = (v < n) × AreBelow n vs

-- the arrays that are bound to names
abbrev pub arrays_of : Named ℕ → List ℕ
arrays_of names = map (λ n. n.1) names

abbrev pub one_name : {A : Type 0} → List ℕ → A → Named A
one_name x a = (x, a) ∷ []

-- No slot is attached, the arrays are numbered in order, and names keep all of them.
pub record IsResting (ws : Watches) (names : Named ℕ) (w : World) : Type 0 where
  pub idle : list_any is_some ws ≡ false
  pub order : InOrder w
  pub below : AreBelow (length w) (arrays_of names)
  pub kept : KeepsAll w (arrays_of names)
