-- Flows: roots that always equal a formula of older arrays (PDL::Dataflow).
use Rattle.std.specs.Prelude.{◌≡◌, ℕ, ◌==◌, if◌then◌else◌, List, [], ◌∷◌, ◌++◌, Contains, Bool, true, false}
use Rattle.pdl_world.specs.declared.Trans.{Trans}
use Rattle.std.specs.List.{list_any, flat_map}
use Rattle.pdl_flow.specs.Formula.{FormulaTree, number, array, unary, binary, convert, arrays_in}
use Rattle.pdl_world.specs.World.{World, view}
use Rattle.pdl_world.specs.Paths.{path, root_of}
use Rattle.pdl_world.specs.Swept.{is_listed, Has}

-- A root, and the formula that it equals.
pub record Flow : Type 0 where
  pub root : ℕ
  pub formula : FormulaTree

-- flows in the order in which they were made
abbrev pub Flows : Type 0
Flows = List Flow

-- whether an array is the root of a flow
abbrev pub is_flow : Flows → ℕ → Bool
is_flow flows v = list_any (λ f. f.root == v) flows

-- the arrays that formulas read
abbrev pub all_read : Flows → List ℕ
all_read flows = flat_map (λ f. arrays_in f.formula) flows

-- flows with one more
abbrev pub flows_with : Flows → (root : ℕ) → FormulaTree → Flows
flows_with flows r f = flows ++ record { root = r; formula = f } ∷ []

-- the flows but that of a root
abbrev pub without_flow : Flows → ℕ → Flows
without_flow [] v = []
without_flow (f ∷ flows) v = if f.root == v then without_flow flows v
    else f ∷ without_flow flows v

-- a formula of the same arrays under other numbers
abbrev pub formula_by : (ℕ → ℕ) → FormulaTree → FormulaTree
formula_by g (number ty z) = number ty z
formula_by g (array k) = array (g k)
formula_by g (unary op f) = unary op (formula_by g f)
formula_by g (binary op e f) = binary op (formula_by g e) (formula_by g f)
formula_by g (convert ty f) = convert ty (formula_by g f)

abbrev pub flow_by : (ℕ → ℕ) → Flow → Flow
flow_by g f = record { root = g f.root; formula = formula_by g f.formula }

-- whether an array is on the path of one of these
abbrev pub is_reached : World → (held : List ℕ) → ℕ → Bool
is_reached w hs v = list_any (λ u. is_listed (path w u) v) hs

-- The flows that stay, and the arrays that are needed then.
pub record Needs : Type 0 where
  pub flows : Flows
  pub arrays : List ℕ

-- what is needed with one flow more: one that stays needs what its formula reads
abbrev pub needs_with : (stays : Bool) → Flow → Needs → Needs
needs_with true f n = record { flows = f ∷ n.flows; arrays = arrays_in f.formula ++ n.arrays }
needs_with false f n = n

-- Where these arrays are held, a flow stays whose root they or what the flows that stay need
-- reach. The newest flow comes first, since no formula reads newer arrays.
abbrev pub needs_of : World → Flows → (held : List ℕ) → Needs
needs_of w [] hs = record { flows = []; arrays = hs }
needs_of w (f ∷ flows) hs =
    let newer = needs_of w flows hs in needs_with (is_reached w newer.arrays f.root) f newer

-- An array is needed where it is held, is the parent of a view that is needed, or is read by the
-- formula of a flow whose root is needed.
pub data IsNeeded (w : World) (flows : Flows) (held : List ℕ) : ℕ → Type 0 where
  needed_itself : (k : ℕ) → is_listed held k ≡ true → IsNeeded w flows held k
  needed_parent : (k p : ℕ) (t : Trans) → Has w k (view p t) → IsNeeded w flows held k
      → IsNeeded w flows held p
  needed_read : (f : Flow) (k : ℕ) → Contains flows f → IsNeeded w flows held f.root
      → is_listed (arrays_in f.formula) k ≡ true → IsNeeded w flows held k

-- whether a formula reads an array of one of these roots
abbrev pub reads_from : World → Flow → (roots : List ℕ) → Bool
reads_from w f roots = list_any (λ k. is_listed roots (root_of w k)) (arrays_in f.formula)

-- the flows that read, directly or through flows, an array of one of these roots
abbrev pub affected : World → Flows → (roots : List ℕ) → Flows
affected w [] roots = []
affected w (f ∷ flows) roots = if reads_from w f roots then f ∷ affected w flows (f.root ∷ roots)
    else affected w flows roots

-- the flows that follow an assignment to an array
abbrev pub followers : World → Flows → (target : ℕ) → Flows
followers w flows v = affected w flows (root_of w v ∷ [])
