-- How flows follow: each has the elements of what its formula is.
use Rattle.std.specs.Prelude.{◌≡◌, ◌<◌, ℕ, List, [], ◌∷◌, Result, Ok, Err}
use Rattle.pdl_buf.specs.declared.made.Made.{Made}
use Rattle.pdl_ops.specs.Elementwise.{OpRefusal}
use Rattle.pdl_flow.specs.Formula.{IsFormula, arrays_in}
use Rattle.pdl_flow.specs.Meaning.{meaning}
use Rattle.pdl_world.specs.World.{World, Look, assign}
use Rattle.pdl_world.specs.CutLaws.{IsRootIn}
use Rattle.pdl_world.specs.Sound.{IsLive}
use Rattle.pdl_machine.specs.Arrays.{Arrays, array_in}
use Rattle.pdl_machine.specs.Flows.{Flow, Flows}

-- the arrays after a root got the elements of a value, if there is one
abbrev pub given : Arrays → (root : ℕ) → Result Made OpRefusal → Arrays
given a r (Ok m) = record a { world = assign a.world r m.elems }
given a r (Err refusal) = a

-- the arrays after a flow's root got the elements of what its formula is of these
abbrev pub follow : Arrays → Flow → Arrays
follow a f = given a f.root (meaning (array_in a) f.formula)

-- one flow after another
abbrev pub followed : Arrays → Flows → Arrays
followed a [] = a
followed a (f ∷ flows) = followed (follow a f) flows

-- these arrays are there, and older than a root
abbrev pub AreOlder : World → (root : ℕ) → List ℕ → Type 0
AreOlder w r [] = Unit {0}
AreOlder w r (k ∷ ks) = (k < r) × IsLive w k × AreOlder w r ks

-- A root of these arrays that equals its formula, which is one of older arrays: it shows just what
-- the formula is of these.
pub record IsFlow (a : Arrays) (f : Flow) : Type 0 where
  pub seen : Look
  pub is_root : IsRootIn a.world f.root seen
  pub is_formula : IsFormula f.formula
  pub older : AreOlder a.world f.root (arrays_in f.formula)
  pub equals : meaning (array_in a) f.formula ≡ Ok (array_in a f.root)

-- the roots of these flows lie above a number
abbrev pub RootsAbove : ℕ → Flows → Type 0
RootsAbove n [] = Unit {0}
RootsAbove n (f ∷ flows) = (n < f.root) × RootsAbove n flows

-- each root equals its formula, and is newer than those of the flows before it
abbrev pub AreFlows : Arrays → Flows → Type 0
AreFlows a [] = Unit {0}
AreFlows a (f ∷ flows) = IsFlow a f × RootsAbove f.root flows × AreFlows a flows
