-- Assignments that will be made one after another, each to another root: that of a statement, and
-- those by which flows follow it.
use Rattle.std.specs.Prelude.{◌≡◌, ℕ, ℤ, ◌==◌, if◌then◌else◌, Bool, true, false, List, [], ◌∷◌, length, map, sum_by, Option, Some, None, IfSome, is_some}
use Rattle.pdl_flow.specs.Inputs.{Given, input_of}
use Rattle.pdl_world.specs.Paths.{root_of}
use Rattle.pdl_world.specs.Sound.{IsLive}
use Rattle.pdl_world.specs.Swept.{is_listed}
use Rattle.pdl_world.specs.Windows.{base}
use Rattle.pdl_world.specs.World.{World, assign, dims_in, has_repeats, places_in, ty_in}
use Rattle.pdl_engine.specs.Foresights.{Foretells}
use Rattle.pdl_engine.specs.State.{State as Engine}
use Rattle.pdl_machine.specs.Arrays.{Arrays, array_in}
use Rattle.pdl_machine.specs.Flows.{Flows, followers, is_flow}
use Rattle.pdl_machine.specs.Following.{followed}
use Rattle.pdl_scope.specs.Assigning.{CanAssign}
use Rattle.pdl_scope.specs.Scope.{arrays_of}
use Rattle.pdl_scope.specs.declared.following.Change.{Change}
use Rattle.pdl_scope.specs.declared.following.Values.{Values}
use Rattle.pdl_scope.specs.declared.following.Values.TheVariants.{Kept, Listed}

-- the values of an assignment as a list
abbrev pub listed : Values → List ℤ
listed (Kept k) = k.elems
listed (Listed vs) = vs.items

-- the values are kept as v keeps elements, and can be written block by block; or they are a list
abbrev pub AreFor : World → (v : ℕ) → Values → Type 0
AreFor w v (Kept k) =
    (k.ty ≡ ty_in w v) × (k.dims ≡ dims_in w v) × (has_repeats (places_in w (base w v)) ≡ false)
AreFor w v (Listed vs) = Unit {0}

-- the world after these assignments
abbrev pub all_assigned : World → List Change → World
all_assigned w [] = w
all_assigned w (c ∷ cs) = all_assigned (assign w c.target (listed c.values)) cs

-- the arrays after them
abbrev pub planned : Arrays → List Change → Arrays
planned a cs = record a { world = all_assigned a.world cs }

-- the roots whose elements they alter
abbrev pub roots_in : List Change → List ℕ
roots_in cs = map (λ c. c.root) cs

-- how many values they write
abbrev pub values_in : List Change → ℕ
values_in cs = sum_by (λ c. length (listed c.values)) cs

-- the one that alters a root, if there is one
abbrev pub change_to : List Change → (root : ℕ) → Option Change
change_to [] r = None
change_to (c ∷ cs) r = if c.root == r then Some c else change_to cs r

-- each has the root of its target, and no other one of them has it
abbrev pub AreApart : World → List Change → Type 0
AreApart w [] = Unit {0}
AreApart w (c ∷ cs) =
    (c.root ≡ root_of w c.target) × (is_listed (roots_in cs) c.root ≡ false) × AreApart w cs

-- it tells what it will write, where that is found already
abbrev pub IsForetold : World → Change → Type 0
IsForetold w c = IfSome c.foresight (Foretells w c.target (listed c.values))

-- each is to an array that is there, and tells what it will write, where that is found
abbrev pub AllForetell : World → List Change → Type 0
AllForetell w [] = Unit {0}
AllForetell w (c ∷ cs) = IsLive w c.target × IsForetold w c × AllForetell w cs

-- The assignments are to different roots, and tell what they will write where that is found.
pub record AreForetold (w : World) (cs : List Change) : Type 0 where
  pub apart : AreApart w cs
  pub each : AllForetell w cs

-- each can be made
abbrev pub AllCanAssign : Engine → List Change → Type 0
AllCanAssign e [] = Unit {0}
AllCanAssign e (c ∷ cs) =
    CanAssign e c.target (listed c.values) × AreFor e.world c.target c.values × AllCanAssign e cs

-- The assignments can be made one after another, and what arrays show after them can be foreseen.
pub record ArePlanned (e : Engine) (cs : List Change) : Type 0 where
  pub foretold : AreForetold e.world cs
  pub can : AllCanAssign e cs

-- The assignment of these values to an array, which can be made, with what it will write where that
-- is found.
pub record IsChange (e : Engine) (c : Change) : Type 0 where
  pub root : c.root ≡ root_of e.world c.target
  pub foretells : IsForetold e.world c
  pub can : CanAssign e c.target (listed c.values)
  pub fit : AreFor e.world c.target c.values

-- The plan of an assignment of these values to v: itself first, and then those by which flows follow
-- it, none where none does.
pub record IsPlan (old : Engine) (flows : Flows) (v : ℕ) (vs : List ℤ) (new : Engine) (cs : List Change)
    : Type 0 where
  pub own : Change
  pub rest : List Change
  pub starts : cs ≡ own ∷ rest
  pub target_is : own.target ≡ v
  pub values_are : listed own.values ≡ vs
  pub made : ArePlanned new cs
  pub follows : planned (arrays_of old) cs
      ≡ followed (record (arrays_of old) { world = assign old.world v vs })
      (followers old.world flows v)
  pub alone : followers old.world flows v ≡ [] → rest ≡ []

-- no flow's root is altered
abbrev pub NoFlowIn : List Change → Flows → Type 0
NoFlowIn cs flows = (r : ℕ) → is_flow flows r ≡ true → is_listed (roots_in cs) r ≡ false

-- an array with what it shows, as a formula's input
abbrev pub input_at : Arrays → ℕ → Given
input_at a k = record { array = k; value = array_in a k }

-- each input is of what its array shows
abbrev pub AreShown : Arrays → List Given → Type 0
AreShown a is = (k : ℕ) → IfSome (input_of is k) (λ m. m ≡ array_in a k)

-- what has an input has one still
abbrev pub KeepInputs : (old new : List Given) → Type 0
KeepInputs old new = (k : ℕ) → is_some (input_of old k) ≡ true → is_some (input_of new k) ≡ true

-- the arrays that have inputs
abbrev pub met_by : List Given → List ℕ
met_by is = map (λ i. i.array) is

-- no array has two inputs
abbrev pub AreSingle : List Given → Type 0
AreSingle [] = Unit {0}
AreSingle (i ∷ is) = (input_of is i.array ≡ None) × AreSingle is
