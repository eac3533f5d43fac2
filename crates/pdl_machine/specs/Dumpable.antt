-- Of which states a dump can be a script that makes them again.
use Rattle.std.specs.Prelude.{◌≡◌, ℕ, ℤ, ◌≤◌, List, [], ◌∷◌, length, All, None, Ok}
use Rattle.pdl_elem.specs.Types.{InRange}
use Rattle.pdl_elem.specs.declared.Ty.TheVariants.{Longlong}
use Rattle.pdl_shape.specs.Shape.{IsDims}
use Rattle.pdl_buf.specs.Made.{IsMade}
use Rattle.pdl_slices.specs.declared.SliceArg.{SliceArg}
use Rattle.pdl_slices.specs.Meaning.{slice_of}
use Rattle.pdl_affine.specs.declared.Affine.{Affine}
use Rattle.pdl_affine.specs.declared.Affine.TheVariants.{Slice}
use Rattle.pdl_world.specs.declared.Trans.{Trans}
use Rattle.pdl_world.specs.declared.Trans.TheVariants as trans
use Rattle.pdl_world.specs.World.{World, ArrayDef, root, view}
use Rattle.pdl_lexemes.specs.Texts.{IsName, IsQuotable}
use Rattle.pdl_machine.specs.Kernels.{defined}
use Rattle.pdl_machine.specs.Names.{KernelTexts, Named, found, kernels_limit}
use Rattle.pdl_machine.specs.State.{State, IsSwept, IsWhole}
use Rattle.pdl_machine.specs.Tidy.{renumber}

-- each thing is so under its name, and no name stands twice
abbrev pub AreEach : {A : Type 0} → (List ℕ → A → Type 0) → Named A → Type 0
AreEach P [] = Unit {0}
AreEach P (n ∷ names) = P n.0 n.1 × (found names n.0 ≡ None) × AreEach P names

-- each name is one that a script can spell, and none stands twice
abbrev pub AreNames : Named ℕ → Type 0
AreNames names = AreEach (λ x v. IsName x) names

-- the definition by these texts gives the kernel of this name, and a string can hold each of them
pub record IsDefined (name : List ℕ) (texts : KernelTexts) : Type 0 where
  pub is : defined name texts.signature texts.code ≡ Ok texts
  pub signature : IsQuotable texts.signature
  pub code : IsQuotable texts.code

-- some text is read as these slice arguments
pub record AreRead (args : List SliceArg) : Type 0 where
  pub text : List ℕ
  pub is : slice_of text ≡ Ok args

-- an array of the type longlong
pub record IsIndex (dims : List ℕ) (elems : List ℤ) : Type 0 where
  pub dims_are : IsDims dims
  pub made : IsMade Longlong dims elems

abbrev pub IsAffineWritable : Affine → Type 0
IsAffineWritable (Slice args) = AreRead args
IsAffineWritable _ = Unit {0}

-- A script can spell the transformation: a slice's arguments are read from some text, and an array
-- that a view chooses by, or the sizes of its windows, can be made.
abbrev pub IsWritable : Trans → Type 0
IsWritable (trans.Affine t) = IsAffineWritable t
IsWritable (trans.Index dims ind) = IsIndex dims ind
IsWritable (trans.Where dims places) = IsDims dims
IsWritable (trans.Range dims ind sizes edge) = IsIndex dims ind × All (InRange Longlong) sizes

abbrev pub IsViewWritable : ArrayDef → Type 0
IsViewWritable (root ty dims elems) = Unit {0}
IsViewWritable (view p t) = IsWritable t

abbrev pub ViewsAreWritable : World → Type 0
ViewsAreWritable [] = Unit {0}
ViewsAreWritable ((k, d) ∷ w) = IsViewWritable d × ViewsAreWritable w

-- What every session keeps of its names, its kernels and the views among its arrays, whatever
-- numbers these have: a script can spell them.
pub record IsSpelled (s : State) : Type 0 where
  pub names : AreNames s.names.arrays
  pub kernels : AreEach IsDefined s.names.kernels
  pub few : length s.names.kernels ≤ kernels_limit
  pub views : ViewsAreWritable s.arrays.world

-- the arrays are numbered 0, 1, 2 and so on in their order
pub record IsNumbered (s : State) : Type 0 where
  pub next : s.arrays.next ≡ length s.arrays.world
  pub world : renumber s.arrays.world ≡ s.arrays.world

-- A state between two statements of a session, which a dump makes again.
pub record IsDumpable (s : State) : Type 0 where
  pub whole : IsWhole s
  pub swept : IsSwept s
  pub numbered : IsNumbered s
  pub spelled : IsSpelled s
