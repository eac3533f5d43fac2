-- The view formulas, one case for each transformation: the child's dimensions over a
-- parent's, or the first refusal, and the parent's coordinates for the child's (PDL::Slices).
use Rattle.std.specs.Prelude.{ℕ, Bool, ◌==◌, List, length, Option, Some, Result}
use Rattle.pdl_shape.specs.Refusals.{Refusal}
use Rattle.pdl_shape.specs.Shape.{size_of}
use Rattle.pdl_affine.specs.Views as affine
use Rattle.pdl_choice.specs.Index.{index_dims, index_source}
use Rattle.pdl_choice.specs.Range.{range_dims, range_source}
use Rattle.pdl_choice.specs.Where.{rises, where_dims, where_source}
use Rattle.pdl_world.specs.declared.Trans.{Trans}
use Rattle.pdl_world.specs.declared.Trans.TheVariants.{Affine, Index, Where, Range}

-- the child's dimensions over a parent of these dimensions, or the first refusal
abbrev pub child_dims : Trans → (parent : List ℕ) → Result (List ℕ) Refusal
child_dims (Affine t) parent = affine.dims t parent
child_dims (Index dims ind) parent = index_dims parent dims ind
child_dims (Where dims places) parent = where_dims parent dims places
child_dims (Range dims ind sizes edge) parent = range_dims parent dims ind sizes edge

-- the parent's coordinates for the child's, or nothing beyond an edge that reads 0
abbrev pub source : Trans → (parent at : List ℕ) → Option (List ℕ)
source (Affine t) parent at = Some (affine.source t parent at)
source (Index dims ind) parent at = Some (index_source parent dims ind at)
source (Where dims places) parent at = Some (where_source parent places at)
source (Range dims ind sizes edge) parent at = range_source parent dims ind sizes edge at

-- a slice has no step 0 and a diagonal lists a dimension; there are as many index values
-- as their dimensions say; listed places rise and lie below the size of their dimensions
abbrev pub is_well_formed : Trans → Bool
is_well_formed (Affine t) = affine.is_well_formed t
is_well_formed (Index dims ind) = length ind == size_of dims
is_well_formed (Where dims places) = rises 0 (size_of dims) places
is_well_formed (Range dims ind sizes edge) = length ind == size_of dims
