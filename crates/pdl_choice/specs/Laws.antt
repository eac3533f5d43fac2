-- What holds of every view that picks places.
use Rattle.std.specs.Prelude.{◌≡◌, ℕ, List, length, Ok, IfSome, IsTrue, ℤ}
use Rattle.pdl_shape.specs.Shape.{IsWithin, size_of}
use Rattle.pdl_choice.specs.declared.edges.Edge.{Edge}
use Rattle.pdl_choice.specs.Index.{index_dims, index_source}
use Rattle.pdl_choice.specs.Range.{range_dims, range_source}
use Rattle.pdl_choice.specs.Where.{rises, where_dims, where_source}

-- the coordinates that those of an index view come from lie within the parent
abbrev pub IndexSourcesLieWithin : Type 0
IndexSourcesLieWithin =
    (parent ind_dims ds cs : List ℕ) (ind : List ℤ)
    → length ind ≡ size_of ind_dims → index_dims parent ind_dims ind ≡ Ok ds → IsWithin ds cs
    → IsWithin parent (index_source parent ind_dims ind cs)

-- those of listed places do
abbrev pub WhereSourcesLieWithin : Type 0
WhereSourcesLieWithin =
    (parent mask_dims ds cs places : List ℕ)
    → IsTrue (rises 0 (size_of mask_dims) places) → where_dims parent mask_dims places ≡ Ok ds →
    IsWithin ds cs
    → IsWithin parent (where_source parent places cs)

-- those of a view of windows do, where they come from any
abbrev pub RangeSourcesLieWithin : Type 0
RangeSourcesLieWithin =
    (parent ind_dims ds cs : List ℕ) (ind sizes : List ℤ) (edge : Edge)
    → length ind ≡ size_of ind_dims → range_dims parent ind_dims ind sizes edge ≡ Ok ds →
    IsWithin ds cs
    → IfSome (range_source parent ind_dims ind sizes edge cs) (IsWithin parent)
