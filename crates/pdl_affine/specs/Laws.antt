-- What holds of every affine view.
use Rattle.std.specs.Prelude.{◌≡◌, ℕ, List, Some, None, Ok}
use Rattle.pdl_shape.specs.Shape.{IsWithin, position_of}
use Rattle.pdl_shape.specs.Triple.{IsTriple, Triple}
use Rattle.pdl_affine.specs.declared.Affine.{Affine}
use Rattle.pdl_affine.specs.Views.{dims, source}
use Rattle.pdl_affine.specs.Windows.{Shows, base_place, composed}

-- the coordinates that a view's own come from lie within the parent
abbrev pub SourcesLieWithin : Type 0
SourcesLieWithin =
    (trans : Affine) (parent ds cs : List ℕ)
    → dims trans parent ≡ Ok ds → IsWithin ds cs → IsWithin parent (source trans parent cs)

-- the triple has the view's dimensions, and shows at coordinates within these what they stand for
pub record IsViewOver (trans : Affine) (over t : Triple) : Type 0 where
  pub fits : dims trans over.dims ≡ Ok t.dims
  pub triple : IsTriple t
  pub shows : Shows t (base_place trans over)

-- a composed triple does
abbrev pub ComposedShowViews : Type 0
ComposedShowViews =
    (trans : Affine) (over t : Triple) (ds : List ℕ)
    → IsTriple over → dims trans over.dims ≡ Ok ds → composed trans over ≡ Some t
    → IsViewOver trans over t

-- a view that has none has its parent's elements in their order
abbrev pub UncomposedAreInOrder : Type 0
UncomposedAreInOrder =
    (trans : Affine) (over : Triple) (ds cs : List ℕ)
    → dims trans over.dims ≡ Ok ds → composed trans over ≡ None → IsWithin ds cs
    → position_of over.dims (source trans over.dims cs) ≡ position_of ds cs
