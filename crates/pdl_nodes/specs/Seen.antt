-- What the row of an array says of it, where rows are still.
use Rattle.std.specs.List.{range_with_len}
use Rattle.std.specs.Prelude.{◌≡◌, ◌+◌, ◌<◌, ℕ, List, Option, Some, None, true, [], length, map}
use Rattle.pdl_nodes.specs.Assigned.{entry}
use Rattle.pdl_nodes.specs.Rows.{Rows, has, row_at}
use Rattle.pdl_nodes.specs.Spots.{Below, spots}
use Rattle.pdl_nodes.specs.Still.{IsDerived, IsWhole}
use Rattle.pdl_nodes.specs.Worlds.{places_seen, shape}
use Rattle.pdl_nodes.specs.declared.origin.Layout.{Layout}
use Rattle.pdl_shape.specs.Places.{AllBelow}
use Rattle.pdl_shape.specs.Shape.{size_of}
use Rattle.pdl_world.specs.Paths.{path}
use Rattle.pdl_world.specs.Windows.{window}
use Rattle.pdl_world.specs.World.{look}
use Rattle.pdl_world.specs.declared.Trans.{Trans}

-- the path of the array of this number, and none where there is no number
abbrev pub path_from : Rows → Option ℕ → List ℕ
path_from rs None = []
path_from rs (Some p) = path (shape rs) p

-- the row of v tells what the world does of v, its base is a whole array that is its own base, and
-- its root is its own root and base
pub record IsSeen (rs : Rows) (v : ℕ) : Type 0 where
  -- a look at it sees the row's root, type and dimensions, and its places in the root
  pub looks :
      look (shape rs) v
      ≡ Some (record {
        root = (row_at rs v).root;
        ty = (row_at rs v).ty;
        dims = (row_at rs v).triple.dims;
        places = places_seen rs v;
      })
  -- it is shown over the row's base by the row's triple
  pub windows :
      window (shape rs) v
      ≡ Some (record { base = (row_at rs v).base; triple = (row_at rs v).triple })
  -- it has a place for each element
  pub count : length (places_seen rs v) ≡ size_of (row_at rs v).triple.dims
  -- these are the places of its base at the spots of its triple
  pub over :
      places_seen rs v ≡ map (entry (places_seen rs (row_at rs v).base)) (spots (row_at rs v).triple)
  -- the spots lie in the base
  pub fits : Below (size_of (row_at rs (row_at rs v).base).triple.dims) (spots (row_at rs v).triple)
  -- and the places in the root
  pub within : AllBelow (size_of (row_at rs (row_at rs v).root).triple.dims) (places_seen rs v)
  -- the base is there, and no newer than the array
  pub base_has : has rs (row_at rs v).base ≡ true
  pub base_low : (row_at rs v).base < v + 1
  -- it is its own base, of the same root and type, and shown whole
  pub base_base : (row_at rs (row_at rs v).base).base ≡ (row_at rs v).base
  pub base_root : (row_at rs (row_at rs v).base).root ≡ (row_at rs v).root
  pub base_ty : (row_at rs (row_at rs v).base).ty ≡ (row_at rs v).ty
  pub base_whole : IsWhole (row_at rs (row_at rs v).base).triple
  -- the root is there, is its own root and base, and of the same type
  pub root_has : has rs (row_at rs v).root ≡ true
  pub root_root : (row_at rs (row_at rs v).root).root ≡ (row_at rs v).root
  pub root_base : (row_at rs (row_at rs v).root).base ≡ (row_at rs v).root
  pub root_ty : (row_at rs (row_at rs v).root).ty ≡ (row_at rs v).ty
  -- its places are all that it has, in order
  pub root_places :
      places_seen rs (row_at rs v).root
      ≡ map Some (range_with_len 0 (size_of (row_at rs (row_at rs v).root).triple.dims))

-- v is a view of p by this transformation and layout: p is there and older, and the row of v is
-- derived of that of p
pub record IsViewAt (rs : Rows) (v p : ℕ) (t : Trans) (y : Layout) : Type 0 where
  pub live : has rs p ≡ true
  pub older : p < v
  pub derived : IsDerived v (row_at rs p) (row_at rs v) t y
