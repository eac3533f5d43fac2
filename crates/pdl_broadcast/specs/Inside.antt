-- What the fields of a walk mean.
use Rattle.std.specs.Prelude.{◌≡◌, ◌≤◌, false, if◌then◌else◌, length, vec_capacity}
use Rattle.std.specs.List.{AllZip}
use Rattle.pdl_broadcast.specs.Cursor.{Follows, Stands}
use Rattle.pdl_broadcast.specs.Walk.{Walk, arguments_room}
use Rattle.pdl_broadcast.specs.declared.walk.BroadcastWalk.TheInside.{Inside}
use Rattle.pdl_shape.specs.Shape.{IsDims, IsWithin, position_of, size_of}

-- the walk that the fields stand for: at its end all coordinates are behind,
-- and else those before the place of its coordinates
abbrev pub walk_of : Inside → Walk
walk_of w = record {
  dims = w.dims;
  triples = w.triples.items;
  index = (if w.is_at_end then size_of w.dims else position_of w.dims w.coordinates.items);
}

-- there is a cursor for each argument, and before the end each stands at its argument's
-- place; both lists have room for so many arguments
pub record IsSound (w : Inside) : Type 0 where
  pub limits : IsDims w.dims
  pub count : length w.coordinates.items ≡ length w.dims
  pub within : w.is_at_end ≡ false → IsWithin w.dims w.coordinates.items
  pub followed : AllZip (Follows w.dims) w.triples.items w.cursors.items
  pub triples_room : arguments_room ≤ vec_capacity w.triples
  pub cursors_room : arguments_room ≤ vec_capacity w.cursors
  pub standing : w.is_at_end ≡ false →
      AllZip (Stands w.coordinates.items) w.triples.items w.cursors.items
