use Rattle.pdl_shape.proofs.BroadcastLemmas.{cut_within, broadcasts_join}
use Rattle.pdl_shape.proofs.ShapeExtents.{extent_positive, size_le-extent}
use Rattle.pdl_shape.proofs.ShapePlaces.{places_lie_in_parent}
use Rattle.pdl_shape.proofs.ShapePositions.{coordinates_within, position_below, position-coordinates, coordinates-position, within-length, quotient_below, extent-drop}
use Rattle.pdl_shape.proofs.TripleWholes.{place-whole}
use Rattle.pdl_shape.proofs.PlacesWritten.{length_write, write_given, write_last, write_other}
use Rattle.pdl_shape.proofs.laws.shape_laws.Goals as goal

pub returns-clause-positions : goal.returns-clause-positions
returns-clause-positions c = record {
  coordinates_within = coordinates_within;
  position_below = position_below;
  position_again = position-coordinates;
  coordinates_again = coordinates-position;
  as_many = within-length;
  quotient_below = quotient_below;
}

pub returns-clause-sizes : goal.returns-clause-sizes
returns-clause-sizes c = record { size_within = size_le-extent; extent_above = extent_positive; rest_within = extent-drop }

pub returns-clause-wholes : goal.returns-clause-wholes
returns-clause-wholes c = place-whole

pub returns-clause-cuts : goal.returns-clause-cuts
returns-clause-cuts c = cut_within

pub returns-clause-joins : goal.returns-clause-joins
returns-clause-joins c = broadcasts_join

pub returns-clause-places : goal.returns-clause-places
returns-clause-places c = places_lie_in_parent

pub returns-clause-writes : goal.returns-clause-writes
returns-clause-writes c = record { last = write_last; others = write_other; as_many = length_write; given = write_given }
