-- The walk's place in a whole array is a position.
use Rattle.std.proofs.Common.{◌≡◌, pos}
use Rattle.pdl_broadcast.specs.Walk.{argument_coordinates, argument_place}
use Rattle.pdl_shape.specs.Shape.{IsWithin}
use Rattle.pdl_shape.specs.Triple.{Triple, whole_triple}
use Rattle.pdl_reduce.proofs.BlockMeets.{said, place_is, place_below}
use Rattle.pdl_reduce.proofs.meeting.position_at.Goals as goal

pub returns-clause-position : goal.returns-clause-position
returns-clause-position c = λ ds e.
    place_is c.shape_laws.ensures.wholes ds c.args.walk.now.dims c.args.walk.now.index c.offset.result
    (said (λ (t : Triple). IsWithin t.dims (argument_coordinates c.args.walk.now t)) _ (whole_triple ds) e c.offset.ensures.reachable)
    (said (λ (t : Triple). pos c.offset.result ≡ argument_place c.args.walk.now t) _ (whole_triple ds) e c.offset.ensures.place)

pub returns-clause-within : goal.returns-clause-within
returns-clause-within c = λ ds e.
    let within : _ = said (λ (t : Triple). IsWithin t.dims (argument_coordinates c.args.walk.now t)) _ (whole_triple ds) e c.offset.ensures.reachable in
    place_below c.shape_laws.ensures.positions ds c.args.walk.now.dims c.args.walk.now.index c.offset.result within
    (place_is c.shape_laws.ensures.wholes ds c.args.walk.now.dims c.args.walk.now.index c.offset.result within
    (said (λ (t : Triple). pos c.offset.result ≡ argument_place c.args.walk.now t) _ (whole_triple ds) e c.offset.ensures.place))
