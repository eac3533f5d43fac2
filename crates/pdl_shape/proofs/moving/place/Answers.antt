use Rattle.std.proofs.Common.{ap, sym, subst, ◌∙◌}
use Rattle.pdl_shape.specs.Shape.{IsWithin}
use Rattle.pdl_shape.specs.Triple.{Triple, IsTriple, IsPlace, moved, place_of}
use Rattle.pdl_shape.proofs.TripleTurns.{within_small, place_word, place_natural}
use Rattle.pdl_shape.proofs.moving.place.Goals as goal

pub moved-requires-clause-small : goal.moved-requires-clause-small
moved-requires-clause-small c =
    let w : IsWithin c.triple.inside.dims c.args.at.now = subst (λ (t : Triple). IsWithin t.dims c.args.at.now) (sym c.triple.view_is) c.requires in
    within_small c.triple.inside.dims c.args.at.now w c.dims_list-sizes.ensures.limits.within

place_is : (c : goal.After-moved) → IsPlace (place_of c.args.triple.now c.args.at.now)
place_is c = (subst (λ (t : Triple). IsTriple t) c.triple.view_is c.triple.invariant).reachable c.args.at.now c.requires

pub returns : goal.returns
returns c =
    let word = place_word c.from.result c.moved.result (place_of c.args.triple.now c.args.at.now) c.triple.inside.offset (moved c.triple.inside.incs c.args.at.now)
    (record { sfits = c.from.type_inv }) (record { sfits = c.moved.type_inv }) c.from.ensures
    (c.moved.ensures.value ∙ ap (λ is. moved is c.args.at.now) c.incs_list.ensures.list)
    (ap (λ (t : Triple). place_of t c.args.at.now) c.triple.view_is) (place_is c) in
    place_natural _ (place_of c.args.triple.now c.args.at.now) word.1 (place_is c)
