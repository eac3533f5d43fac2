-- The place of an element in order is the offset and its position.
use Rattle.std.proofs.Common.{◌≡◌, ◌+◌, arith, ap, sym, ◌∙◌, subst}
use Rattle.pdl_shape.specs.Triple.{Triple, IsTriple}
use Rattle.pdl_numbers.specs.Shown.{place_at}
use Rattle.pdl_numbers.proofs.ShownInOrder.{in_order_at}
use Rattle.pdl_numbers.proofs.ShownWalks.{Shows, shows_at}
use Rattle.pdl_numbers.proofs.placement.place_in_order.Goals as goal

place_is : (c : goal.After-triple) → place_at c.args.triple.now c.args.position ≡ c.triple.inside.offset + c.args.position
place_is c =
    in_order_at c.shape_laws.ensures.positions c.args.triple.now c.args.position c.requires.ordered c.requires.within
    ∙ ap (λ (t : Triple). t.offset + c.args.position) (sym c.triple.view_is)

pub overflow_add-result : goal.overflow_add-result
overflow_add-result c =
    let ok : IsTriple c.args.triple.now = subst (λ (t : Triple). IsTriple t) c.triple.view_is c.triple.invariant in
    let s : Shows c.args.triple.now c.args.position = shows_at c.shape_laws.ensures.positions c.args.triple.now c.args.position ok c.requires.within in
    record { fits = omega (arith, place_is c, s.small) }

pub returns-clause-place : goal.returns-clause-place
returns-clause-place c = sym (place_is c)
