use Rattle.std.proofs.Common.{◌≡◌, length, sym, ◌∙◌, ap, eqb-true}
use Rattle.pdl_shape.specs.Shape.{size_of}
use Rattle.pdl_shape.specs.Triple.{Triple}
use Rattle.pdl_nodes.specs.Placed.{in_order, placed_by}
use Rattle.pdl_nodes.specs.Row.{Row}
use Rattle.pdl_nodes.specs.Rows.{row_at}
use Rattle.pdl_nodes.specs.Worlds.{IsRoot}
use Rattle.pdl_engine.specs.Foresights.{elements_after}
use Rattle.pdl_engine.proofs.ForesightLemmas.{after_long, foreseen_is, places_now}
use Rattle.pdl_engine.proofs.ForesightImages.{root_places}
use Rattle.pdl_engine.proofs.PlacedByTriples.{count_places}
use Rattle.pdl_engine.proofs.foreseeing.foresee.Goals as goal

pub base_of-base-requires-clause-live : goal.base_of-base-requires-clause-live
base_of-base-requires-clause-live c = c.row_laws.ensures.seen.base_live c.args.table.now c.node-node.result.now.base c.args.seen c.requires.order.still c.requires.live (sym (ap (λ (r : Row). r.base) c.node-node.ensures))

pub elements_left-requires-clause-whole : goal.elements_left-requires-clause-whole
elements_left-requires-clause-whole c = λ t.
    let rs = c.args.table.now in
    let root : c.root.result ≡ (row_at rs c.args.seen).root = c.root.ensures ∙ ap (λ (r : Row). r.root) c.node-node.ensures in
    let is : IsRoot rs c.args.seen = (c.requires.live, sym root ∙ eqb-true c.root.result c.args.seen t) in
    places_now c.row_laws.ensures rs c.args.seen c.node-node.result.now c.base_of-base.result.now c.places.result.now c.triple.result.now c.requires.order c.requires.known c.requires.live c.requires.fresh c.node-node.ensures c.base_of-base.ensures c.places.ensures c.triple.ensures
    ∙ root_places c.row_laws.ensures rs c.args.seen c.requires.order.still is
    ∙ ap in_order (sym (ap length c.deref.ensures.value ∙ c.in_ok-before.ensures.count))

pub elements_left-requires-clause-count : goal.elements_left-requires-clause-count
elements_left-requires-clause-count c = ap length c.deref.ensures.value ∙ c.in_ok-before.ensures.count ∙ ap (λ (t : Triple). size_of t.dims) (sym (c.triple.ensures ∙ ap (λ (r : Row). r.triple) c.node-node.ensures))

pub returns-clause-value : goal.returns-clause-value
returns-clause-value c = λ v vs told. foreseen_is c.row_laws.ensures c.assignment_laws.ensures.reads c.growth_laws.ensures.within c.args.table.now c.args.seen v vs c.args.foresight.now c.in_ok-before.before.items c.in_ok-after.after.items _ c.requires.order c.requires.sound
    c.requires.live c.requires.family c.in_ok-before.ensures.items
    (places_now c.row_laws.ensures c.args.table.now c.args.seen c.node-node.result.now c.base_of-base.result.now c.places.result.now c.triple.result.now c.requires.order c.requires.known c.requires.live c.requires.fresh c.node-node.ensures c.base_of-base.ensures c.places.ensures c.triple.ensures)
    (c.in_ok-after.ensures ∙ ap (elements_after c.args.foresight.now.written (placed_by c.places.result.now c.triple.result.now)) c.deref.ensures.value) told

pub returns-clause-alike : goal.returns-clause-alike
returns-clause-alike c =
    let long : length c.deref.result.now ≡ size_of c.triple.result.now.dims = ap length c.deref.ensures.value ∙ c.in_ok-before.ensures.count ∙ ap (λ (t : Triple). size_of t.dims) (sym (c.triple.ensures ∙ ap (λ (r : Row). r.triple) c.node-node.ensures)) in
    ap length c.in_ok-after.ensures
    ∙ after_long c.args.foresight.now.written (placed_by c.places.result.now c.triple.result.now) c.deref.result.now (count_places c.places.result.now c.triple.result.now ∙ sym long)
    ∙ ap length c.deref.ensures.value
