use Rattle.std.proofs.Common.{◌≡◌, ℕ, true, List, Option, ◌∙◌, sym, ap, subst, arith}
use Rattle.std.proofs.lemmas.Result.{IfOk-weaker}
use Rattle.pdl_shape.specs.Places.{IsBelow}
use Rattle.pdl_shape.specs.Shape.{size_of}
use Rattle.pdl_shape.specs.Triple.{Triple}
use Rattle.pdl_nodes.specs.Placed.{placed_by}
use Rattle.pdl_nodes.specs.Row.{Row, parent_from}
use Rattle.pdl_nodes.specs.Rows.{row_at}
use Rattle.pdl_nodes.specs.Worlds.{places_seen}
use Rattle.pdl_nodes.specs.declared.origin.Layout.{Layout}
use Rattle.pdl_nodes.specs.declared.origin.Origin.TheVariants.{View}
use Rattle.pdl_pull.specs.Gathered.{own_at}
use Rattle.pdl_pull.proofs.GatheredPlaces.{found_places, over_known, own_below}
use Rattle.pdl_pull.proofs.filling.find_places.Goals as goal

pub unreachable-requires : goal.unreachable-requires
unreachable-requires c = c.requires.view (c.row_laws.ensures.seen.parentless c.args.table.now c.args.id c.requires.order.still c.requires.live (ap parent_from (sym (c.origin.ensures ∙ ap (λ (r : Row). r.origin) c.node-node.ensures) ∙ c.in-Root.is)))

pub node-above-requires : goal.node-above-requires
node-above-requires c = record { live = (c.row_laws.ensures.seen.view_at c.args.table.now c.requires.order.still c.args.id c.in-View.parent c.in-View.trans c.in-View.layout c.requires.live (sym (c.origin.ensures ∙ ap (λ (r : Row). r.origin) c.node-node.ensures) ∙ c.in-View.is)).live }

pub node-base-requires : goal.node-base-requires
node-base-requires c = record { live = c.row_laws.ensures.seen.base_live c.args.table.now c.base.result c.in-View.parent c.requires.order.still (c.row_laws.ensures.seen.view_at c.args.table.now c.requires.order.still c.args.id c.in-View.parent c.in-View.trans c.in-View.layout c.requires.live (sym (c.origin.ensures ∙ ap (λ (r : Row). r.origin) c.node-node.ensures) ∙ c.in-View.is)).live (sym (c.base.ensures ∙ ap (λ (r : Row). r.base) c.node-above.ensures)) }

pub places_through-requires-clause-within : goal.places_through-requires-clause-within
places_through-requires-clause-within c = λ p l.
    let view : Row → Triple = λ r. r.triple in
    let count : c.elements_of-count.result ≡ size_of (row_at c.args.table.now c.args.id).triple.dims = c.elements_of-count.ensures.count ∙ ap (λ (t : Triple). size_of t.dims) (c.behind-node.view_is ∙ c.triple.ensures ∙ ap view c.node-node.ensures) in
    let size : c.elements_of-size.result ≡ size_of (row_at c.args.table.now c.in-View.parent).triple.dims = c.elements_of-size.ensures.count ∙ ap (λ (t : Triple). size_of t.dims) (c.behind-above.view_is ∙ c.triple-in-View.ensures ∙ ap view c.node-above.ensures) in
    subst (λ (n : ℕ). IsBelow n (own_at c.get.result.now p)) (sym size)
    (own_below c.row_laws.ensures c.args.table.now c.args.id c.in-View.parent c.in-View.trans c.get.result.now c.requires.order.still c.requires.live c.requires.own
    (sym (c.origin.ensures ∙ ap (λ (r : Row). r.origin) c.node-node.ensures) ∙ c.in-View.is ∙ ap (λ (y : Layout). View c.in-View.parent c.in-View.trans y) (sym c.get.ensures)) p (omega (arith, count)))

pub returns : goal.returns
returns c =
    let b : (row_at c.args.table.now c.in-View.parent).base ≡ c.base.result = sym (c.base.ensures ∙ ap (λ (r : Row). r.base) c.node-above.ensures) in
    let m : (row_at c.args.table.now c.base.result).mark ≡ true = ap (λ x. (row_at c.args.table.now x).mark) (sym b) ∙ c.requires.parent c.in-View.parent (ap parent_from (sym (c.origin.ensures ∙ ap (λ (r : Row). r.origin) c.node-node.ensures) ∙ c.in-View.is)) in
    let k : placed_by c.places.result.now c.triple-in-View-2.result.now ≡ places_seen c.args.table.now c.in-View.parent =
    ap (λ (u : Triple). placed_by c.places.result.now u) (c.triple-in-View-2.ensures ∙ ap (λ (r : Row). r.triple) c.node-above.ensures)
    ∙ ap (λ (o : Option (List (Option ℕ))). placed_by o (row_at c.args.table.now c.in-View.parent).triple) (c.places.ensures ∙ ap (λ (r : Row). r.places) c.node-base.ensures)
    ∙ over_known c.row_laws.ensures c.args.table.now c.base.result c.in-View.parent c.requires.order c.requires.known (c.row_laws.ensures.seen.view_at c.args.table.now c.requires.order.still c.args.id c.in-View.parent c.in-View.trans c.in-View.layout c.requires.live (sym (c.origin.ensures ∙ ap (λ (r : Row). r.origin) c.node-node.ensures) ∙ c.in-View.is)).live b m in
    let n : c.elements_of-count.result ≡ size_of (row_at c.args.table.now c.args.id).triple.dims = c.elements_of-count.ensures.count ∙ ap (λ (t : Triple). size_of t.dims) (c.behind-node.view_is ∙ c.triple.ensures ∙ ap (λ (r : Row). r.triple) c.node-node.ensures) in
    IfOk-weaker c.places_through.result _ _ (λ v e. e ∙ found_places c.row_laws.ensures c.args.table.now c.args.id c.in-View.parent c.elements_of-count.result c.in-View.trans c.get.result.now c.places.result.now c.triple-in-View-2.result.now c.requires.order.still c.requires.live c.requires.own
    (sym (c.origin.ensures ∙ ap (λ (r : Row). r.origin) c.node-node.ensures) ∙ c.in-View.is ∙ ap (λ (y : Layout). View c.in-View.parent c.in-View.trans y) (sym c.get.ensures)) n k) c.places_through.ensures
