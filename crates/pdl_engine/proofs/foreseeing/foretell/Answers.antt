use Rattle.std.proofs.Common.{◌≡◌, ℕ, sym, ◌∙◌, ap, refl, arith}
use Rattle.pdl_shape.specs.Shape.{size_of}
use Rattle.pdl_shape.specs.Triple.{Triple}
use Rattle.pdl_world.specs.World.{root_elements}
use Rattle.pdl_nodes.specs.Placed.{in_order, placed_by}
use Rattle.pdl_nodes.specs.Row.{Row}
use Rattle.pdl_nodes.specs.Rows.{row_at}
use Rattle.pdl_nodes.specs.Worlds.{IsRoot, places_seen, world_of}
use Rattle.pdl_engine.specs.declared.by_place.Written.TheVariants.{Image}
use Rattle.pdl_engine.proofs.ForesightLemmas.{foretold, places_now, root_small}
use Rattle.pdl_engine.proofs.ForesightImages.{image_tells, root_places}
use Rattle.pdl_engine.proofs.foreseeing.foretell.Goals as goal

pub base_of-base-requires-clause-live : goal.base_of-base-requires-clause-live
base_of-base-requires-clause-live c = c.row_laws.ensures.seen.base_live c.args.table.now c.node-node.result.now.base c.args.target c.requires.order.still c.requires.target (sym (ap (λ (r : Row). r.base) c.node-node.ensures))

pub written_by-requires-clause-count : goal.written_by-requires-clause-count
written_by-requires-clause-count c = c.requires.count ∙ ap (λ (t : Triple). size_of t.dims) (sym (c.triple.ensures ∙ ap (λ (r : Row). r.triple) c.node-node.ensures))

pub returns-then-root-target : goal.returns-then-root-target
returns-then-root-target c =
    let rs = c.args.table.now in
    let v : ℕ = c.args.target in
    let root : c.root-root.result ≡ (row_at rs v).root = c.root-root.ensures ∙ ap (λ (r : Row). r.root) c.node-node.ensures in
    let is : IsRoot rs v = (c.requires.target, sym root ∙ c.if-root-target.true) in
    let n : ℕ = size_of (row_at rs (row_at rs v).root).triple.dims in
    foretold c.row_laws.ensures rs v c.args.values.now (record { root = c.root-root.result; written = Image c.in_ok-from_slice.field-0 }) (places_seen rs v) c.requires.order c.requires.target
    root refl
    (image_tells n c.in_ok-from_slice.field-0 (places_seen rs v) c.args.values.now (root_elements (world_of rs) (row_at rs v).root)
    (root_places c.row_laws.ensures rs v c.requires.order.still is ∙ ap (λ (r : ℕ). in_order (size_of (row_at rs r).triple.dims)) (sym is.1))
    c.in_ok-from_slice.ensures.items
    (c.requires.count ∙ ap (λ (r : ℕ). size_of (row_at rs r).triple.dims) (sym is.1))
    (omega (arith, root_small c.row_laws.ensures rs v c.requires.order c.requires.target)))

pub returns : goal.returns
returns c =
    foretold c.row_laws.ensures c.args.table.now c.args.target c.args.values.now (record { root = c.root-root.result; written = c.in_ok-written.written }) (placed_by c.places.result.now c.triple.result.now) c.requires.order c.requires.target
    (c.root-root.ensures ∙ ap (λ (r : Row). r.root) c.node-node.ensures)
    (places_now c.row_laws.ensures c.args.table.now c.args.target c.node-node.result.now c.base_of-base.result.now c.places.result.now c.triple.result.now c.requires.order c.requires.known c.requires.target c.requires.fresh c.node-node.ensures c.base_of-base.ensures c.places.ensures c.triple.ensures)
    c.in_ok-written.ensures
