use Rattle.std.proofs.Common.{◌≡◌, ℕ, List, ℤ, length, arith, refl, sym, ◌∙◌, ap}
use Rattle.pdl_shape.specs.Shape.{size_of}
use Rattle.pdl_shape.specs.Triple.{Triple}
use Rattle.pdl_world.specs.World.{elements, root_elements}
use Rattle.pdl_nodes.specs.Row.{Row}
use Rattle.pdl_nodes.specs.Rows.{row_at}
use Rattle.pdl_nodes.specs.Worlds.{world_of}
use Rattle.pdl_engine.proofs.ForesightLemmas.{root_shown, root_small, tells_nothing}
use Rattle.pdl_engine.proofs.ForesightImages.{image_unwritten}
use Rattle.pdl_engine.proofs.foreseeing.unwritten.Goals as goal

pub node-requires : goal.node-requires
node-requires c = record { live = (c.row_laws.ensures.seen.root_live c.args.table.now c.root-root.result c.args.id c.requires.order.still c.requires.live (sym (c.root-root.ensures ∙ ap (λ (r : Row). r.root) c.node-node.ensures))).0 }

pub returns-then-base-root : goal.returns-then-base-root
returns-then-base-root c =
    let rs = c.args.table.now in
    let es : List ℤ = root_elements (world_of rs) (row_at rs c.args.id).root in
    let root : c.root-root.result ≡ (row_at rs c.args.id).root = c.root-root.ensures ∙ ap (λ (r : Row). r.root) c.node-node.ensures in
    let size : c.elements_of-size.result ≡ size_of (row_at rs (row_at rs c.args.id).root).triple.dims =
    c.elements_of-size.ensures.count ∙ ap (λ (t : Triple). size_of t.dims) (c.behind-node.view_is ∙ c.triple.ensures ∙ ap (λ (r : Row). r.triple) (c.node.ensures ∙ ap (λ (r : ℕ). row_at rs r) root)) in
    let small : length es ≡ size_of (row_at rs (row_at rs c.args.id).root).triple.dims = root_small c.row_laws.ensures rs c.args.id c.requires.order c.requires.live in record {
      room = λ p inside. c.in_ok-nothing.ensures.room p (omega (arith, inside, small, size));
      tells = tells_nothing es c.in_ok-nothing.nothing c.in_ok-nothing.ensures.nothing;
    }

pub returns : goal.returns
returns c =
    let rs = c.args.table.now in
    let root : c.root-root.result ≡ (row_at rs c.args.id).root = c.root-root.ensures ∙ ap (λ (r : Row). r.root) c.node-node.ensures in
    image_unwritten c.in_ok-image.image (root_elements (world_of rs) (row_at rs c.args.id).root)
    (c.in_ok-image.ensures.items ∙ ap (λ (r : ℕ). elements (world_of rs) r) root
    ∙ root_shown c.row_laws.ensures rs (row_at rs c.args.id).root c.requires.order (c.row_laws.ensures.seen.root_live rs (row_at rs c.args.id).root c.args.id c.requires.order.still c.requires.live refl))
