use Rattle.std.proofs.Common.{◌≡◌, ℕ, List, Option, length, sym, ◌∙◌, ap, arith}
use Rattle.pdl_elem.specs.declared.Ty.{Ty}
use Rattle.pdl_shape.specs.Places.{read}
use Rattle.pdl_shape.specs.Shape.{size_of}
use Rattle.pdl_numbers.specs.Typed.{TypedElements}
use Rattle.pdl_world.specs.World.{elements}
use Rattle.pdl_nodes.specs.Row.{Row, is_buffered}
use Rattle.pdl_nodes.specs.Rows.{Rows, row_at}
use Rattle.pdl_nodes.specs.Worlds.{IsRoot, places_seen, world_of}
use Rattle.pdl_engine.proofs.TypedResults.{bounded, made_of}
use Rattle.pdl_engine.proofs.gathering.read_root.Goals as goal

pub kept-requires : goal.kept-requires
kept-requires g c =
    let i : IsRoot c.args.table.now c.root.result = c.row_laws.ensures.seen.root_live c.args.table.now c.root.result c.args.id c.requires.order.still c.requires.live (sym (c.root.ensures ∙ ap (λ (r : Row). r.root) c.node-node.ensures)) in
    ap (λ (r : Row). is_buffered r) c.node-root.ensures ∙ c.row_laws.ensures.seen.root_buffered c.args.table.now c.requires.order.still c.root.result i.0 i.1

pub returns-clause-value : goal.returns-clause-value
returns-clause-value g c =
    let t : Rows = c.args.table.now in
    let v : ℕ = c.args.id in
    let r : ℕ = (row_at t v).root in
    let root : c.root.result ≡ r = c.root.ensures ∙ ap (λ (x : Row). x.root) c.node-node.ensures in
    let kept : c.kept.result.now.elems ≡ (row_at t r).kept = ap (λ (k : TypedElements). k.elems) c.kept.ensures ∙ ap (λ (x : Row). x.kept) c.node-root.ensures ∙ ap (λ x. (row_at t x).kept) root in
    let ty : c.kept.result.now.ty ≡ (row_at t v).ty =
    ap (λ (k : TypedElements). k.ty) c.kept.ensures ∙ ap (λ (x : Row). x.ty) c.node-root.ensures ∙ ap (λ x. (row_at t x).ty) root ∙ (c.row_laws.ensures.seen.is_seen t c.requires.order.still v c.requires.live).root_ty in
    let elems : read c.args.places.now c.kept.result.now.elems ≡ elements (world_of t) v =
    ap (λ (ps : List (Option ℕ)). read ps c.kept.result.now.elems) c.requires.places ∙ ap (read (places_seen t v)) (kept ∙ sym (c.row_laws.ensures.seen.latest_none t r c.requires.settled))
    ∙ sym (c.row_laws.ensures.seen.elements_are t v c.requires.order.still c.requires.live) in
    made_of c.gathered.result c.kept.result.now.ty (row_at t v).ty (read c.args.places.now c.kept.result.now.elems) (elements (world_of t) v) ty elems c.gathered.ensures.ok

pub returns-clause-counted : goal.returns-clause-counted
returns-clause-counted g c =
    let t : Rows = c.args.table.now in
    let n : length c.args.places.now ≡ size_of (row_at t c.args.id).triple.dims = ap (λ (ps : List (Option ℕ)). length ps) c.requires.places ∙ (c.row_laws.ensures.seen.is_seen t c.requires.order.still c.args.id c.requires.live).count in
    omega (arith, n, bounded c.gathered.result c.gathered.new.steps c.args.steps.now (length c.args.places.now) c.gathered.ensures.counted c.gathered.ensures.err)
