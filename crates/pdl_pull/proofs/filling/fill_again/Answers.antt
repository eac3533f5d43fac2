use Rattle.std.proofs.Common.{◌≡◌, ℕ, List, length, Option, None, ◌∙◌, sym, ap, arith}
use Rattle.std.proofs.lemmas.Result.{on_ok_weaker}
use Rattle.pdl_shape.specs.Places.{read}
use Rattle.pdl_shape.specs.Shape.{size_of}
use Rattle.pdl_numbers.specs.Typed.{TypedElements}
use Rattle.pdl_nodes.specs.Families.{has_repeats}
use Rattle.pdl_nodes.specs.Row.{Row}
use Rattle.pdl_nodes.specs.Rows.{row_at}
use Rattle.pdl_nodes.specs.Worlds.{places_seen}
use Rattle.pdl_pull.proofs.FilledViews.{is_filled}
use Rattle.pdl_pull.proofs.FilledElsewhere.{filled_only}
use Rattle.pdl_pull.proofs.filling.fill_again.Goals as goal

pub returns-clause-counted : goal.returns-clause-counted
returns-clause-counted g c =
    let n : length c.as_slice.result.now ≡ size_of (row_at c.args.table.now c.args.id).triple.dims = (ap (λ (ps : List (Option ℕ)). length ps) (c.as_slice.ensures ∙ (c.requires.known c.args.id c.requires.outdated.live).places c.in-Some.places (sym (c.places.ensures ∙ ap (λ (r : Row). r.places) c.node-node.ensures) ∙ c.in-Some.is)) ∙ (c.row_laws.ensures.seen.is_seen c.args.table.now c.requires.outdated.order.still c.args.id c.requires.outdated.live).count) in
    omega (arith, n, c.in_ok-kept-in-Some.ensures.counted)

pub returns-clause-ok : goal.returns-clause-ok
returns-clause-ok g c =
    let p : c.as_slice.result.now ≡ places_seen c.args.table.now c.args.id = (c.as_slice.ensures ∙ (c.requires.known c.args.id c.requires.outdated.live).places c.in-Some.places (sym (c.places.ensures ∙ ap (λ (r : Row). r.places) c.node-node.ensures) ∙ c.in-Some.is)) in
    let k : c.kept.result.now.elems ≡ (row_at c.args.table.now (row_at c.args.table.now c.args.id).root).kept = (ap (λ (k : TypedElements). k.elems) c.kept.ensures ∙ ap (λ (r : Row). r.kept) c.node-root.ensures ∙ ap (λ x. (row_at c.args.table.now x).kept) (c.root.ensures ∙ ap (λ (r : Row). r.root) c.node-node.ensures)) in
    on_ok_weaker c.fill.result (λ e. is_filled c.row_laws.ensures c.args.table.now c.fill.new.self (row_at c.args.table.now c.args.id).root c.args.id c.in_ok-kept-in-Some.kept.elems c.repeats-repeats.result None c.requires.outdated c.requires.known
    (ap (λ (x : TypedElements). x.elems) c.in_ok-kept-in-Some.ensures.ok ∙ ap (λ (ps : List (Option ℕ)). read ps c.kept.result.now.elems) p ∙ ap (read (places_seen c.args.table.now c.args.id)) k)
    (c.repeats-repeats.ensures ∙ ap (λ (r : Row). r.repeats) c.node-node.ensures ∙ (c.requires.known c.args.id c.requires.outdated.live).repeats c.in-Some.places (sym (c.places.ensures ∙ ap (λ (r : Row). r.places) c.node-node.ensures) ∙ c.in-Some.is) ∙ ap has_repeats ((c.requires.known c.args.id c.requires.outdated.live).places c.in-Some.places (sym (c.places.ensures ∙ ap (λ (r : Row). r.places) c.node-node.ensures) ∙ c.in-Some.is)))
    (record { some = c.requires.found; is = (c.requires.known c.args.id c.requires.outdated.live).places })
    e) c.fill.ensures.ok

pub fill-requires-clause-same_type : goal.fill-requires-clause-same_type
fill-requires-clause-same_type g c =
    ap (λ (k : TypedElements). k.ty) c.in_ok-kept-in-Some.ensures.ok ∙ ap (λ (k : TypedElements). k.ty) c.kept.ensures ∙ ap (λ (r : Row). r.ty) c.node-root.ensures ∙ ap (λ x. (row_at c.args.table.now x).ty) (c.root.ensures ∙ ap (λ (r : Row). r.root) c.node-node.ensures)
    ∙ (c.row_laws.ensures.seen.is_seen c.args.table.now c.requires.outdated.order.still c.args.id c.requires.outdated.live).root_ty

pub returns-clause-only : goal.returns-clause-only
returns-clause-only g c = filled_only c.fill.result c.args.table.now c.fill.new.self (row_at c.args.table.now c.args.id).root c.args.id c.in_ok-kept-in-Some.kept.elems c.repeats-repeats.result None c.requires.outdated c.fill.ensures.ok c.fill.ensures.err
