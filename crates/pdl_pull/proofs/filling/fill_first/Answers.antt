use Rattle.std.proofs.Common.{◌≡◌, ℕ, List, length, Option, Some, refl, ◌∙◌, sym, ap, subst, arith}
use Rattle.std.proofs.lemmas.Result.{on_ok_weaker}
use Rattle.pdl_shape.specs.Places.{read, AllBelow}
use Rattle.pdl_shape.specs.Shape.{size_of}
use Rattle.pdl_shape.specs.Triple.{Triple}
use Rattle.pdl_numbers.specs.Typed.{TypedElements}
use Rattle.pdl_nodes.specs.Families.{has_repeats}
use Rattle.pdl_nodes.specs.Row.{Row}
use Rattle.pdl_nodes.specs.Rows.{row_at}
use Rattle.pdl_nodes.specs.Worlds.{places_seen}
use Rattle.pdl_pull.proofs.FilledViews.{is_filled}
use Rattle.pdl_pull.proofs.FilledElsewhere.{filled_only}
use Rattle.pdl_pull.proofs.filling.fill_first.Goals as goal

pub has_twice-requires : goal.has_twice-requires
has_twice-requires g c =
    let n : size_of (row_at c.args.table.now (row_at c.args.table.now c.args.id).root).triple.dims ≡ c.elements_of-count.result = sym (c.elements_of-count.ensures.count ∙ ap (λ (t : Triple). size_of t.dims) (c.behind-root.view_is ∙ c.triple.ensures ∙ ap (λ (r : Row). r.triple) c.node-root.ensures) ∙ ap (λ x. size_of (row_at c.args.table.now x).triple.dims) (c.root.ensures ∙ ap (λ (r : Row). r.root) c.node-node.ensures)) in
    subst (λ (ps : List (Option ℕ)). AllBelow c.elements_of-count.result ps) (sym (c.as_slice-listed.ensures ∙ c.in_ok-places.ensures)) (subst (λ (x : ℕ). AllBelow x (places_seen c.args.table.now c.args.id)) n (c.row_laws.ensures.seen.is_seen c.args.table.now c.requires.outdated.order.still c.args.id c.requires.outdated.live).within)

pub returns-clause-counted : goal.returns-clause-counted
returns-clause-counted g c =
    let n : length c.as_slice-listed.result.now ≡ size_of (row_at c.args.table.now c.args.id).triple.dims = (ap (λ (ps : List (Option ℕ)). length ps) (c.as_slice-listed.ensures ∙ c.in_ok-places.ensures) ∙ (c.row_laws.ensures.seen.is_seen c.args.table.now c.requires.outdated.order.still c.args.id c.requires.outdated.live).count) in
    omega (arith, n, c.in_ok-kept.ensures.counted)

pub returns-clause-ok : goal.returns-clause-ok
returns-clause-ok g c =
    let p : c.as_slice-listed.result.now ≡ places_seen c.args.table.now c.args.id = c.as_slice-listed.ensures ∙ c.in_ok-places.ensures in
    let k : c.kept.result.now.elems ≡ (row_at c.args.table.now (row_at c.args.table.now c.args.id).root).kept = (ap (λ (k : TypedElements). k.elems) c.kept.ensures ∙ ap (λ (r : Row). r.kept) c.node-root.ensures ∙ ap (λ x. (row_at c.args.table.now x).kept) (c.root.ensures ∙ ap (λ (r : Row). r.root) c.node-node.ensures)) in
    on_ok_weaker c.fill.result (λ e. is_filled c.row_laws.ensures c.args.table.now c.fill.new.self (row_at c.args.table.now c.args.id).root c.args.id c.in_ok-kept.kept.elems c.in_ok-repeats.repeats (Some c.in_ok-places.places) c.requires.outdated c.requires.known
    (ap (λ (x : TypedElements). x.elems) c.in_ok-kept.ensures.ok ∙ ap (λ (ps : List (Option ℕ)). read ps c.kept.result.now.elems) p ∙ ap (read (places_seen c.args.table.now c.args.id)) k)
    (c.in_ok-repeats.ensures ∙ ap has_repeats (c.as_slice-listed.ensures ∙ c.in_ok-places.ensures))
    (record { some = refl; is = λ ps e. some_is c.in_ok-places.places ps e ∙ c.in_ok-places.ensures })
    e) c.fill.ensures.ok where
      some_is : (a b : List (Option ℕ)) → Some a ≡ Some b → b ≡ a
      some_is a b e = cc

pub fill-requires-clause-same_type : goal.fill-requires-clause-same_type
fill-requires-clause-same_type g c =
    ap (λ (k : TypedElements). k.ty) c.in_ok-kept.ensures.ok ∙ ap (λ (k : TypedElements). k.ty) c.kept.ensures ∙ ap (λ (r : Row). r.ty) c.node-root.ensures ∙ ap (λ x. (row_at c.args.table.now x).ty) (c.root.ensures ∙ ap (λ (r : Row). r.root) c.node-node.ensures)
    ∙ (c.row_laws.ensures.seen.is_seen c.args.table.now c.requires.outdated.order.still c.args.id c.requires.outdated.live).root_ty

pub returns-clause-only : goal.returns-clause-only
returns-clause-only g c = filled_only c.fill.result c.args.table.now c.fill.new.self (row_at c.args.table.now c.args.id).root c.args.id c.in_ok-kept.kept.elems c.in_ok-repeats.repeats (Some c.in_ok-places.places) c.requires.outdated c.fill.ensures.ok c.fill.ensures.err
