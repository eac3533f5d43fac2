use Rattle.std.proofs.Common.{◌≡◌, Some, None, is_some, refl, sym, ◌∙◌, ap}
use Rattle.pdl_nodes.specs.Joined.{shown_row}
use Rattle.pdl_nodes.specs.Renewed.{layout_at, renewed_in, with_layout}
use Rattle.pdl_nodes.specs.Row.{Row, parent_of, shown_of}
use Rattle.pdl_nodes.specs.Rows.{row_at}
use Rattle.pdl_nodes.specs.Table.{rows_of}
use Rattle.pdl_nodes.proofs.TableCalls.{has_key, node_is, changed_one, table_falls}
use Rattle.pdl_nodes.proofs.ChildrenCounted.{counted_each, renewed_parent}
use Rattle.pdl_nodes.proofs.MarkedListing.{one_listed}
use Rattle.pdl_nodes.proofs.MarkedMoved.{listed_renewed}
use Rattle.pdl_nodes.proofs.RenewedLoop.{derives_live, derives_laid, none_renewed, renewed_by, renewed_others, same_shown}
use Rattle.pdl_nodes.proofs.table.Table.renew_one.Goals as goal

pub returns-in_default-clause-rows : goal.returns-in_default-clause-rows
returns-in_default-clause-rows c = none_renewed c.args.layouts.now c.args.new c.args.self.now c.args.id (table_falls c.args.self.now c.self.inside.keys c.self.inside.nodes c.self.view_is c.self.invariant.0.0) (λ p e. (let h = c.in_default.ensures in let z : None ≡ Some p = h ∙ ap parent_of c.node.ensures ∙ e in absurd (cc)))

pub node-above-requires : goal.node-above-requires
node-above-requires c = record { live = derives_live c.args.layouts.now c.args.self.now c.args.new c.args.id c.in-Some.parent c.requires.can (ap parent_of (sym c.node.ensures) ∙ sym c.in-Some.ensures) }

pub returns-then-root-new-clause-rows : goal.returns-then-root-new-clause-rows
returns-then-root-new-clause-rows c = none_renewed c.args.layouts.now c.args.new c.args.self.now c.args.id (table_falls c.args.self.now c.self.inside.keys c.self.inside.nodes c.self.view_is c.self.invariant.0.0)
    (λ p e g. (let z : Some c.in-Some.parent ≡ Some p = c.in-Some.ensures ∙ ap parent_of c.node.ensures ∙ e in
    let w : c.in-Some.parent ≡ p = cc in
    c.if-root-new.true (c.root.ensures ∙ ap (λ (r : Row). r.root) c.node-above.ensures ∙ ap (λ q. (row_at c.args.self.now q).root) w ∙ g)))

pub index-key-requires : goal.index-key-requires
index-key-requires c = has_key c.args.self.now c.self.inside.keys c.self.inside.nodes c.args.id c.self.view_is c.self.invariant.0.0 c.requires.live

pub renew-requires-clause-view : goal.renew-requires-clause-view
renew-requires-clause-view c =
    let here = node_is c.args.self.now c.self.inside.keys c.self.inside.nodes c.args.id c.index-key.result.now c.index_mut.result.now c.self.view_is c.self.invariant.0.0 c.index-key.ensures c.index_mut.ensures.value in
    let parent : parent_of (row_at c.args.self.now c.args.id) ≡ Some c.in-Some.parent = ap parent_of (sym c.node.ensures) ∙ sym c.in-Some.ensures in
    ap (λ (r : Row). is_some (parent_of r)) here ∙ ap is_some parent

pub renew-requires-clause-laid : goal.renew-requires-clause-laid
renew-requires-clause-laid c =
    let here = node_is c.args.self.now c.self.inside.keys c.self.inside.nodes c.args.id c.index-key.result.now c.index_mut.result.now c.self.view_is c.self.invariant.0.0 c.index-key.ensures c.index_mut.ensures.value in
    let parent : parent_of (row_at c.args.self.now c.args.id) ≡ Some c.in-Some.parent = ap parent_of (sym c.node.ensures) ∙ sym c.in-Some.ensures in
    let root : (row_at c.args.self.now c.in-Some.parent).root ≡ c.args.new = ap (λ (r : Row). r.root) (sym c.node-above.ensures) ∙ sym c.root.ensures ∙ c.if-root-new.false in
    derives_laid c.args.layouts.now c.args.self.now c.args.new c.args.id c.in-Some.parent c.index_mut.result.now c.take.result c.shown-above.result c.requires.can parent root here c.take.ensures.taken (c.shown-above.ensures ∙ ap (shown_of c.in-Some.parent) c.node-above.ensures)

pub returns-clause-rows : goal.returns-clause-rows
returns-clause-rows c =
    let here = node_is c.args.self.now c.self.inside.keys c.self.inside.nodes c.args.id c.index-key.result.now c.index_mut.result.now c.self.view_is c.self.invariant.0.0 c.index-key.ensures c.index_mut.ensures.value in
    let parent : parent_of (row_at c.args.self.now c.args.id) ≡ Some c.in-Some.parent = ap parent_of (sym c.node.ensures) ∙ sym c.in-Some.ensures in
    let root : (row_at c.args.self.now c.in-Some.parent).root ≡ c.args.new = ap (λ (r : Row). r.root) (sym c.node-above.ensures) ∙ sym c.root.ensures ∙ c.if-root-new.false in
    let made : c.renew.new.self ≡ shown_row c.args.id (with_layout c.index_mut.result.now.origin (layout_at c.args.layouts.now c.args.id)) (row_at c.args.self.now c.in-Some.parent).ty (shown_of c.in-Some.parent (row_at c.args.self.now c.in-Some.parent)) =
    c.renew.ensures ∙ same_shown c.args.id c.index_mut.result.now.origin c.take.result (layout_at c.args.layouts.now c.args.id) c.ty-ty.result (row_at c.args.self.now c.in-Some.parent).ty c.shown-above.result (shown_of c.in-Some.parent (row_at c.args.self.now c.in-Some.parent)) c.take.ensures.taken (c.ty-ty.ensures ∙ ap (λ (r : Row). r.ty) c.node-above.ensures) (c.shown-above.ensures ∙ ap (shown_of c.in-Some.parent) c.node-above.ensures) in
    changed_one (renewed_in c.args.layouts.now c.args.new c.args.self.now c.args.id) c.args.self.now c.self.inside.keys c.self.inside.nodes c.args.id c.index-key.result.now c.index_mut.result.now c.renew.new.self c.self.view_is c.self.invariant.0.0 c.index-key.ensures c.index_mut.ensures.value
    (renewed_by c.args.layouts.now c.args.new c.args.self.now c.args.id c.index_mut.result.now c.renew.new.self c.in-Some.parent (row_at c.args.self.now c.in-Some.parent) here parent refl root made)
    (λ v r n. renewed_others c.args.layouts.now c.args.new c.args.self.now c.args.id v r n)

pub invariant_of-self : goal.invariant_of-self
invariant_of-self c =
    let e = returns-clause-rows c in (
      one_listed (renewed_in c.args.layouts.now c.args.new c.args.self.now c.args.id) c.args.self.now c.self.inside.keys c.self.inside.nodes c.self.inside.marked c.args.id c.index-key.result.now c.renew.new.self c.self.view_is c.self.invariant.0 c.index-key.ensures
          e
          (listed_renewed c.args.layouts.now c.args.new c.args.self.now c.args.id c.args.self.now c.self.inside.marked),
      counted_each (renewed_in c.args.layouts.now c.args.new c.args.self.now c.args.id) c.args.self.now (rows_of c.self.inside.nodes c.self.inside.keys) _ c.self.inside.children c.self.view_is e (renewed_parent c.args.layouts.now c.args.new c.args.self.now c.args.id) c.self.invariant.1,
    )
