use Rattle.std.proofs.Common.{◌≡◌, length, refl, sym, ◌∙◌, ap, subst}
use Rattle.pdl_elem.specs.declared.Ty.{Ty}
use Rattle.pdl_shape.specs.Triple.{Reaches}
use Rattle.pdl_numbers.specs.Updates.{Suits}
use Rattle.pdl_nodes.specs.Put.{put_in}
use Rattle.pdl_nodes.specs.Row.{Row, is_buffered}
use Rattle.pdl_nodes.specs.Rows.{row_at}
use Rattle.pdl_nodes.specs.Table.{rows_of}
use Rattle.pdl_nodes.specs.Updates.{updated_at}
use Rattle.pdl_nodes.specs.declared.node.Goal.TheVariants.{Root}
use Rattle.pdl_nodes.specs.declared.node.Shown.{Shown}
use Rattle.pdl_nodes.proofs.TableCalls.{has_key, node_is}
use Rattle.pdl_nodes.proofs.ChildrenCounted.{counted_each}
use Rattle.pdl_nodes.proofs.MarkedListing.{one_kept}
use Rattle.pdl_nodes.proofs.RowOrigins.{root_buffered}
use Rattle.pdl_nodes.proofs.RowsSeen.{is_seen}
use Rattle.pdl_nodes.proofs.UpdateLemmas.{once_at, root_at, root_reaches, update_rows, update_writes}
use Rattle.pdl_nodes.proofs.table.Table.update.Goals as goal

pub index-key-requires : goal.index-key-requires
index-key-requires g c = has_key c.args.self.now c.self.inside.keys c.self.inside.nodes c.args.at.now.root c.self.view_is c.self.invariant.0.0 (root_at c.args.self.now c.args.at.now c.requires.update.order c.requires.update.live c.requires.shown).0

pub update-requires-clause-buffered : goal.update-requires-clause-buffered
update-requires-clause-buffered g c =
    let i = root_at c.args.self.now c.args.at.now c.requires.update.order c.requires.update.live c.requires.shown in
    ap is_buffered (node_is c.args.self.now c.self.inside.keys c.self.inside.nodes c.args.at.now.root c.index-key.result.now c.index_mut.result.now c.self.view_is c.self.invariant.0.0 c.index-key.ensures c.index_mut.ensures.value) ∙ root_buffered c.args.self.now c.requires.update.order.still c.args.at.now.root i.0 i.1

pub update-requires-clause-suits : goal.update-requires-clause-suits
update-requires-clause-suits g c =
    let row = node_is c.args.self.now c.self.inside.keys c.self.inside.nodes c.args.at.now.root c.index-key.result.now c.index_mut.result.now c.self.view_is c.self.invariant.0.0 c.index-key.ensures c.index_mut.ensures.value in
    let ty : (row_at c.args.self.now c.args.at.now.id).ty ≡ c.index_mut.result.now.ty =
    sym (is_seen c.args.self.now c.requires.update.order.still c.args.at.now.id c.requires.update.live).root_ty
    ∙ ap (λ (x : Shown). (row_at c.args.self.now x.root).ty) (sym c.requires.shown) ∙ ap (λ (r : Row). r.ty) (sym row) in
    subst (λ (y : Ty). Suits y c.args.change) ty c.requires.update.suits

pub update-requires-clause-once : goal.update-requires-clause-once
update-requires-clause-once g c = once_at c.repeat_laws.ensures.repeated c.args.change c.args.self.now c.args.at.now c.requires.update c.requires.shown c.requires.over_root

pub update-requires-clause-reaches : goal.update-requires-clause-reaches
update-requires-clause-reaches g c =
    let row = node_is c.args.self.now c.self.inside.keys c.self.inside.nodes c.args.at.now.root c.index-key.result.now c.index_mut.result.now c.self.view_is c.self.invariant.0.0 c.index-key.ensures c.index_mut.ensures.value in
    subst (λ (r : Row). Reaches c.args.at.now.triple (length r.kept)) (sym row) (root_reaches c.shape_laws.ensures.positions c.args.self.now c.args.at.now c.requires.update.order c.requires.update.live c.requires.shown c.requires.over_root)

pub returns-clause-write : goal.returns-clause-write
returns-clause-write g c = update_writes c.wrapping_laws.ensures c.args.change c.args.self.now c.args.at.now.id c.requires.update

pub returns-clause-put : goal.returns-clause-put
returns-clause-put g c =
    let row = node_is c.args.self.now c.self.inside.keys c.self.inside.nodes c.args.at.now.root c.index-key.result.now c.index_mut.result.now c.self.view_is c.self.invariant.0.0 c.index-key.ensures c.index_mut.ensures.value in
    update_rows c.args.change c.args.self.now c.self.inside.keys c.self.inside.nodes c.args.at.now c.index-key.result.now c.index_mut.result.now c.update.new.self c.requires.update c.requires.shown c.requires.over_root c.self.view_is c.self.invariant.0.0 c.index-key.ensures c.index_mut.ensures.value row c.update.ensures.value

pub invariant_of-self : goal.invariant_of-self
invariant_of-self g c =
    let f = put_in Root c.args.self.now c.args.at.now.id 0 (updated_at c.args.change c.args.self.now c.args.at.now.id) in
    let e = returns-clause-put g c in
    let kept = one_kept f c.args.self.now c.self.inside.keys c.self.inside.nodes c.self.inside.marked c.args.at.now.root c.index-key.result.now c.update.new.self c.self.view_is c.self.invariant.0 c.index-key.ensures e (record { marks = λ v r h. h; roots = λ v r. refl }) in
    ((kept.0, kept.1), counted_each f c.args.self.now (rows_of c.self.inside.nodes c.self.inside.keys) _ c.self.inside.children c.self.view_is e (λ k r. refl) c.self.invariant.1)
