use Rattle.std.proofs.Common.{sym, ◌∙◌, ap}
use Rattle.pdl_nodes.specs.Renewed.{rooted_in}
use Rattle.pdl_nodes.specs.Row.{Row, parent_of}
use Rattle.pdl_nodes.specs.Table.{rows_of}
use Rattle.pdl_nodes.proofs.table.Table.become_root.Goals as goal
use Rattle.pdl_nodes.proofs.TableCalls.{has_key, node_is, changed_one, table_falls}
use Rattle.pdl_nodes.proofs.ChildrenCounted.{counted_rooted, counted_same, parent_noted}
use Rattle.pdl_nodes.proofs.RenewedLoop.{rooted_here, rooted_others}
use Rattle.pdl_nodes.proofs.MarkedMoved.{listed_rooted}
use Rattle.pdl_nodes.proofs.MarkedListing.{one_listed}

pub index-key-requires : goal.index-key-requires
index-key-requires c = has_key c.args.self.now c.self.inside.keys c.self.inside.nodes c.args.id c.self.view_is c.self.invariant.0.0 c.requires.live

pub become_root-requires : goal.become_root-requires
become_root-requires c = record { same_type = c.requires.same_type ∙ ap (λ (r : Row). r.ty) (sym (node_is c.args.self.now c.self.inside.keys c.self.inside.nodes c.args.id c.index-key.result.now c.index_mut.result.now c.self.view_is c.self.invariant.0.0 c.index-key.ensures c.index_mut.ensures.value)) }

pub returns : goal.returns
returns c = changed_one (rooted_in c.args.id c.args.dims.now c.args.kept.elems) c.args.self.now c.self.inside.keys c.self.inside.nodes c.args.id c.index-key.result.now c.index_mut.result.now c.become_root.new.self c.self.view_is c.self.invariant.0.0 c.index-key.ensures c.index_mut.ensures.value (c.become_root.ensures ∙ rooted_here c.args.id c.args.dims.now c.args.kept.elems c.index_mut.result.now) (rooted_others c.args.id c.args.dims.now c.args.kept.elems)

pub invariant_of-self : goal.invariant_of-self
invariant_of-self c =
    let e = changed_one (rooted_in c.args.id c.args.dims.now c.args.kept.elems) c.args.self.now c.self.inside.keys c.self.inside.nodes c.args.id c.index-key.result.now c.index_mut.result.now c.become_root.new.self c.self.view_is c.self.invariant.0.0 c.index-key.ensures c.index_mut.ensures.value (c.become_root.ensures ∙ rooted_here c.args.id c.args.dims.now c.args.kept.elems c.index_mut.result.now) (rooted_others c.args.id c.args.dims.now c.args.kept.elems) in (
      one_listed (rooted_in c.args.id c.args.dims.now c.args.kept.elems) c.args.self.now c.self.inside.keys c.self.inside.nodes c.self.inside.marked c.args.id c.index-key.result.now c.become_root.new.self c.self.view_is c.self.invariant.0 c.index-key.ensures
          e
          (listed_rooted c.args.id c.args.dims.now c.args.kept.elems c.args.self.now c.self.inside.marked),
      counted_rooted c.args.self.now _ c.args.id c.args.dims.now c.args.kept.elems c.self.inside.children c.take.new.self c.parent-parent.result e (table_falls c.args.self.now c.self.inside.keys c.self.inside.nodes c.self.view_is c.self.invariant.0.0) c.requires.live
          (c.parent-parent.ensures ∙ ap parent_of (node_is c.args.self.now c.self.inside.keys c.self.inside.nodes c.args.id c.index-key.result.now c.index-node.result.now c.self.view_is c.self.invariant.0.0 c.index-key.ensures c.index-node.ensures)) c.take.ensures (counted_same (rows_of c.self.inside.nodes c.self.inside.keys) c.args.self.now c.self.inside.children c.self.view_is c.self.invariant.1),
    )

pub take-requires : goal.take-requires
take-requires c = record {
  noted = λ v. parent_noted c.args.self.now c.args.id v c.self.inside.children c.parent-parent.result c.requires.live (c.parent-parent.ensures ∙ ap parent_of (node_is c.args.self.now c.self.inside.keys c.self.inside.nodes c.args.id c.index-key.result.now c.index-node.result.now c.self.view_is c.self.invariant.0.0 c.index-key.ensures c.index-node.ensures))
      (counted_same (rows_of c.self.inside.nodes c.self.inside.keys) c.args.self.now c.self.inside.children c.self.view_is c.self.invariant.1);
}
