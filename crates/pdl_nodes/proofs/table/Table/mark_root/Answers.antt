use Rattle.std.proofs.Common.{refl, ◌≡◌, sym, ◌∙◌, ap, subst}
use Rattle.pdl_nodes.specs.Row.{is_buffered}
use Rattle.slab.specs.Slab.{with_value}
use Rattle.pdl_nodes.specs.Rows.{Rows, each}
use Rattle.pdl_nodes.specs.Marked.{AreListed}
use Rattle.pdl_nodes.specs.Table.{rows_of}
use Rattle.pdl_nodes.specs.Changes.{marked_in}
use Rattle.pdl_nodes.proofs.table.Table.mark_root.Goals as goal
use Rattle.pdl_nodes.proofs.TableCalls.{has_key, node_is, changed_one}
use Rattle.pdl_nodes.proofs.ChildrenCounted.{counted_each}
use Rattle.pdl_nodes.proofs.MarkedListing.{table_one, listed_root}
use Rattle.pdl_nodes.proofs.ChangesMarks.{marked_here, marked_others}

pub index-key-requires : goal.index-key-requires
index-key-requires c = has_key c.args.self.now c.self.inside.keys c.self.inside.nodes c.args.id c.self.view_is c.self.invariant.0.0 c.requires.live

pub set_mark-requires : goal.set_mark-requires
set_mark-requires c = ap is_buffered (node_is c.args.self.now c.self.inside.keys c.self.inside.nodes c.args.id c.index-key.result.now c.index_mut.result.now c.self.view_is c.self.invariant.0.0 c.index-key.ensures c.index_mut.ensures.value) ∙ c.requires.buffered

pub returns : goal.returns
returns c = changed_one (marked_in c.args.id) c.args.self.now c.self.inside.keys c.self.inside.nodes c.args.id c.index-key.result.now c.index_mut.result.now c.set_mark.new.self c.self.view_is c.self.invariant.0.0 c.index-key.ensures c.index_mut.ensures.value (c.set_mark.ensures ∙ marked_here c.args.id c.index_mut.result.now) (marked_others c.args.id)

pub invariant_of-self : goal.invariant_of-self
invariant_of-self c =
    let e : rows_of (with_value c.self.inside.nodes c.index-key.result.now c.set_mark.new.self) c.self.inside.keys ≡ each (marked_in c.args.id) c.args.self.now = changed_one (marked_in c.args.id) c.args.self.now c.self.inside.keys c.self.inside.nodes c.args.id c.index-key.result.now c.index_mut.result.now c.set_mark.new.self c.self.view_is c.self.invariant.0.0 c.index-key.ensures c.index_mut.ensures.value (c.set_mark.ensures ∙ marked_here c.args.id c.index_mut.result.now) (marked_others c.args.id) in (
      (
        table_one c.self.inside.keys c.self.inside.nodes c.args.id c.index-key.result.now c.set_mark.new.self c.self.invariant.0.0 c.index-key.ensures,
        subst (λ (t : Rows). AreListed t c.self.inside.marked) (sym e) (listed_root c.args.self.now c.self.inside.marked c.args.id c.requires.root (subst (λ (t : Rows). AreListed t c.self.inside.marked) c.self.view_is c.self.invariant.0.1)),
      ),
      counted_each (marked_in c.args.id) c.args.self.now (rows_of c.self.inside.nodes c.self.inside.keys) _ c.self.inside.children c.self.view_is e (λ k r. refl) c.self.invariant.1,
    )
