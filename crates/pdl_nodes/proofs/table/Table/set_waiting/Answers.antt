use Rattle.std.proofs.Common.{◌∙◌, refl}
use Rattle.pdl_nodes.specs.Changes.{wait_in}
use Rattle.pdl_nodes.specs.Table.{rows_of}
use Rattle.pdl_nodes.proofs.table.Table.set_waiting.Goals as goal
use Rattle.pdl_nodes.proofs.TableCalls.{has_key, changed_one}
use Rattle.pdl_nodes.proofs.ChildrenCounted.{counted_each}
use Rattle.pdl_nodes.proofs.MarkedListing.{one_kept}
use Rattle.pdl_nodes.proofs.ChangesMarks.{wait_here, wait_others}

pub index-key-requires : goal.index-key-requires
index-key-requires c = has_key c.args.self.now c.self.inside.keys c.self.inside.nodes c.args.id c.self.view_is c.self.invariant.0.0 c.requires.live

pub returns : goal.returns
returns c = changed_one (wait_in c.args.id c.args.waiting) c.args.self.now c.self.inside.keys c.self.inside.nodes c.args.id c.index-key.result.now c.index_mut.result.now c.set_waiting.new.self c.self.view_is c.self.invariant.0.0 c.index-key.ensures c.index_mut.ensures.value (c.set_waiting.ensures ∙ wait_here c.args.id c.args.waiting c.index_mut.result.now) (wait_others c.args.id c.args.waiting)

pub invariant_of-self : goal.invariant_of-self
invariant_of-self c =
    let e = changed_one (wait_in c.args.id c.args.waiting) c.args.self.now c.self.inside.keys c.self.inside.nodes c.args.id c.index-key.result.now c.index_mut.result.now c.set_waiting.new.self c.self.view_is c.self.invariant.0.0 c.index-key.ensures c.index_mut.ensures.value (c.set_waiting.ensures ∙ wait_here c.args.id c.args.waiting c.index_mut.result.now) (wait_others c.args.id c.args.waiting) in (
      one_kept (wait_in c.args.id c.args.waiting) c.args.self.now c.self.inside.keys c.self.inside.nodes c.self.inside.marked c.args.id c.index-key.result.now c.set_waiting.new.self c.self.view_is c.self.invariant.0 c.index-key.ensures e (record { marks = λ v r h. h; roots = λ v r. refl }),
      counted_each (wait_in c.args.id c.args.waiting) c.args.self.now (rows_of c.self.inside.nodes c.self.inside.keys) _ c.self.inside.children c.self.view_is e (λ k r. refl) c.self.invariant.1,
    )
