use Rattle.std.proofs.Common.{refl, ◌∙◌, ap}
use Rattle.pdl_nodes.specs.Row.{is_buffered}
use Rattle.pdl_nodes.specs.Rows.{Rows, each, has, row_at}
use Rattle.pdl_nodes.specs.Changes.{mark_in}
use Rattle.pdl_nodes.specs.Table.{rows_of}
use Rattle.pdl_nodes.proofs.table.Table.mark.Goals as goal
use Rattle.pdl_nodes.proofs.TableCalls.{has_key}
use Rattle.pdl_nodes.proofs.ChildrenCounted.{counted_each}

pub index-key-requires : goal.index-key-requires
index-key-requires c = has_key c.args.self.now c.self.inside.keys c.self.inside.nodes c.args.base c.self.view_is c.self.invariant.0.0 c.requires.live

pub mark_at-requires : goal.mark_at-requires
mark_at-requires c = record {
  table = c.self.invariant.0.0;
  listed = c.self.invariant.0.1;
  key = c.index-key.ensures;
  root = ap (λ (t : Rows). has t c.args.root) c.self.view_is ∙ c.requires.root;
  live = ap (λ (t : Rows). has t c.args.base) c.self.view_is ∙ c.requires.live;
  family = ap (λ (t : Rows). (row_at t c.args.base).root) c.self.view_is ∙ c.requires.family;
  buffered = ap (λ (t : Rows). is_buffered (row_at t c.args.base)) c.self.view_is ∙ c.requires.buffered;
  was_marked = λ n. ap (λ (t : Rows). (row_at t c.args.base).mark) c.self.view_is ∙ c.requires.marked n;
}

pub returns : goal.returns
returns c = c.mark_at.ensures.rows ∙ ap (each (mark_in c.args.root c.args.base)) c.self.view_is

pub invariant_of-self : goal.invariant_of-self
invariant_of-self c = (
  (c.mark_at.ensures.table, c.mark_at.ensures.listed),
  counted_each (mark_in c.args.root c.args.base) c.args.self.now (rows_of c.self.inside.nodes c.self.inside.keys) _ c.self.inside.children c.self.view_is (c.mark_at.ensures.rows ∙ ap (each (mark_in c.args.root c.args.base)) c.self.view_is) (λ k r. refl) c.self.invariant.1,
)
