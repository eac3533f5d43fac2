use Rattle.std.proofs.Common.{◌≡◌, ℕ, List, IfNone, true, false, Some, is_some, sym, ◌∙◌, ap, subst}
use Rattle.pdl_registry.specs.Numbered.{value_at}
use Rattle.pdl_nodes.specs.Marked.{AreListed}
use Rattle.pdl_nodes.specs.Row.{parent_of}
use Rattle.pdl_nodes.specs.Rows.{Rows, has, row_at}
use Rattle.pdl_nodes.specs.Children.{AreCounted}
use Rattle.pdl_nodes.specs.Table.{IsTable, rows_of}
use Rattle.pdl_nodes.proofs.table.Table.remove.Goals as goal
use Rattle.pdl_nodes.proofs.TableCalls.{node_is, gone, gone_table, is_there, seen, table_falls}
use Rattle.pdl_nodes.proofs.ChildrenCounted.{counted_gone, counted_same, parent_noted}
use Rattle.pdl_nodes.proofs.MarkedListing.{listed_gone}
use Rattle.pdl_nodes.proofs.RowRests.{without_none}
use Rattle.pdl_nodes.proofs.RowShapes.{past_at}

pub returns-in_default-clause-rows : goal.returns-in_default-clause-rows
returns-in_default-clause-rows c =
    let away : has c.args.self.now c.args.id ≡ false = (seen c.args.self.now c.self.inside.keys c.self.inside.nodes c.self.view_is c.self.invariant.0.0).none c.args.id (sym c.remove.ensures.taken ∙ c.in_default.is) in
    let same : c.remove.new.self ≡ c.self.inside.keys = subst (λ o. IfNone o (c.remove.new.self ≡ c.self.inside.keys)) c.in_default.is c.remove.ensures.absent in
    ap (rows_of c.self.inside.nodes) same ∙ c.self.view_is ∙ sym (without_none c.args.self.now c.args.id away)

pub invariant_of-self : goal.invariant_of-self
invariant_of-self c =
    let same : c.remove.new.self ≡ c.self.inside.keys = subst (λ o. IfNone o (c.remove.new.self ≡ c.self.inside.keys)) c.in_default.is c.remove.ensures.absent in
    subst (λ (ks : List (ℕ × ℕ)). (IsTable ks c.self.inside.nodes × AreListed (rows_of c.self.inside.nodes ks) c.self.inside.marked) × AreCounted (rows_of c.self.inside.nodes ks) c.self.inside.children) (sym same) c.self.invariant

pub returns-in_default-clause-parent : goal.returns-in_default-clause-parent
returns-in_default-clause-parent c =
    let away : has c.args.self.now c.args.id ≡ false = (seen c.args.self.now c.self.inside.keys c.self.inside.nodes c.self.view_is c.self.invariant.0.0).none c.args.id (sym c.remove.ensures.taken ∙ c.in_default.is) in
    sym (ap parent_of (past_at c.args.self.now c.args.id away))

pub take-requires : goal.take-requires
take-requires c =
    let here : value_at c.self.inside.keys c.args.id ≡ Some c.in-Some.key = sym c.remove.ensures.taken ∙ c.in-Some.is in
    let live : has c.args.self.now c.args.id ≡ true = sym (is_there c.args.self.now c.self.inside.keys c.self.inside.nodes c.args.id c.self.view_is c.self.invariant.0.0) ∙ ap is_some here in
    let p : c.parent-parent.result ≡ parent_of (row_at c.args.self.now c.args.id) = c.parent-parent.ensures ∙ ap parent_of (node_is c.args.self.now c.self.inside.keys c.self.inside.nodes c.args.id c.in-Some.key c.index-node.result.now c.self.view_is c.self.invariant.0.0 here c.index-node.ensures) in
    record {
      noted = λ v. parent_noted c.args.self.now c.args.id v c.self.inside.children c.parent-parent.result live p
          (counted_same (rows_of c.self.inside.nodes c.self.inside.keys) c.args.self.now c.self.inside.children c.self.view_is c.self.invariant.1);
    }

pub returns-clause-rows : goal.returns-clause-rows
returns-clause-rows c =
    let here : value_at c.self.inside.keys c.args.id ≡ Some c.in-Some.key = sym c.remove.ensures.taken ∙ c.in-Some.is in
    gone c.args.self.now c.self.inside.keys c.remove.new.self c.self.inside.nodes c.remove-2.new.self c.args.id c.in-Some.key c.self.view_is c.self.invariant.0.0 c.remove.ensures.rises here c.remove.ensures.put c.remove-2.ensures.updates

pub returns-clause-parent : goal.returns-clause-parent
returns-clause-parent c =
    let here : value_at c.self.inside.keys c.args.id ≡ Some c.in-Some.key = sym c.remove.ensures.taken ∙ c.in-Some.is in
    c.parent-parent.ensures ∙ ap parent_of (node_is c.args.self.now c.self.inside.keys c.self.inside.nodes c.args.id c.in-Some.key c.index-node.result.now c.self.view_is c.self.invariant.0.0 here c.index-node.ensures)

pub invariant_of-self-2 : goal.invariant_of-self-2
invariant_of-self-2 c =
    let here : value_at c.self.inside.keys c.args.id ≡ Some c.in-Some.key = sym c.remove.ensures.taken ∙ c.in-Some.is in
    let live : has c.args.self.now c.args.id ≡ true = sym (is_there c.args.self.now c.self.inside.keys c.self.inside.nodes c.args.id c.self.view_is c.self.invariant.0.0) ∙ ap is_some here in
    let p : c.parent-parent.result ≡ parent_of (row_at c.args.self.now c.args.id) = c.parent-parent.ensures ∙ ap parent_of (node_is c.args.self.now c.self.inside.keys c.self.inside.nodes c.args.id c.in-Some.key c.index-node.result.now c.self.view_is c.self.invariant.0.0 here c.index-node.ensures) in
    let e = gone c.args.self.now c.self.inside.keys c.remove.new.self c.self.inside.nodes c.remove-2.new.self c.args.id c.in-Some.key c.self.view_is c.self.invariant.0.0 c.remove.ensures.rises here c.remove.ensures.put c.remove-2.ensures.updates in (
      (
        gone_table c.self.inside.keys c.remove.new.self c.self.inside.nodes c.remove-2.new.self c.args.id c.in-Some.key c.self.invariant.0.0 c.remove.ensures.rises here c.remove.ensures.put c.remove-2.ensures.updates,
        subst (λ (t : Rows). AreListed t c.forget.new.self) (sym e) (listed_gone c.args.self.now c.self.inside.marked c.forget.new.self c.args.id c.forget.ensures.stay (subst (λ (t : Rows). AreListed t c.self.inside.marked) c.self.view_is c.self.invariant.0.1)),
      ),
      counted_gone c.args.self.now _ c.args.id c.self.inside.children c.take.new.self c.parent-parent.result e (table_falls c.args.self.now c.self.inside.keys c.self.inside.nodes c.self.view_is c.self.invariant.0.0) live p c.take.ensures
          (counted_same (rows_of c.self.inside.nodes c.self.inside.keys) c.args.self.now c.self.inside.children c.self.view_is c.self.invariant.1),
    )
