-- A root keeps other elements.
use Rattle.std.proofs.Common.{◌≡◌, ℕ, ℤ, List, Some, refl, sym, ◌∙◌, ap}
use Rattle.pdl_nodes.specs.Changes.{kept_in, mark_in}
use Rattle.pdl_nodes.specs.Row.{Row, is_buffered}
use Rattle.pdl_nodes.specs.Rows.{Rows, each, has, row_at}
use Rattle.pdl_nodes.specs.Table.{rows_of}
use Rattle.pdl_nodes.proofs.table.Table.replace.Goals as goal
use Rattle.pdl_nodes.proofs.TableCalls.{has_key, node_is, changed_one}
use Rattle.pdl_nodes.proofs.ChildrenCounted.{counted_each}
use Rattle.pdl_nodes.proofs.RowFinds.{each_has, each_at}
use Rattle.pdl_nodes.proofs.MarkedListing.{one_kept}
use Rattle.pdl_nodes.proofs.ChangesMarks.{kept_here, kept_others}
use Rattle.pdl_nodes.proofs.RowOrigins.{root_buffered}

pub index-key-requires : goal.index-key-requires
index-key-requires c = has_key c.args.self.now c.self.inside.keys c.self.inside.nodes c.args.id c.self.view_is c.self.invariant.0.0 c.requires.root.0

pub keep-requires : goal.keep-requires
keep-requires c = c.requires.same_type ∙ sym (ap (λ (r : Row). r.ty) (node_is c.args.self.now c.self.inside.keys c.self.inside.nodes c.args.id c.index-key.result.now c.index_mut.result.now c.self.view_is c.self.invariant.0.0 c.index-key.ensures c.index_mut.ensures.value))

pub mark_at-requires : goal.mark_at-requires
mark_at-requires c =
    let t : Rows = c.args.self.now in
    let id : ℕ = c.args.id in
    let f : ℕ → Row → Row = kept_in id c.args.kept.elems in
    let e = changed_one f t c.self.inside.keys c.self.inside.nodes id c.index-key.result.now c.index_mut.result.now c.keep.new.self c.self.view_is c.self.invariant.0.0 c.index-key.ensures c.index_mut.ensures.value (c.keep.ensures ∙ kept_here id c.args.kept.elems c.index_mut.result.now) (kept_others id c.args.kept.elems) in
    let kept = one_kept f t c.self.inside.keys c.self.inside.nodes c.self.inside.marked id c.index-key.result.now c.keep.new.self c.self.view_is c.self.invariant.0 c.index-key.ensures e (record { marks = λ v r h. h; roots = λ v r. refl }) in
    record {
      table = kept.0;
      listed = kept.1;
      key = c.index-key.ensures;
      root = ap (λ (x : Rows). has x id) e ∙ each_has f t id ∙ c.requires.root.0;
      live = ap (λ (x : Rows). has x id) e ∙ each_has f t id ∙ c.requires.root.0;
      family = ap (λ (x : Rows). (row_at x id).root) e ∙ ap (λ (r : Row). r.root) (each_at f t id c.requires.root.0) ∙ c.requires.root.1;
      buffered = ap (λ (x : Rows). is_buffered (row_at x id)) e ∙ ap is_buffered (each_at f t id c.requires.root.0) ∙ root_buffered t c.requires.order.still id c.requires.root.0 c.requires.root.1;
      was_marked = λ n. absurd (n refl);
    }

pub returns : goal.returns
returns c =
    let id : ℕ = c.args.id in
    let e = changed_one (kept_in id c.args.kept.elems) c.args.self.now c.self.inside.keys c.self.inside.nodes id c.index-key.result.now c.index_mut.result.now c.keep.new.self c.self.view_is c.self.invariant.0.0 c.index-key.ensures c.index_mut.ensures.value (c.keep.ensures ∙ kept_here id c.args.kept.elems c.index_mut.result.now) (kept_others id c.args.kept.elems) in
    c.mark_at.ensures.rows ∙ ap (each (mark_in id id)) e

pub invariant_of-self : goal.invariant_of-self
invariant_of-self c =
    let t : Rows = c.args.self.now in
    let id : ℕ = c.args.id in
    let f : ℕ → Row → Row = kept_in id c.args.kept.elems in
    let e = changed_one f t c.self.inside.keys c.self.inside.nodes id c.index-key.result.now c.index_mut.result.now c.keep.new.self c.self.view_is c.self.invariant.0.0 c.index-key.ensures c.index_mut.ensures.value (c.keep.ensures ∙ kept_here id c.args.kept.elems c.index_mut.result.now) (kept_others id c.args.kept.elems) in (
      (c.mark_at.ensures.table, c.mark_at.ensures.listed),
      counted_each (mark_in id id) (each f t) _ _ c.self.inside.children e (c.mark_at.ensures.rows ∙ ap (each (mark_in id id)) e) (λ k r. refl)
          (counted_each f t (rows_of c.self.inside.nodes c.self.inside.keys) _ c.self.inside.children c.self.view_is e (λ k r. refl) c.self.invariant.1),
    )
