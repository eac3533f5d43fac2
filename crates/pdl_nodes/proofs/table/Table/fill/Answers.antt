use Rattle.std.proofs.Common.{refl, ◌≡◌, sym, ◌∙◌, ap, subst}
use Rattle.slab.specs.Slab.{with_value}
use Rattle.pdl_world.specs.Swept.{is_listed}
use Rattle.pdl_nodes.specs.Row.{Row}
use Rattle.pdl_nodes.specs.Rows.{Rows, row_at, each}
use Rattle.pdl_nodes.specs.Changes.{fill_in}
use Rattle.pdl_nodes.specs.Marked.{AreListed, listed}
use Rattle.pdl_nodes.specs.Table.{rows_of}
use Rattle.pdl_nodes.proofs.table.Table.fill.Goals as goal
use Rattle.pdl_nodes.proofs.TableCalls.{has_key, node_is, changed_one}
use Rattle.pdl_nodes.proofs.ChildrenCounted.{counted_each}
use Rattle.pdl_nodes.proofs.MarkedListing.{table_one, listed_filled, listed_stays}
use Rattle.pdl_nodes.proofs.ChangesMarks.{fill_here, fill_others}

pub index-key-requires : goal.index-key-requires
index-key-requires c = has_key c.args.self.now c.self.inside.keys c.self.inside.nodes c.args.id c.self.view_is c.self.invariant.0.0 c.requires.live

pub fill-requires : goal.fill-requires
fill-requires c = record { same_type = c.requires.same_type ∙ ap (λ (r : Row). r.ty) (sym (node_is c.args.self.now c.self.inside.keys c.self.inside.nodes c.args.id c.index-key.result.now c.index_mut.result.now c.self.view_is c.self.invariant.0.0 c.index-key.ensures c.index_mut.ensures.value)) }

pub returns-clause-ok : goal.returns-clause-ok
returns-clause-ok c = changed_one (fill_in c.args.id c.args.kept.elems c.args.repeats c.args.places) c.args.self.now c.self.inside.keys c.self.inside.nodes c.args.id c.index-key.result.now c.index_mut.result.now c.fill.new.self c.self.view_is c.self.invariant.0.0 c.index-key.ensures c.index_mut.ensures.value (c.fill.ensures ∙ fill_here c.args.id c.args.kept.elems c.args.repeats c.args.places c.index_mut.result.now) (fill_others c.args.id c.args.kept.elems c.args.repeats c.args.places)

pub invariant_of-self : goal.invariant_of-self
invariant_of-self c = ((c.self.invariant.0.0, listed_stays (rows_of c.self.inside.nodes c.self.inside.keys) c.self.inside.marked c.insert.new.self c.insert.ensures.stay c.self.invariant.0.1), c.self.invariant.1)

pub invariant_of-self-2 : goal.invariant_of-self-2
invariant_of-self-2 c =
    let e : rows_of (with_value c.self.inside.nodes c.index-key.result.now c.fill.new.self) c.self.inside.keys ≡ each (fill_in c.args.id c.args.kept.elems c.args.repeats c.args.places) c.args.self.now =
    changed_one (fill_in c.args.id c.args.kept.elems c.args.repeats c.args.places) c.args.self.now c.self.inside.keys c.self.inside.nodes c.args.id c.index-key.result.now c.index_mut.result.now c.fill.new.self c.self.view_is c.self.invariant.0.0 c.index-key.ensures c.index_mut.ensures.value (c.fill.ensures ∙ fill_here c.args.id c.args.kept.elems c.args.repeats c.args.places c.index_mut.result.now) (fill_others c.args.id c.args.kept.elems c.args.repeats c.args.places) in
    let root : c.root-root.result ≡ (row_at c.args.self.now c.args.id).root = c.root-root.ensures ∙ ap (λ (r : Row). r.root) (node_is c.args.self.now c.self.inside.keys c.self.inside.nodes c.args.id c.index-key.result.now c.index.result.now c.self.view_is c.self.invariant.0.0 c.index-key.ensures c.index.ensures) in (
      (
        table_one c.self.inside.keys c.self.inside.nodes c.args.id c.index-key.result.now c.fill.new.self c.self.invariant.0.0 c.index-key.ensures,
        subst (λ (t : Rows). AreListed t c.insert.new.self) (sym e) (listed_filled c.args.self.now c.self.inside.marked c.insert.new.self c.args.id c.args.kept.elems c.args.repeats c.args.places
            (ap (λ r. is_listed (listed c.insert.new.self r) c.args.id) (sym root) ∙ c.in_ok-insert.ensures.listed) c.insert.ensures.stay (subst (λ (t : Rows). AreListed t c.self.inside.marked) c.self.view_is c.self.invariant.0.1)),
      ),
      counted_each (fill_in c.args.id c.args.kept.elems c.args.repeats c.args.places) c.args.self.now (rows_of c.self.inside.nodes c.self.inside.keys) _ c.self.inside.children c.self.view_is e (λ k r. refl) c.self.invariant.1,
    )
