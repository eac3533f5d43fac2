use Rattle.std.proofs.Common.{◌+◌, ◌≤◌, All, drop, length, refl, sym, ◌∙◌, ap, subst}
use Rattle.pdl_elem.specs.Types.{InRange}
use Rattle.pdl_elem.specs.declared.Ty.{Ty}
use Rattle.pdl_shape.specs.Places.{write}
use Rattle.pdl_shape.specs.Shape.{size_of}
use Rattle.pdl_nodes.specs.Changes.{kept_in}
use Rattle.pdl_registry.specs.Numbered.{value_at}
use Rattle.pdl_nodes.specs.Placed.{goes_by}
use Rattle.pdl_nodes.specs.Put.{put_at}
use Rattle.pdl_nodes.specs.Row.{Row, goal_of, is_buffered}
use Rattle.pdl_nodes.specs.Rows.{each, has}
use Rattle.pdl_nodes.specs.Table.{rows_of}
use Rattle.pdl_nodes.specs.declared.node.Shown.{Shown}
use Rattle.pdl_nodes.proofs.TableCalls.{has_key, node_is}
use Rattle.pdl_nodes.proofs.ChildrenCounted.{counted_each}
use Rattle.pdl_nodes.proofs.TableLiftings.{IsPutBack}
use Rattle.pdl_nodes.proofs.RowWrites.{base_live, into_buffered, into_live, into_row, into_ty, into_written, places_back, put_is}
use Rattle.pdl_nodes.proofs.table.Table.put.Goals as goal

pub index-base-requires : goal.index-base-requires
index-base-requires g c = has_key c.args.self.now c.self.inside.keys c.self.inside.nodes c.args.at.now.base c.self.view_is c.self.invariant.0.0 (base_live c.args.self.now c.args.at.now c.args.first c.args.values.now c.requires.write c.requires.shown)

pub key_of-into-requires-clause-live : goal.key_of-into-requires-clause-live
key_of-into-requires-clause-live g c = has_key c.args.self.now c.self.inside.keys c.self.inside.nodes c.number.result c.self.view_is c.self.invariant.0.0 (ap (λ x. has c.args.self.now x) c.number.ensures ∙ (into_live c.args.goal c.args.self.now c.args.at.now c.args.first c.args.values.now c.requires.write c.requires.shown))

pub put-requires-clause-buffered : goal.put-requires-clause-buffered
put-requires-clause-buffered g c = ap is_buffered (into_row c.args.self.now c.self.inside.keys c.self.inside.nodes (goal_of c.args.goal c.args.at.now) c.args.at.now.base c.index-base.result.now c.key_of-into.result c.index_mut.result.now c.take_places-known.new.self c.index_mut-2.result.now c.self.view_is c.self.invariant.0.0 (into_live c.args.goal c.args.self.now c.args.at.now c.args.first c.args.values.now c.requires.write c.requires.shown) c.index-base.ensures c.index_mut.ensures.value c.take_places-known.ensures.left (ap (value_at c.self.inside.keys) (sym c.number.ensures) ∙ c.key_of-into.ensures) c.index_mut-2.ensures.value) ∙ into_buffered c.args.goal c.args.self.now c.args.at.now c.args.first c.args.values.now c.requires.write c.requires.shown

pub put-requires-clause-within : goal.put-requires-clause-within
put-requires-clause-within g c = subst (λ (s : Shown). c.args.first + length c.args.values.now ≤ size_of s.triple.dims) (sym c.requires.shown) c.requires.write.within

pub put-requires-clause-in_range : goal.put-requires-clause-in_range
put-requires-clause-in_range g c = subst (λ (y : Ty). All (InRange y) c.args.values.now) (into_ty c.args.goal c.args.self.now c.args.at.now c.args.first c.args.values.now c.requires.write c.requires.shown ∙ ap (λ (r : Row). r.ty) (sym (into_row c.args.self.now c.self.inside.keys c.self.inside.nodes (goal_of c.args.goal c.args.at.now) c.args.at.now.base c.index-base.result.now c.key_of-into.result c.index_mut.result.now c.take_places-known.new.self c.index_mut-2.result.now c.self.view_is c.self.invariant.0.0 (into_live c.args.goal c.args.self.now c.args.at.now c.args.first c.args.values.now c.requires.write c.requires.shown) c.index-base.ensures c.index_mut.ensures.value c.take_places-known.ensures.left (ap (value_at c.self.inside.keys) (sym c.number.ensures) ∙ c.key_of-into.ensures) c.index_mut-2.ensures.value))) c.requires.write.in_range

pub index_mut-requires-3 : goal.index_mut-requires-3
index_mut-requires-3 g c = (into_written c.args.self.now c.self.inside.keys c.self.inside.nodes (goal_of c.args.goal c.args.at.now) c.args.at.now.base c.index-base.result.now c.key_of-into.result c.index_mut.result.now c.take_places-known.new.self c.index_mut-2.result.now c.put.new.self (write (drop c.args.first (goes_by c.args.goal c.take_places-known.result c.args.at.now.triple)) c.args.values.now c.index_mut-2.result.now.kept) c.self.view_is c.self.invariant.0.0 c.index-base.ensures c.index_mut.ensures.value c.take_places-known.ensures.left (ap (value_at c.self.inside.keys) (sym c.number.ensures) ∙ c.key_of-into.ensures) c.index_mut-2.ensures.value c.put.ensures.value).there

pub returns-clause-put : goal.returns-clause-put
returns-clause-put g c =
    let b : IsPutBack c.args.self.now c.self.inside.keys _ c.self.inside.marked (goal_of c.args.goal c.args.at.now) (write (drop c.args.first (goes_by c.args.goal c.take_places-known.result c.args.at.now.triple)) c.args.values.now c.index_mut-2.result.now.kept) = places_back c.args.self.now c.self.inside.keys c.self.inside.nodes c.self.inside.marked (goal_of c.args.goal c.args.at.now) c.args.at.now.base c.index-base.result.now c.key_of-into.result c.take_places-known.new.self c.put.new.self c.index_mut-3.result.now c.set_places.new.self (write (drop c.args.first (goes_by c.args.goal c.take_places-known.result c.args.at.now.triple)) c.args.values.now c.index_mut-2.result.now.kept) c.take_places-known.result c.self.view_is c.self.invariant.0 c.index-base.ensures (sym (c.take_places-known.ensures.places ∙ ap (λ (r : Row). r.places) (node_is c.args.self.now c.self.inside.keys c.self.inside.nodes c.args.at.now.base c.index-base.result.now c.index_mut.result.now c.self.view_is c.self.invariant.0.0 c.index-base.ensures c.index_mut.ensures.value))) (into_written c.args.self.now c.self.inside.keys c.self.inside.nodes (goal_of c.args.goal c.args.at.now) c.args.at.now.base c.index-base.result.now c.key_of-into.result c.index_mut.result.now c.take_places-known.new.self c.index_mut-2.result.now c.put.new.self (write (drop c.args.first (goes_by c.args.goal c.take_places-known.result c.args.at.now.triple)) c.args.values.now c.index_mut-2.result.now.kept) c.self.view_is c.self.invariant.0.0 c.index-base.ensures c.index_mut.ensures.value c.take_places-known.ensures.left (ap (value_at c.self.inside.keys) (sym c.number.ensures) ∙ c.key_of-into.ensures) c.index_mut-2.ensures.value c.put.ensures.value) c.index_mut-3.ensures.value c.set_places.ensures in
    b.rows ∙ ap (λ xs. each (kept_in (goal_of c.args.goal c.args.at.now) xs) c.args.self.now) (put_is c.args.goal c.args.self.now c.args.at.now c.args.first c.args.values.now c.take_places-known.result c.index_mut-2.result.now.kept c.requires.write c.requires.shown (c.take_places-known.ensures.places ∙ ap (λ (r : Row). r.places) (node_is c.args.self.now c.self.inside.keys c.self.inside.nodes c.args.at.now.base c.index-base.result.now c.index_mut.result.now c.self.view_is c.self.invariant.0.0 c.index-base.ensures c.index_mut.ensures.value)) (ap (λ (r : Row). r.kept) (into_row c.args.self.now c.self.inside.keys c.self.inside.nodes (goal_of c.args.goal c.args.at.now) c.args.at.now.base c.index-base.result.now c.key_of-into.result c.index_mut.result.now c.take_places-known.new.self c.index_mut-2.result.now c.self.view_is c.self.invariant.0.0 (into_live c.args.goal c.args.self.now c.args.at.now c.args.first c.args.values.now c.requires.write c.requires.shown) c.index-base.ensures c.index_mut.ensures.value c.take_places-known.ensures.left (ap (value_at c.self.inside.keys) (sym c.number.ensures) ∙ c.key_of-into.ensures) c.index_mut-2.ensures.value)))
    ∙ ap (λ (s : Shown). each (kept_in (goal_of c.args.goal s) (put_at c.args.goal c.args.self.now c.args.at.now.id c.args.first c.args.values.now)) c.args.self.now) c.requires.shown

pub invariant_of-self : goal.invariant_of-self
invariant_of-self g c =
    let b : IsPutBack c.args.self.now c.self.inside.keys _ c.self.inside.marked (goal_of c.args.goal c.args.at.now) (write (drop c.args.first (goes_by c.args.goal c.take_places-known.result c.args.at.now.triple)) c.args.values.now c.index_mut-2.result.now.kept) = places_back c.args.self.now c.self.inside.keys c.self.inside.nodes c.self.inside.marked (goal_of c.args.goal c.args.at.now) c.args.at.now.base c.index-base.result.now c.key_of-into.result c.take_places-known.new.self c.put.new.self c.index_mut-3.result.now c.set_places.new.self (write (drop c.args.first (goes_by c.args.goal c.take_places-known.result c.args.at.now.triple)) c.args.values.now c.index_mut-2.result.now.kept) c.take_places-known.result c.self.view_is c.self.invariant.0 c.index-base.ensures (sym (c.take_places-known.ensures.places ∙ ap (λ (r : Row). r.places) (node_is c.args.self.now c.self.inside.keys c.self.inside.nodes c.args.at.now.base c.index-base.result.now c.index_mut.result.now c.self.view_is c.self.invariant.0.0 c.index-base.ensures c.index_mut.ensures.value))) (into_written c.args.self.now c.self.inside.keys c.self.inside.nodes (goal_of c.args.goal c.args.at.now) c.args.at.now.base c.index-base.result.now c.key_of-into.result c.index_mut.result.now c.take_places-known.new.self c.index_mut-2.result.now c.put.new.self (write (drop c.args.first (goes_by c.args.goal c.take_places-known.result c.args.at.now.triple)) c.args.values.now c.index_mut-2.result.now.kept) c.self.view_is c.self.invariant.0.0 c.index-base.ensures c.index_mut.ensures.value c.take_places-known.ensures.left (ap (value_at c.self.inside.keys) (sym c.number.ensures) ∙ c.key_of-into.ensures) c.index_mut-2.ensures.value c.put.ensures.value) c.index_mut-3.ensures.value c.set_places.ensures in
    ((b.table, b.listed), counted_each (kept_in (goal_of c.args.goal c.args.at.now) (write (drop c.args.first (goes_by c.args.goal c.take_places-known.result c.args.at.now.triple)) c.args.values.now c.index_mut-2.result.now.kept)) c.args.self.now (rows_of c.self.inside.nodes c.self.inside.keys) _ c.self.inside.children c.self.view_is b.rows (λ k r. refl) c.self.invariant.1)
