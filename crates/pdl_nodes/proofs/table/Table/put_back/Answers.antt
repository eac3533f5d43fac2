use Rattle.std.proofs.Common.{refl, ◌≡◌, ℕ, ◌+◌, List, Option, Some, length, is_some, sym, ◌∙◌, ap}
use Rattle.pdl_numbers.specs.Typed.{TypedElements}
use Rattle.pdl_shape.specs.Places.{write}
use Rattle.pdl_nodes.specs.Row.{Row, parent_of, is_buffered, places_or}
use Rattle.pdl_nodes.specs.Rows.{row_at, each}
use Rattle.pdl_nodes.specs.Changes.{kept_in}
use Rattle.pdl_nodes.specs.Table.{rows_of}
use Rattle.pdl_nodes.specs.Worlds.{places_seen}
use Rattle.pdl_nodes.proofs.WorldFamilies.{latest_some}
use Rattle.pdl_nodes.proofs.table.Table.put_back.Goals as goal
use Rattle.pdl_nodes.proofs.TableCalls.{has_key, node_is}
use Rattle.pdl_nodes.proofs.ChildrenCounted.{counted_each}
use Rattle.pdl_nodes.proofs.TableLiftings.{IsPutBack, known_or, liftable, lifted_root, root_written, back_type, put_back}

pub index-key-requires : goal.index-key-requires
index-key-requires g c = has_key c.args.self.now c.self.inside.keys c.self.inside.nodes c.args.id c.self.view_is c.self.invariant.0.0 (liftable c.args.self.now c.args.root c.args.id c.requires.order c.requires.known c.requires.root c.requires.waits).live

pub index-at-requires : goal.index-at-requires
index-at-requires g c = has_key c.args.self.now c.self.inside.keys c.self.inside.nodes c.args.root c.self.view_is c.self.invariant.0.0 (liftable c.args.self.now c.args.root c.args.id c.requires.order c.requires.known c.requires.root c.requires.waits).root_live

pub lift-kept-requires-clause-view : goal.lift-kept-requires-clause-view
lift-kept-requires-clause-view g c = ap (λ (r : Row). is_some (parent_of r)) (node_is c.args.self.now c.self.inside.keys c.self.inside.nodes c.args.id c.index-key.result.now c.index_mut.result.now c.self.view_is c.self.invariant.0.0 c.index-key.ensures c.index_mut.ensures.value) ∙ (liftable c.args.self.now c.args.root c.args.id c.requires.order c.requires.known c.requires.root c.requires.waits).view

pub lift-kept-requires-clause-buffered : goal.lift-kept-requires-clause-buffered
lift-kept-requires-clause-buffered g c = ap (λ (r : Row). r.mark) (node_is c.args.self.now c.self.inside.keys c.self.inside.nodes c.args.id c.index-key.result.now c.index_mut.result.now c.self.view_is c.self.invariant.0.0 c.index-key.ensures c.index_mut.ensures.value) ∙ (liftable c.args.self.now c.args.root c.args.id c.requires.order c.requires.known c.requires.root c.requires.waits).mark

pub lift-kept-requires-clause-found : goal.lift-kept-requires-clause-found
lift-kept-requires-clause-found g c = ap (λ (r : Row). is_some r.places) (node_is c.args.self.now c.self.inside.keys c.self.inside.nodes c.args.id c.index-key.result.now c.index_mut.result.now c.self.view_is c.self.invariant.0.0 c.index-key.ensures c.index_mut.ensures.value) ∙ (liftable c.args.self.now c.args.root c.args.id c.requires.order c.requires.known c.requires.root c.requires.waits).found

pub write-requires-clause-buffered : goal.write-requires-clause-buffered
write-requires-clause-buffered g c = ap is_buffered (lifted_root c.args.self.now c.self.inside.keys c.self.inside.nodes c.args.root c.args.id c.index-key.result.now c.index-at.result.now c.index_mut.result.now c.lift-kept.new.self c.index_mut-2.result.now c.self.view_is c.self.invariant.0.0 (liftable c.args.self.now c.args.root c.args.id c.requires.order c.requires.known c.requires.root c.requires.waits) c.index-key.ensures c.index_mut.ensures.value c.lift-kept.ensures.left c.index-at.ensures c.index_mut-2.ensures.value) ∙ (liftable c.args.self.now c.args.root c.args.id c.requires.order c.requires.known c.requires.root c.requires.waits).root_buffered

pub fill-requires : goal.fill-requires
fill-requires g c = record { same_type = ap (λ (k : TypedElements). k.ty) c.lift-kept.ensures.kept ∙ ap (λ (r : Row). r.ty) (node_is c.args.self.now c.self.inside.keys c.self.inside.nodes c.args.id c.index-key.result.now c.index_mut.result.now c.self.view_is c.self.invariant.0.0 c.index-key.ensures c.index_mut.ensures.value) ∙ sym (back_type c.args.self.now c.self.inside.keys c.self.inside.nodes c.args.root c.args.id c.index-key.result.now c.index-at.result.now c.lift-kept.new.self c.write.new.self c.index_mut-3.result.now (write c.as_slice.result.now c.lift-kept.result.kept.elems c.index_mut-2.result.now.kept) (liftable c.args.self.now c.args.root c.args.id c.requires.order c.requires.known c.requires.root c.requires.waits) c.index-key.ensures (root_written c.args.self.now c.self.inside.keys c.self.inside.nodes c.args.root c.args.id c.index-key.result.now c.index-at.result.now c.index_mut.result.now c.lift-kept.new.self c.index_mut-2.result.now c.write.new.self (write c.as_slice.result.now c.lift-kept.result.kept.elems c.index_mut-2.result.now.kept) c.self.view_is c.self.invariant.0.0 c.index-key.ensures c.index_mut.ensures.value c.lift-kept.ensures.left c.index-at.ensures c.index_mut-2.ensures.value c.write.ensures.value) c.index_mut-3.ensures.value) }

pub invariant_of-self : goal.invariant_of-self
invariant_of-self g c =
    let b : IsPutBack c.args.self.now c.self.inside.keys _ c.self.inside.marked c.args.root (write c.as_slice.result.now c.lift-kept.result.kept.elems c.index_mut-2.result.now.kept) = put_back c.args.self.now c.self.inside.keys c.self.inside.nodes c.self.inside.marked c.args.root c.args.id c.index-key.result.now c.index-at.result.now c.index_mut.result.now c.lift-kept.new.self c.write.new.self c.index_mut-3.result.now c.fill.new.self (write c.as_slice.result.now c.lift-kept.result.kept.elems c.index_mut-2.result.now.kept) c.lift-kept.result.kept c.repeats-repeats.result c.lift-kept.result.places c.self.view_is c.self.invariant.0 (liftable c.args.self.now c.args.root c.args.id c.requires.order c.requires.known c.requires.root c.requires.waits) c.index-key.ensures c.index_mut.ensures.value c.lift-kept.ensures.kept
    (c.repeats-repeats.ensures ∙ ap (λ (r : Row). r.repeats) (node_is c.args.self.now c.self.inside.keys c.self.inside.nodes c.args.id c.index-key.result.now c.index-node.result.now c.self.view_is c.self.invariant.0.0 c.index-key.ensures c.index-node.ensures) ∙ ap (λ (r : Row). r.repeats) (sym (node_is c.args.self.now c.self.inside.keys c.self.inside.nodes c.args.id c.index-key.result.now c.index_mut.result.now c.self.view_is c.self.invariant.0.0 c.index-key.ensures c.index_mut.ensures.value))) c.lift-kept.ensures.places
    (root_written c.args.self.now c.self.inside.keys c.self.inside.nodes c.args.root c.args.id c.index-key.result.now c.index-at.result.now c.index_mut.result.now c.lift-kept.new.self c.index_mut-2.result.now c.write.new.self (write c.as_slice.result.now c.lift-kept.result.kept.elems c.index_mut-2.result.now.kept) c.self.view_is c.self.invariant.0.0 c.index-key.ensures c.index_mut.ensures.value c.lift-kept.ensures.left c.index-at.ensures c.index_mut-2.ensures.value c.write.ensures.value) c.index_mut-3.ensures.value c.fill.ensures in
    ((b.table, b.listed), counted_each (kept_in c.args.root (write c.as_slice.result.now c.lift-kept.result.kept.elems c.index_mut-2.result.now.kept)) c.args.self.now (rows_of c.self.inside.nodes c.self.inside.keys) _ c.self.inside.children c.self.view_is b.rows (λ k r. refl) c.self.invariant.1)

pub write-requires-clause-same_type : goal.write-requires-clause-same_type
write-requires-clause-same_type g c = ap (λ (k : TypedElements). k.ty) c.lift-kept.ensures.kept ∙ ap (λ (r : Row). r.ty) (node_is c.args.self.now c.self.inside.keys c.self.inside.nodes c.args.id c.index-key.result.now c.index_mut.result.now c.self.view_is c.self.invariant.0.0 c.index-key.ensures c.index_mut.ensures.value) ∙ (liftable c.args.self.now c.args.root c.args.id c.requires.order c.requires.known c.requires.root c.requires.waits).same_type ∙ ap (λ (r : Row). r.ty) (sym (lifted_root c.args.self.now c.self.inside.keys c.self.inside.nodes c.args.root c.args.id c.index-key.result.now c.index-at.result.now c.index_mut.result.now c.lift-kept.new.self c.index_mut-2.result.now c.self.view_is c.self.invariant.0.0 (liftable c.args.self.now c.args.root c.args.id c.requires.order c.requires.known c.requires.root c.requires.waits) c.index-key.ensures c.index_mut.ensures.value c.lift-kept.ensures.left c.index-at.ensures c.index_mut-2.ensures.value))

pub write-requires-clause-paired : goal.write-requires-clause-paired
write-requires-clause-paired g c =
    let places : (row_at c.args.self.now c.args.id).places ≡ Some c.lift-kept.result.places = ap (λ (r : Row). r.places) (sym (node_is c.args.self.now c.self.inside.keys c.self.inside.nodes c.args.id c.index-key.result.now c.index_mut.result.now c.self.view_is c.self.invariant.0.0 c.index-key.ensures c.index_mut.ensures.value)) ∙ c.lift-kept.ensures.places in
    ap (λ (xs : List (Option ℕ)). length xs) c.as_slice.ensures ∙ (liftable c.args.self.now c.args.root c.args.id c.requires.order c.requires.known c.requires.root c.requires.waits).count c.lift-kept.result.places places
    ∙ sym (ap (λ (k : TypedElements). length k.elems) c.lift-kept.ensures.kept ∙ ap (λ (r : Row). length r.kept) (node_is c.args.self.now c.self.inside.keys c.self.inside.nodes c.args.id c.index-key.result.now c.index_mut.result.now c.self.view_is c.self.invariant.0.0 c.index-key.ensures c.index_mut.ensures.value) ∙ (liftable c.args.self.now c.args.root c.args.id c.requires.order c.requires.known c.requires.root c.requires.waits).size)

pub returns-clause-put : goal.returns-clause-put
returns-clause-put g c =
    let b : IsPutBack c.args.self.now c.self.inside.keys _ c.self.inside.marked c.args.root (write c.as_slice.result.now c.lift-kept.result.kept.elems c.index_mut-2.result.now.kept) = put_back c.args.self.now c.self.inside.keys c.self.inside.nodes c.self.inside.marked c.args.root c.args.id c.index-key.result.now c.index-at.result.now c.index_mut.result.now c.lift-kept.new.self c.write.new.self c.index_mut-3.result.now c.fill.new.self (write c.as_slice.result.now c.lift-kept.result.kept.elems c.index_mut-2.result.now.kept) c.lift-kept.result.kept c.repeats-repeats.result c.lift-kept.result.places c.self.view_is c.self.invariant.0 (liftable c.args.self.now c.args.root c.args.id c.requires.order c.requires.known c.requires.root c.requires.waits) c.index-key.ensures c.index_mut.ensures.value c.lift-kept.ensures.kept
    (c.repeats-repeats.ensures ∙ ap (λ (r : Row). r.repeats) (node_is c.args.self.now c.self.inside.keys c.self.inside.nodes c.args.id c.index-key.result.now c.index-node.result.now c.self.view_is c.self.invariant.0.0 c.index-key.ensures c.index-node.ensures) ∙ ap (λ (r : Row). r.repeats) (sym (node_is c.args.self.now c.self.inside.keys c.self.inside.nodes c.args.id c.index-key.result.now c.index_mut.result.now c.self.view_is c.self.invariant.0.0 c.index-key.ensures c.index_mut.ensures.value))) c.lift-kept.ensures.places
    (root_written c.args.self.now c.self.inside.keys c.self.inside.nodes c.args.root c.args.id c.index-key.result.now c.index-at.result.now c.index_mut.result.now c.lift-kept.new.self c.index_mut-2.result.now c.write.new.self (write c.as_slice.result.now c.lift-kept.result.kept.elems c.index_mut-2.result.now.kept) c.self.view_is c.self.invariant.0.0 c.index-key.ensures c.index_mut.ensures.value c.lift-kept.ensures.left c.index-at.ensures c.index_mut-2.ensures.value c.write.ensures.value) c.index_mut-3.ensures.value c.fill.ensures in
    let places : c.as_slice.result.now ≡ places_or (row_at c.args.self.now c.args.id).places = c.as_slice.ensures ∙ ap places_or (sym c.lift-kept.ensures.places) ∙ ap (λ (r : Row). places_or r.places) (node_is c.args.self.now c.self.inside.keys c.self.inside.nodes c.args.id c.index-key.result.now c.index_mut.result.now c.self.view_is c.self.invariant.0.0 c.index-key.ensures c.index_mut.ensures.value) in
    let kept : c.lift-kept.result.kept.elems ≡ (row_at c.args.self.now c.args.id).kept = ap (λ (k : TypedElements). k.elems) c.lift-kept.ensures.kept ∙ ap (λ (r : Row). r.kept) (node_is c.args.self.now c.self.inside.keys c.self.inside.nodes c.args.id c.index-key.result.now c.index_mut.result.now c.self.view_is c.self.invariant.0.0 c.index-key.ensures c.index_mut.ensures.value) in
    let root : c.index_mut-2.result.now.kept ≡ (row_at c.args.self.now c.args.root).kept = ap (λ (r : Row). r.kept) (lifted_root c.args.self.now c.self.inside.keys c.self.inside.nodes c.args.root c.args.id c.index-key.result.now c.index-at.result.now c.index_mut.result.now c.lift-kept.new.self c.index_mut-2.result.now c.self.view_is c.self.invariant.0.0 (liftable c.args.self.now c.args.root c.args.id c.requires.order c.requires.known c.requires.root c.requires.waits) c.index-key.ensures c.index_mut.ensures.value c.lift-kept.ensures.left c.index-at.ensures c.index_mut-2.ensures.value) in
    b.rows ∙ ap (λ xs. each (kept_in c.args.root xs) c.args.self.now)
    (ap (λ x. write x c.lift-kept.result.kept.elems c.index_mut-2.result.now.kept) places
    ∙ ap (λ x. write (places_or (row_at c.args.self.now c.args.id).places) x c.index_mut-2.result.now.kept) kept
    ∙ ap (λ x. write (places_or (row_at c.args.self.now c.args.id).places) (row_at c.args.self.now c.args.id).kept x) root
    ∙ ap (λ (ps : List (Option ℕ)). write ps (row_at c.args.self.now c.args.id).kept (row_at c.args.self.now c.args.root).kept) (known_or (row_at c.args.self.now c.args.id).places (places_seen c.args.self.now c.args.id) (liftable c.args.self.now c.args.root c.args.id c.requires.order c.requires.known c.requires.root c.requires.waits).found (liftable c.args.self.now c.args.root c.args.id c.requires.order c.requires.known c.requires.root c.requires.waits).places)
    ∙ sym (latest_some c.args.self.now c.args.root c.args.id c.requires.waits))

pub returns-clause-counted : goal.returns-clause-counted
returns-clause-counted g c =
    let places : (row_at c.args.self.now c.args.id).places ≡ Some c.lift-kept.result.places = ap (λ (r : Row). r.places) (sym (node_is c.args.self.now c.self.inside.keys c.self.inside.nodes c.args.id c.index-key.result.now c.index_mut.result.now c.self.view_is c.self.invariant.0.0 c.index-key.ensures c.index_mut.ensures.value)) ∙ c.lift-kept.ensures.places in
    c.write.ensures.counted ∙ ap (λ n. c.args.steps.now + n) (ap (λ (xs : List (Option ℕ)). length xs) c.as_slice.ensures ∙ (liftable c.args.self.now c.args.root c.args.id c.requires.order c.requires.known c.requires.root c.requires.waits).count c.lift-kept.result.places places)
