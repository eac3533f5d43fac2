use Rattle.std.proofs.Common.{drop, arith, ◌≡◌, All, ℕ, ℤ, List, Option, Some, refl, sym, ◌∙◌, ap, subst}
use Rattle.slab.specs.Slab.{Slab, get, with_value}
use Rattle.pdl_elem.specs.Types.{InRange}
use Rattle.pdl_shape.specs.Places.{write}
use Rattle.pdl_shape.specs.Shape.{size_of}
use Rattle.pdl_nodes.specs.Changes.{kept_in, mark_in}
use Rattle.pdl_registry.specs.Numbered.{value_at}
use Rattle.pdl_nodes.specs.Placed.{in_order}
use Rattle.pdl_nodes.specs.Put.{IsWrite, put_in}
use Rattle.pdl_nodes.specs.Row.{Row, is_buffered, shown_of}
use Rattle.pdl_nodes.specs.Rows.{Rows, each, has, row_at}
use Rattle.pdl_nodes.specs.Table.{IsTable, rows_of}
use Rattle.pdl_nodes.specs.Worlds.{places_seen}
use Rattle.pdl_nodes.specs.declared.node.Goal.TheVariants.{Root}
use Rattle.pdl_nodes.proofs.table.Table.put_root.Goals as goal
use Rattle.pdl_nodes.proofs.TableCalls.{has_key, node_is, changed_one}
use Rattle.pdl_nodes.proofs.ChildrenCounted.{counted_each}
use Rattle.pdl_nodes.proofs.RowFinds.{each_has, each_at}
use Rattle.pdl_nodes.proofs.MarkedListing.{one_kept}
use Rattle.pdl_nodes.proofs.ChangesMarks.{kept_here, kept_others}
use Rattle.pdl_nodes.proofs.RowOrigins.{root_buffered}
use Rattle.pdl_nodes.proofs.WorldsOverBases.{root_in_order}
use Rattle.std.proofs.lemmas.Bool.{ne_eqb, eq-eqb}

-- what a root keeps once values are put into it in order, and the rows then
abbrev root_in : Rows → (id first : ℕ) → List ℤ → ℕ → Row → Row
root_in t id first vs = kept_in id (write (drop first (in_order (size_of (row_at t id).triple.dims))) vs (row_at t id).kept)

put_rows : (t : Rows) (keys : List (ℕ × ℕ)) (nodes : Slab Row) (id key first : ℕ) (r q : Row) (vs : List ℤ) → rows_of nodes keys ≡ t → IsTable keys nodes → value_at keys id ≡ Some key → get nodes key ≡ Some r
    → q ≡ record r { kept = write (drop first (in_order (size_of r.triple.dims))) vs r.kept } → rows_of (with_value nodes key q) keys ≡ each (root_in t id first vs) t
put_rows t keys nodes id key first r q vs e i h g n =
    let es = write (drop first (in_order (size_of (row_at t id).triple.dims))) vs (row_at t id).kept in
    changed_one (root_in t id first vs) t keys nodes id key r q e i h g
    (n ∙ ap (λ (x : Row). record r { kept = write (drop first (in_order (size_of x.triple.dims))) vs x.kept }) (node_is t keys nodes id key r e i h g) ∙ kept_here id es r) (kept_others id es)

-- they are those that are put into it as its own root
in_itself : (t : Rows) (id first : ℕ) (vs : List ℤ) → IsWrite t id first vs → (row_at t id).root ≡ id → each (root_in t id first vs) t ≡ each (put_in Root t id first vs) t
in_itself t id first vs w own =
    ap (λ (ps : List (Option ℕ)). each (kept_in id (write (drop first ps) vs (row_at t id).kept)) t) (sym (root_in_order t id w.order.still (w.live, own)))
    ∙ ap (λ x. each (kept_in x (write (drop first (places_seen t id)) vs (row_at t x).kept)) t) (sym own)

pub index-key-requires : goal.index-key-requires
index-key-requires g c = has_key c.args.self.now c.self.inside.keys c.self.inside.nodes c.args.id c.self.view_is c.self.invariant.0.0 c.requires.live

-- a view
pub returns-then-root-id-clause-root : goal.returns-then-root-id-clause-root
returns-then-root-id-clause-root g c =
    let row : c.index-node.result.now ≡ row_at c.args.self.now c.args.id = node_is c.args.self.now c.self.inside.keys c.self.inside.nodes c.args.id c.index-key.result.now c.index-node.result.now c.self.view_is c.self.invariant.0.0 c.index-key.ensures c.index-node.ensures in
    sym (ne_eqb (row_at c.args.self.now c.args.id).root c.args.id (λ e. c.if-root-id.true (c.root.ensures ∙ ap (λ (r : Row). r.root) row ∙ e)))

pub returns-then-root-id-clause-view : goal.returns-then-root-id-clause-view
returns-then-root-id-clause-view g c =
    let row : c.index-node.result.now ≡ row_at c.args.self.now c.args.id = node_is c.args.self.now c.self.inside.keys c.self.inside.nodes c.args.id c.index-key.result.now c.index-node.result.now c.self.view_is c.self.invariant.0.0 c.index-key.ensures c.index-node.ensures in
    c.shown.ensures ∙ ap (shown_of c.args.id) row

-- a root
root_is : (t : Rows) (id root : ℕ) (r : Row) → r ≡ row_at t id → root ≡ r.root → root ≡ id → (row_at t id).root ≡ id
root_is t id root r e g h = ap (λ (r : Row). r.root) (sym e) ∙ sym g ∙ h

pub returns-clause-root : goal.returns-clause-root
returns-clause-root g c = sym (eq-eqb (row_at c.args.self.now c.args.id).root c.args.id (root_is c.args.self.now c.args.id c.root.result c.index-node.result.now (node_is c.args.self.now c.self.inside.keys c.self.inside.nodes c.args.id c.index-key.result.now c.index-node.result.now c.self.view_is c.self.invariant.0.0 c.index-key.ensures c.index-node.ensures) c.root.ensures c.if-root-id.false))

pub put_in_order-requires-clause-buffered : goal.put_in_order-requires-clause-buffered
put_in_order-requires-clause-buffered g c =
    let row : c.index-node.result.now ≡ row_at c.args.self.now c.args.id = node_is c.args.self.now c.self.inside.keys c.self.inside.nodes c.args.id c.index-key.result.now c.index-node.result.now c.self.view_is c.self.invariant.0.0 c.index-key.ensures c.index-node.ensures in
    ap is_buffered (node_is c.args.self.now c.self.inside.keys c.self.inside.nodes c.args.id c.index-key.result.now c.index_mut.result.now c.self.view_is c.self.invariant.0.0 c.index-key.ensures c.index_mut.ensures.value) ∙ root_buffered c.args.self.now c.requires.order.still c.args.id c.requires.live (root_is c.args.self.now c.args.id c.root.result c.index-node.result.now row c.root.ensures c.if-root-id.false)

pub put_in_order-requires-clause-in_range : goal.put_in_order-requires-clause-in_range
put_in_order-requires-clause-in_range g c = subst (λ (r : Row). All (InRange r.ty) c.args.values.now) (sym (node_is c.args.self.now c.self.inside.keys c.self.inside.nodes c.args.id c.index-key.result.now c.index_mut.result.now c.self.view_is c.self.invariant.0.0 c.index-key.ensures c.index_mut.ensures.value)) c.requires.in_range

pub put_in_order-requires-clause-within : goal.put_in_order-requires-clause-within
put_in_order-requires-clause-within g c = omega (arith, c.requires.within, ap (λ (r : Row). size_of r.triple.dims) (node_is c.args.self.now c.self.inside.keys c.self.inside.nodes c.args.id c.index-key.result.now c.index_mut.result.now c.self.view_is c.self.invariant.0.0 c.index-key.ensures c.index_mut.ensures.value))

pub mark_at-requires : goal.mark_at-requires
mark_at-requires g c =
    let row : c.index-node.result.now ≡ row_at c.args.self.now c.args.id = node_is c.args.self.now c.self.inside.keys c.self.inside.nodes c.args.id c.index-key.result.now c.index-node.result.now c.self.view_is c.self.invariant.0.0 c.index-key.ensures c.index-node.ensures in
    let own : (row_at c.args.self.now c.args.id).root ≡ c.args.id = root_is c.args.self.now c.args.id c.root.result c.index-node.result.now row c.root.ensures c.if-root-id.false in
    let f : ℕ → Row → Row = root_in c.args.self.now c.args.id c.args.first c.args.values.now in
    let e = put_rows c.args.self.now c.self.inside.keys c.self.inside.nodes c.args.id c.index-key.result.now c.args.first c.index_mut.result.now c.put_in_order.new.self c.args.values.now c.self.view_is c.self.invariant.0.0 c.index-key.ensures c.index_mut.ensures.value c.put_in_order.ensures.value in
    let kept = one_kept f c.args.self.now c.self.inside.keys c.self.inside.nodes c.self.inside.marked c.args.id c.index-key.result.now c.put_in_order.new.self c.self.view_is c.self.invariant.0 c.index-key.ensures e (record { marks = λ v r h. h; roots = λ v r. refl }) in
    record {
      table = kept.0;
      listed = kept.1;
      key = c.index-key.ensures;
      root = ap (λ (t : Rows). has t c.args.id) e ∙ each_has f c.args.self.now c.args.id ∙ c.requires.live;
      live = ap (λ (t : Rows). has t c.args.id) e ∙ each_has f c.args.self.now c.args.id ∙ c.requires.live;
      family = ap (λ (t : Rows). (row_at t c.args.id).root) e ∙ ap (λ (r : Row). r.root) (each_at f c.args.self.now c.args.id c.requires.live) ∙ own;
      buffered = ap (λ (t : Rows). is_buffered (row_at t c.args.id)) e ∙ ap is_buffered (each_at f c.args.self.now c.args.id c.requires.live) ∙ root_buffered c.args.self.now c.requires.order.still c.args.id c.requires.live own;
      was_marked = λ n. absurd (n refl);
    }

pub returns-clause-put : goal.returns-clause-put
returns-clause-put g c =
    let row : c.index-node.result.now ≡ row_at c.args.self.now c.args.id = node_is c.args.self.now c.self.inside.keys c.self.inside.nodes c.args.id c.index-key.result.now c.index-node.result.now c.self.view_is c.self.invariant.0.0 c.index-key.ensures c.index-node.ensures in
    c.mark_at.ensures.rows ∙ ap (each (mark_in c.args.id c.args.id)) (put_rows c.args.self.now c.self.inside.keys c.self.inside.nodes c.args.id c.index-key.result.now c.args.first c.index_mut.result.now c.put_in_order.new.self c.args.values.now c.self.view_is c.self.invariant.0.0 c.index-key.ensures c.index_mut.ensures.value c.put_in_order.ensures.value
    ∙ in_itself c.args.self.now c.args.id c.args.first c.args.values.now c.requires (root_is c.args.self.now c.args.id c.root.result c.index-node.result.now row c.root.ensures c.if-root-id.false))

pub invariant_of-self : goal.invariant_of-self
invariant_of-self g c =
    let f : ℕ → Row → Row = root_in c.args.self.now c.args.id c.args.first c.args.values.now in
    let e = put_rows c.args.self.now c.self.inside.keys c.self.inside.nodes c.args.id c.index-key.result.now c.args.first c.index_mut.result.now c.put_in_order.new.self c.args.values.now c.self.view_is c.self.invariant.0.0 c.index-key.ensures c.index_mut.ensures.value c.put_in_order.ensures.value in (
      (c.mark_at.ensures.table, c.mark_at.ensures.listed),
      counted_each (mark_in c.args.id c.args.id) (each f c.args.self.now) _ _ c.self.inside.children e (c.mark_at.ensures.rows ∙ ap (each (mark_in c.args.id c.args.id)) e) (λ k r. refl)
          (counted_each f c.args.self.now (rows_of c.self.inside.nodes c.self.inside.keys) _ c.self.inside.children c.self.view_is e (λ k r. refl) c.self.invariant.1),
    )
