-- A root is written at places.
use Rattle.std.proofs.Common.{◌≡◌, ◌+◌, ◌-◌, All, ℕ, ℤ, List, Option, drop, length, take, refl, sym, ◌∙◌, ap, subst, arith}
use Rattle.std.proofs.lemmas.List.Elements.{All-drop, All-take}
use Rattle.pdl_elem.specs.Types.{InRange}
use Rattle.pdl_shape.specs.Places.{AllBelow, IsBelow, write}
use Rattle.pdl_shape.specs.Shape.{size_of}
use Rattle.pdl_nodes.specs.Changes.{kept_in}
use Rattle.pdl_nodes.specs.Row.{Row, is_buffered}
use Rattle.pdl_nodes.specs.Rows.{Rows, row_at}
use Rattle.pdl_nodes.specs.Table.{rows_of}
use Rattle.pdl_nodes.proofs.table.Table.put_listed.Goals as goal
use Rattle.pdl_nodes.proofs.TableCalls.{has_key, node_is, changed_one}
use Rattle.pdl_nodes.proofs.ChildrenCounted.{counted_each}
use Rattle.pdl_nodes.proofs.MarkedListing.{one_kept}
use Rattle.pdl_nodes.proofs.ChangesMarks.{kept_here, kept_others}
use Rattle.pdl_nodes.proofs.RowOrigins.{root_buffered}
use Rattle.pdl_nodes.proofs.SpotsMoved.{write_few}

-- the places that the values go to, and those behind them
parted : (ps : List (Option ℕ)) (first : ℕ) (vs es : List ℤ) → write (take (first + length vs - first) (drop first ps)) vs es ≡ write (drop first ps) vs es
parted ps first vs es =
    let n : first + length vs - first ≡ length vs = omega arith in
    ap (λ k. write (take k (drop first ps)) vs es) n ∙ write_few (drop first ps) vs es

pub index-key-requires : goal.index-key-requires
index-key-requires g c = has_key c.args.self.now c.self.inside.keys c.self.inside.nodes c.args.root c.self.view_is c.self.invariant.0.0 c.requires.root.0

pub put_listed-requires-clause-buffered : goal.put_listed-requires-clause-buffered
put_listed-requires-clause-buffered g c =
    ap is_buffered (node_is c.args.self.now c.self.inside.keys c.self.inside.nodes c.args.root c.index-key.result.now c.index_mut.result.now c.self.view_is c.self.invariant.0.0 c.index-key.ensures c.index_mut.ensures.value)
    ∙ root_buffered c.args.self.now c.requires.order.still c.args.root c.requires.root.0 c.requires.root.1

pub put_listed-requires-clause-within : goal.put_listed-requires-clause-within
put_listed-requires-clause-within g c =
    let row : c.index_mut.result.now ≡ row_at c.args.self.now c.args.root = node_is c.args.self.now c.self.inside.keys c.self.inside.nodes c.args.root c.index-key.result.now c.index_mut.result.now c.self.view_is c.self.invariant.0.0 c.index-key.ensures c.index_mut.ensures.value in
    let n : ℕ = length c.index_mut.result.now.kept in
    let all : AllBelow n c.args.places.now = subst (λ (n : ℕ). AllBelow n c.args.places.now) (sym (ap (λ (r : Row). length r.kept) row ∙ (c.requires.order.family c.args.root c.requires.root).count)) c.requires.within in
    All-take (IsBelow n) _ _ (All-drop (IsBelow n) c.args.first c.args.places.now all)

pub put_listed-requires-clause-in_range : goal.put_listed-requires-clause-in_range
put_listed-requires-clause-in_range g c = subst (λ (r : Row). All (InRange r.ty) c.args.values.now) (sym (node_is c.args.self.now c.self.inside.keys c.self.inside.nodes c.args.root c.index-key.result.now c.index_mut.result.now c.self.view_is c.self.invariant.0.0 c.index-key.ensures c.index_mut.ensures.value)) c.requires.in_range

pub returns-clause-put : goal.returns-clause-put
returns-clause-put g c =
    let row : c.index_mut.result.now ≡ row_at c.args.self.now c.args.root = node_is c.args.self.now c.self.inside.keys c.self.inside.nodes c.args.root c.index-key.result.now c.index_mut.result.now c.self.view_is c.self.invariant.0.0 c.index-key.ensures c.index_mut.ensures.value in
    let es = write (drop c.args.first c.args.places.now) c.args.values.now (row_at c.args.self.now c.args.root).kept in
    changed_one (kept_in c.args.root es) c.args.self.now c.self.inside.keys c.self.inside.nodes c.args.root c.index-key.result.now c.index_mut.result.now c.put_listed.new.self c.self.view_is c.self.invariant.0.0 c.index-key.ensures c.index_mut.ensures.value
    (c.put_listed.ensures.value ∙ ap (λ ks. record c.index_mut.result.now { kept = ks }) (parted c.args.places.now c.args.first c.args.values.now c.index_mut.result.now.kept
    ∙ ap (λ (r : Row). write (drop c.args.first c.args.places.now) c.args.values.now r.kept) row) ∙ kept_here c.args.root es c.index_mut.result.now) (kept_others c.args.root es)

pub invariant_of-self : goal.invariant_of-self
invariant_of-self g c =
    let t : Rows = c.args.self.now in
    let es = write (drop c.args.first c.args.places.now) c.args.values.now (row_at t c.args.root).kept in
    let e = returns-clause-put g c in
    let kept = one_kept (kept_in c.args.root es) t c.self.inside.keys c.self.inside.nodes c.self.inside.marked c.args.root c.index-key.result.now c.put_listed.new.self c.self.view_is c.self.invariant.0 c.index-key.ensures e (record { marks = λ v r h. h; roots = λ v r. refl }) in
    (kept, counted_each (kept_in c.args.root es) t (rows_of c.self.inside.nodes c.self.inside.keys) _ c.self.inside.children c.self.view_is e (λ k r. refl) c.self.invariant.1)
