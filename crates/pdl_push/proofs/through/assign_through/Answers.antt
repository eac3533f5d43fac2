use Rattle.std.proofs.Common.{◌≡◌, ℕ, ℤ, All, List, length, drop, sym, ◌∙◌, ap, subst, refl, arith}
use Rattle.pdl_elem.specs.Types.{InRange}
use Rattle.pdl_elem.specs.declared.Ty.{Ty}
use Rattle.pdl_shape.specs.Places.{AllBelow, write}
use Rattle.pdl_shape.specs.Shape.{size_of}
use Rattle.pdl_nodes.specs.Changes.{kept_in, mark_in}
use Rattle.pdl_nodes.specs.Row.{Row}
use Rattle.pdl_nodes.specs.RowLaws.{RowLaws}
use Rattle.pdl_nodes.specs.Rows.{Rows, each, row_at}
use Rattle.pdl_nodes.specs.Worlds.{IsRoot, places_seen}
use Rattle.pdl_push.specs.Targets.{IsWriteThrough}
use Rattle.pdl_push.proofs.ThroughPuts.{through, waits_each}
use Rattle.pdl_push.proofs.through.assign_through.Goals as goal

-- the root is a root
is_root : (facts : RowLaws) → (rs : Rows) (rt v first : ℕ) (vs : List ℤ) → IsWriteThrough rs v first vs → rt ≡ (row_at rs v).root → IsRoot rs rt
is_root facts rs rt v first vs w e = facts.seen.root_live rs rt v w.order.still w.live (sym e)

pub put_listed-requires-clause-root : goal.put_listed-requires-clause-root
put_listed-requires-clause-root g c = is_root c.row_laws.ensures c.args.table.now c.root-root.result c.args.id c.args.first c.args.values.now c.requires.write (c.root-root.ensures ∙ ap (λ (r : Row). r.root) c.node.ensures)

pub put_listed-requires-clause-within : goal.put_listed-requires-clause-within
put_listed-requires-clause-within g c =
    let t : Rows = c.args.table.now in
    let root : c.root-root.result ≡ (row_at t c.args.id).root = c.root-root.ensures ∙ ap (λ (r : Row). r.root) c.node.ensures in
    let n : ℕ = size_of (row_at t c.root-root.result).triple.dims in
    subst (AllBelow n) (sym c.requires.places) (subst (λ k. AllBelow (size_of (row_at t k).triple.dims) (places_seen t c.args.id)) (sym root) (c.row_laws.ensures.seen.is_seen t c.requires.write.order.still c.args.id c.requires.write.live).within)

pub put_listed-requires-clause-listed : goal.put_listed-requires-clause-listed
put_listed-requires-clause-listed g c = omega (arith, ap length c.requires.places, (c.row_laws.ensures.seen.is_seen c.args.table.now c.requires.write.order.still c.args.id c.requires.write.live).count, c.requires.write.within)

pub put_listed-requires-clause-in_range : goal.put_listed-requires-clause-in_range
put_listed-requires-clause-in_range g c =
    let t : Rows = c.args.table.now in
    let root : c.root-root.result ≡ (row_at t c.args.id).root = c.root-root.ensures ∙ ap (λ (r : Row). r.root) c.node.ensures in
    let ty : (row_at t c.root-root.result).ty ≡ (row_at t c.args.id).ty = ap (λ k. (row_at t k).ty) root ∙ (c.row_laws.ensures.seen.is_seen t c.requires.write.order.still c.args.id c.requires.write.live).root_ty in
    subst (λ (y : Ty). All (InRange y) c.args.values.now) (sym ty) c.requires.write.in_range

pub mark-requires-clause-family : goal.mark-requires-clause-family
mark-requires-clause-family g c =
    let t : Rows = c.args.table.now in
    let i : IsRoot t c.root-root.result = is_root c.row_laws.ensures t c.root-root.result c.args.id c.args.first c.args.values.now c.requires.write (c.root-root.ensures ∙ ap (λ (r : Row). r.root) c.node.ensures) in
    ap (λ x. (row_at x c.root-root.result).root) c.put_listed.ensures.put ∙ ap (λ (r : Row). r.root) (c.row_laws.ensures.numbers.each_at _ t c.root-root.result i.0) ∙ i.1

pub returns-clause-assigned : goal.returns-clause-assigned
returns-clause-assigned g c =
    let t : Rows = c.args.table.now in
    let root : c.root-root.result ≡ (row_at t c.args.id).root = c.root-root.ensures ∙ ap (λ (r : Row). r.root) c.node.ensures in
    let rows : c.put_listed.new.self ≡ each (kept_in c.root-root.result (write (drop c.args.first (places_seen t c.args.id)) c.args.values.now (row_at t c.root-root.result).kept)) t = c.put_listed.ensures.put
    ∙ ap (λ es. each (kept_in c.root-root.result es) t) (ap (λ ps. write (drop c.args.first ps) c.args.values.now (row_at t c.root-root.result).kept) c.requires.places) in
    through c.row_laws.ensures t c.mark.new.self c.args.id c.args.first c.args.values.now c.requires.write
    (c.mark.ensures ∙ ap (each (mark_in c.root-root.result c.root-root.result)) rows
    ∙ ap (λ k. each (mark_in k k) (each (kept_in k (write (drop c.args.first (places_seen t c.args.id)) c.args.values.now (row_at t k).kept)) t)) root)

pub returns-clause-waits : goal.returns-clause-waits
returns-clause-waits g c = λ v.
    ap (λ x. (row_at x v).waiting) c.mark.ensures ∙ waits_each c.row_laws.ensures (mark_in c.root-root.result c.root-root.result) c.put_listed.new.self v (λ k r. refl)
    ∙ ap (λ x. (row_at x v).waiting) c.put_listed.ensures.put ∙ waits_each c.row_laws.ensures _ c.args.table.now v (λ k r. refl)
