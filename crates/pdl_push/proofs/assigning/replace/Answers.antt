-- What a root keeps in the place of its own was assigned to it.
use Rattle.std.proofs.Common.{◌≡◌, ℕ, ℤ, drop, length, List, map, Option, Some, refl, sym, ◌∙◌, ap}
use Rattle.std.specs.List.{range_with_len}
use Rattle.pdl_shape.specs.Places.{write}
use Rattle.pdl_shape.specs.Shape.{size_of}
use Rattle.pdl_nodes.specs.Changes.{kept_in, mark_in}
use Rattle.pdl_nodes.specs.Put.{IsWrite, put_in}
use Rattle.pdl_nodes.specs.RowLaws.{RowLaws}
use Rattle.pdl_nodes.specs.Rows.{Rows, each, row_at}
use Rattle.pdl_nodes.specs.Worlds.{places_seen}
use Rattle.pdl_nodes.specs.declared.node.Goal.TheVariants.{Root}
use Rattle.pdl_push.specs.Targets.{IsAssigned, WaitsTarget}
use Rattle.pdl_push.proofs.LateAssignments.{at_root}
use Rattle.pdl_push.proofs.PlacePuts.{written_whole}
use Rattle.pdl_push.proofs.TargetLemmas.{target_root}
use Rattle.pdl_push.proofs.assigning.replace.Goals as goal

-- elements for each position of a root are what it keeps once they are put into it
put_whole : (facts : RowLaws) → (rs : Rows) (v : ℕ) (vs : List ℤ) → IsWrite rs v 0 vs → (row_at rs v).root ≡ v → length vs ≡ size_of (row_at rs v).triple.dims
    → each (kept_in v vs) rs ≡ each (put_in Root rs v 0 vs) rs
put_whole facts rs v vs w own count =
    let n : ℕ = size_of (row_at rs v).triple.dims in
    let old : List ℤ = (row_at rs v).kept in
    let places : places_seen rs v ≡ map Some (range_with_len 0 n) =
    ap (places_seen rs) (sym own) ∙ (facts.seen.is_seen rs w.order.still v w.live).root_places ∙ ap (λ k. map Some (range_with_len 0 (size_of (row_at rs k).triple.dims))) own in
    let whole : write (drop 0 (places_seen rs v)) vs old ≡ vs = ap (λ (ps : List (Option ℕ)). write ps vs old) places ∙ written_whole n vs old count (w.order.family v (w.live, own)).count in
    ap (λ (es : List ℤ). each (kept_in v es) rs) (sym whole)
    ∙ ap (λ x. each (kept_in x (write (drop 0 (places_seen rs v)) vs (row_at rs x).kept)) rs) (sym own)

replaced : (facts : RowLaws) → (rs new : Rows) (v : ℕ) (vs : List ℤ) → IsWrite rs v 0 vs → (row_at rs v).root ≡ v → length vs ≡ size_of (row_at rs v).triple.dims
    → new ≡ each (mark_in v v) (each (kept_in v vs) rs) → IsAssigned rs v 0 vs new × WaitsTarget rs v new
replaced facts rs new v vs w own count is =
    at_root facts rs new v 0 vs w
    (target_root rs v v v own (facts.seen.root_own rs v w.order.still (w.live, own)) refl ∙ sym own)
    (is ∙ ap (each (mark_in v v)) (put_whole facts rs v vs w own count) ∙ ap (λ x. each (mark_in x x) (each (put_in Root rs v 0 vs) rs)) (sym own))

pub replace-requires : goal.replace-requires
replace-requires c = record {
  order = c.requires.write.order;
  root = (c.requires.write.live, c.requires.root);
  same_type = c.requires.same_type;
}

pub returns-clause-assigned : goal.returns-clause-assigned
returns-clause-assigned c = (replaced c.row_laws.ensures c.args.table.now c.replace.new.self c.args.id c.args.kept.elems c.requires.write c.requires.root c.requires.count c.replace.ensures).0

pub returns-clause-waits : goal.returns-clause-waits
returns-clause-waits c = (replaced c.row_laws.ensures c.args.table.now c.replace.new.self c.args.id c.args.kept.elems c.requires.write c.requires.root c.requires.count c.replace.ensures).1
