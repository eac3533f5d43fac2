use Rattle.std.proofs.Common.{rules, ◌≡◌, ◌++◌, ℕ, List, Option, OnOk, ◌+◌, ◌*◌, ap, sym, subst, get_or, pos, Some, SFits, to_z-of_z, w64}
use Rattle.pdl_choice.specs.Rounds.{line_at, row_place}
use Rattle.pdl_choice.proofs.WhereLists.{places_added}
use Rattle.pdl_choice.proofs.RoundsRows.{counted_is, row_along}
use Rattle.pdl_choice.proofs.indices.push_row.Goals as goal

pub loop-column-preserved : goal.loop-column-preserved
loop-column-preserved c =
    let fits : SFits w64 (get_or c.args.ind.now (line_at c.args.ind_line c.loop-column.column) (pos 0)) = search rules in
    places_added (λ column. Some (row_place c.args.size c.args.ind.now c.args.ind_line c.args.rest_line column)) _ _ _ _ _ c.loop-column.invariant c.in_ok-push.ensures.items
    (ap (λ first. Some (first + c.args.size * line_at c.args.rest_line c.loop-column.column)) (counted_is _ _ (sym (simp to_z-of_z at c.counted.ensures.value))))

pub returns-then-rest_line-eq0 : goal.returns-then-rest_line-eq0
returns-then-rest_line-eq0 c =
    subst (λ (ps : List (Option ℕ)). OnOk c.push_values.result (c.push_values.new.places.items ≡ c.args.places.now.items ++ ps))
    (row_along c.args.size c.args.ind.now c.args.ind_line c.args.rest_line c.args.row c.if-row-gt0.true c.if-ind_line-eq1.true c.if-rest_line-eq0.true c.requires.inside)
    c.push_values.ensures
