use Rattle.std.proofs.Common.{◌≡◌, ◌∙◌, ◌+◌, ◌%◌, rules, SFits, w64, ap, get_or, pos, to_z-of_z, sym, length, arith, below_more}
use Rattle.pdl_choice.specs.Edges.{edge_refuses}
use Rattle.pdl_choice.proofs.WhereLists.{position-range, position-range_none}
use Rattle.pdl_choice.proofs.ShapeSteps.{next_remainder}
use Rattle.pdl_choice.proofs.windows.first_beyond.Goals as goal

pub returns-then-refuses-clause-first : goal.returns-then-refuses-clause-first
returns-then-refuses-clause-first c =
    let fits : SFits w64 (get_or c.args.ind.now c.loop-place.place (pos 0)) = search rules in
    let here : c.refuses.result ≡ edge_refuses c.args.edge (get_or c.args.parent.now c.loop-place.number 0) (get_or c.args.windows.now c.loop-place.number 0) (get_or c.args.ind.now c.loop-place.place (pos 0)) = simp to_z-of_z at c.refuses.ensures in
    let at = ap (λ i. edge_refuses c.args.edge (get_or c.args.parent.now i 0) (get_or c.args.windows.now i 0) (get_or c.args.ind.now c.loop-place.place (pos 0))) c.loop-place.invariant.0 in
    sym (position-range _ (length c.args.ind.now) c.loop-place.place (omega arith) c.loop-place.invariant.1 (sym at ∙ sym here ∙ c.if-refuses.true))

pub loop-place-preserved : goal.loop-place-preserved
loop-place-preserved c =
    let fits : SFits w64 (get_or c.args.ind.now c.loop-place.place (pos 0)) = search rules in
    let here : c.refuses.result ≡ edge_refuses c.args.edge (get_or c.args.parent.now c.loop-place.number 0) (get_or c.args.windows.now c.loop-place.number 0) (get_or c.args.ind.now c.loop-place.place (pos 0)) = simp to_z-of_z at c.refuses.ensures in
    let at = ap (λ i. edge_refuses c.args.edge (get_or c.args.parent.now i 0) (get_or c.args.windows.now i 0) (get_or c.args.ind.now c.loop-place.place (pos 0))) c.loop-place.invariant.0 in (
      c.next_number-number.ensures ∙ ap (λ n. (n + 1) % length c.args.windows.now) c.loop-place.invariant.0 ∙ next_remainder c.loop-place.place (length c.args.windows.now),
      below_more _ _ c.loop-place.invariant.1 (sym at ∙ sym here ∙ c.if-refuses.false),
    )

pub returns-clause-first : goal.returns-clause-first
returns-clause-first c = sym (position-range_none _ (length c.args.ind.now) (λ k below. c.loop-place.invariant.1 k (omega arith)))
