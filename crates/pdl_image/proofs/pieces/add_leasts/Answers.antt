use Rattle.std.proofs.Common.{ℕ, ◌*◌, ◌<◌, drop, length, length-drop, length-take, arith, ap, subst, ◌∙◌}
use Rattle.pdl_image.specs.declared.TheConstants.{PART}
use Rattle.pdl_image.specs.Adding.{part_count}
use Rattle.pdl_image.proofs.DumpFilling.{passed_on}
use Rattle.pdl_image.proofs.DumpParts.{leasts_added, leasts_refused}
use Rattle.pdl_image.proofs.pieces.add_leasts.Goals as goal

pub add_part_leasts-requires-clause-short : goal.add_part_leasts-requires-clause-short
add_part_leasts-requires-clause-short c = omega (arith, ap length c.part.ensures, length-take PART (drop (PART * c.loop-p.p) c.args.numbers.now))

pub add_part_leasts-requires-clause-small : goal.add_part_leasts-requires-clause-small
add_part_leasts-requires-clause-small c =
    let ns = c.args.numbers.now in
    let below : c.loop-p.p < part_count (length ns) = subst (λ (n : ℕ). c.loop-p.p < n) (c.part_count-p-end.ensures ∙ ap part_count c.len.ensures.count) c.loop-p-test.true in
    omega (arith, below, c.requires, ap length c.part.ensures, length-take PART (drop (PART * c.loop-p.p) ns), length-drop (PART * c.loop-p.p) ns)

pub returns-in_err-add_part_leasts : goal.returns-in_err-add_part_leasts
returns-in_err-add_part_leasts c =
    let ns = c.args.numbers.now in
    let below : c.loop-p.p < part_count (length ns) = subst (λ (n : ℕ). c.loop-p.p < n) (c.part_count-p-end.ensures ∙ ap part_count c.len.ensures.count) c.loop-p-test.true in
    passed_on _ _ _ c.from_residual.result c.in_err-add_part_leasts.field-0.0 c.from_residual.ensures.1
    (leasts_refused _ _ _ c.args.name.now c.args.first ns _ c.loop-p.p _ c.part.ensures below c.loop-p.invariant c.in_err-add_part_leasts.ensures)

pub loop-p-preserved : goal.loop-p-preserved
loop-p-preserved c =
    let ns = c.args.numbers.now in
    let below : c.loop-p.p < part_count (length ns) = subst (λ (n : ℕ). c.loop-p.p < n) (c.part_count-p-end.ensures ∙ ap part_count c.len.ensures.count) c.loop-p-test.true in
    leasts_added _ _ _ c.args.name.now c.args.first ns _ c.loop-p.p _ c.part.ensures below c.loop-p.invariant c.in_ok-add_part_leasts.ensures
