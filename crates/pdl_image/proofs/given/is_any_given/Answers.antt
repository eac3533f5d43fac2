use Rattle.std.proofs.Common.{◌*◌, length-take, drop, length, arith, ap, sym, ◌∙◌}
use Rattle.std.specs.List.{list_any}
use Rattle.pdl_choice.specs.Where.{is_set}
use Rattle.pdl_image.specs.declared.TheConstants.{PART}
use Rattle.pdl_image.specs.Dump.{as_listed}
use Rattle.pdl_image.proofs.DumpParts.{any_found, any_more}
use Rattle.pdl_image.proofs.given.is_any_given.Goals as goal

pub part_has_given-requires : goal.part_has_given-requires
part_has_given-requires c = omega (arith, ap length c.part.ensures, length-take PART (drop (PART * c.loop-p.p) c.args.numbers.now))

pub returns-then-part_has_given : goal.returns-then-part_has_given
returns-then-part_has_given c =
    sym (any_found (λ n. is_set (as_listed n)) c.args.numbers.now c.loop-p.p c.loop-p.invariant
    (ap (list_any (λ n. is_set (as_listed n))) (sym c.part.ensures) ∙ sym c.part_has_given.ensures ∙ c.if-part_has_given.true))

pub loop-p-preserved : goal.loop-p-preserved
loop-p-preserved c =
    any_more (λ n. is_set (as_listed n)) c.args.numbers.now c.loop-p.p c.loop-p.invariant
    (ap (list_any (λ n. is_set (as_listed n))) (sym c.part.ensures) ∙ sym c.part_has_given.ensures ∙ c.if-part_has_given.false)
