-- One number more.
use Rattle.std.proofs.Common.{FitsSigned, arith, ◌∙◌}
use Rattle.std.proofs.lemmas.Int.{to_z-of_z}
use Rattle.std.specs.Int.{w64}
use Rattle.pdl_numbers.proofs.Summing.{sum_more}
use Rattle.pdl_numbers.proofs.sums.sum_from.Goals as goal

pub loop-j-preserved : goal.loop-j-preserved
loop-j-preserved g c =
    let fits : FitsSigned w64 c.add-sum.result = record { sfits = c.add-sum.type_inv } in
    let number : FitsSigned w64 c.get-number.result = record { sfits = c.get-number.type_inv } in
    to_z-of_z w64 c.add-sum.result fits ∙ c.add-sum.ensures
    ∙ sum_more c.args.numbers.now c.args.start c.args.count c.loop-j.j _ _ (omega (arith, c.requires)) (omega arith) c.loop-j.invariant (to_z-of_z w64 c.get-number.result number ∙ c.get-number.ensures.value)
