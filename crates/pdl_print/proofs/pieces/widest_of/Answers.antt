-- One number more.
use Rattle.std.proofs.Common.{ℤ, ℕ, pos, length, max, get_or, rules, ap, ap₂, sym, ◌∙◌, FitsSigned}
use Rattle.std.specs.Int.{w64}
use Rattle.std.specs.Fmt.{signed_decimal}
use Rattle.std.proofs.lemmas.List.Sums.{fold_more}
use Rattle.std.proofs.lemmas.Int.{to_z-of_z}
use Rattle.pdl_print.proofs.PrintedTexts.{ord_max_is}
use Rattle.pdl_print.proofs.pieces.widest_of.Goals as goal

pub loop-number-preserved : goal.loop-number-preserved
loop-number-preserved c =
    let f : ℕ → ℤ → ℕ = λ w n. max w (length (signed_decimal n)) in
    let z : ℤ = get_or c.args.numbers.now c.loop-number.number-index (pos 0) in
    let fits : FitsSigned w64 z = search rules in
    c.max-widest.ensures ∙ ord_max_is c.loop-number.widest (length c.format.result.now)
    ∙ ap₂ max c.loop-number.invariant (ap length c.format.ensures.text ∙ ap (λ (y : ℤ). length (signed_decimal y)) (to_z-of_z w64 z fits))
    ∙ sym (fold_more f 0 c.args.numbers.now c.loop-number.number-index (pos 0) c.loop-number-test.true)
