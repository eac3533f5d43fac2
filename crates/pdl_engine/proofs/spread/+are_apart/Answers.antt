-- One dimension more, or one of a size of 0 or 1.
use Rattle.std.proofs.Common.{rules, ◌≡◌, ◌+◌, ◌-◌, ◌*◌, ◌∙◌, ap₂, arith}
use Rattle.std.specs.Prelude.{unsigned_abs}
use Rattle.pdl_engine.proofs.ApartLemmas.{past_first, on_first}
use Rattle.pdl_engine.proofs.spread.+are_apart.Goals as goal

pub returns-then-size-le1 : goal.returns-then-size-le1
returns-then-size-le1 t c = λ e.
    past_first c.args.reach c.in-Some-Some.size.now c.in-Some-Some.inc.now c.in-Some-Some.incs.now c.args.incs.now c.in-Some-Some.sizes.now c.args.sizes.now
    (search rules) (search rules) (omega (arith, c.if-size-le1.true)) (c.are_apart.ensures e)

pub returns-in-Some : goal.returns-in-Some
returns-in-Some t c = λ e.
    let step : c.from-step.result ≡ unsigned_abs c.in-Some-Some.inc.now = search rules in
    let most : c.from.result ≡ c.in-Some-Some.size.now - 1 = search rules in
    let sum : c.in-Some.reach ≡ c.args.reach + c.from-step.result * c.from.result = c.in-Some.ensures.1 in
    on_first c.args.reach c.in-Some.reach c.in-Some-Some.size.now c.in-Some-Some.inc.now c.in-Some-Some.incs.now c.args.incs.now c.in-Some-Some.sizes.now c.args.sizes.now
    (search rules) (search rules) (omega (arith, step, c.if-step-reach.false)) (sum ∙ ap₂ (λ a b. c.args.reach + a * b) step most) (c.are_apart-in-Some.ensures e)
