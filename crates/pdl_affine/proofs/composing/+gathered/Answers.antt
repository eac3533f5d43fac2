use Rattle.std.proofs.Common.{◌≡◌, ◌∙◌, ℤ, pos, ◌+ℤ◌, ◌*ℤ◌, rules, w32, w64, get_or}
use mir.Syntax.{w128}
use mir.Val.{SFits}
use Rattle.std.proofs.lemmas.Int.{to_z-of_z}
use Rattle.pdl_affine.proofs.CourseMoves.{gathered_front}
use Rattle.pdl_affine.proofs.composing.+gathered.Goals as goal

pieces : (s t t' r r' x x' f f' e e' g : ℤ) → s ≡ t' +ℤ r' → t' ≡ t → r' ≡ r → t ≡ x' *ℤ f' → x' ≡ x → f' ≡ f → f ≡ e' → e' ≡ e → g ≡ (x *ℤ e) +ℤ r → s ≡ g
pieces s t t' r r' x x' f f' e e' g a b c d i j k l m = cc

pub returns-in-len1-up-courses-clause-value : goal.returns-in-len1-up-courses-clause-value
returns-in-len1-up-courses-clause-value t c =
    let sum : SFits w128 c.sum.result = search rules in
    let times : SFits w128 c.times.result = search rules in
    let rest : SFits w128 c.gathered-rest.result = search rules in
    let inc : SFits w32 (get_or c.args.incs.now 0 (pos 0)) = search rules in
    let from : SFits w64 c.from.result = search rules in
    let step : SFits w32 c.step_along-step.result = search rules in
    to_z-of_z w128 c.sum.result sum
    ∙ pieces _ _ _ _ _ _ _ _ _ _ _ _ c.sum.ensures.value (to_z-of_z w128 c.times.result times) (to_z-of_z w128 c.gathered-rest.result rest ∙ c.gathered-rest.ensures.value) c.times.ensures.value
    (to_z-of_z w32 (get_or c.args.incs.now 0 (pos 0)) inc) (to_z-of_z w64 c.from.result from) c.from.ensures (to_z-of_z w32 c.step_along-step.result step ∙ c.step_along-step.ensures)
    (gathered_front c.args.incs.now c.args.courses.now _ c.args.dimension c.in-len1-up.len_at_least c.in-len1-up-courses.len_at_least)
