use Rattle.std.proofs.Common.{ℕ, List, ◌==◌, ◌++◌, ◌∷◌, [], not, filter, get_or, ap, sym, ◌∙◌}
use Rattle.std.proofs.lemmas.List.{take_all}
use Rattle.std.proofs.lemmas.List.Elements.{filter_more}
use Rattle.pdl_affine.proofs.sizing.squeeze.Goals as goal

pub loop-size-preserved : goal.loop-size-preserved
loop-size-preserved c =
    c.in_ok-put_unless_one.ensures
    ∙ ap (λ (sizes : List ℕ). sizes ++ filter (λ d. not (d == 1)) (get_or c.args.parent.now c.loop-size.size-index 0 ∷ [])) c.loop-size.invariant
    ∙ sym (filter_more (λ d. not (d == 1)) c.args.parent.now c.loop-size.size-index 0 c.loop-size-test.true)

pub returns : goal.returns
returns c = c.loop-size.invariant ∙ ap (filter (λ d. not (d == 1))) (take_all c.loop-size.size-index c.args.parent.now c.loop-size-test.false)
