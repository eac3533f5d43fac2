use Rattle.std.proofs.Common.{ℕ, List, ◌++◌, ◌∷◌, [], map, take, get_or, ap, sym, ◌∙◌}
use Rattle.std.proofs.lemmas.List.{map_more, take_all}
use Rattle.pdl_affine.proofs.sizing.arrange.Goals as goal

pub loop-place-preserved : goal.loop-place-preserved
loop-place-preserved c =
    c.in_ok-put.ensures
    ∙ ap (λ (sizes : List ℕ). sizes ++ c.size_at.result ∷ []) c.loop-place.invariant
    ∙ ap (λ (n : ℕ). map (λ i. get_or c.args.parent.now i 0) (take c.loop-place.place-index c.args.order.now) ++ n ∷ []) c.size_at.ensures
    ∙ sym (map_more (λ i. get_or c.args.parent.now i 0) c.args.order.now c.loop-place.place-index 0 c.loop-place-test.true)

pub returns : goal.returns
returns c = c.loop-place.invariant ∙ ap (map (λ i. get_or c.args.parent.now i 0)) (take_all c.loop-place.place-index c.args.order.now c.loop-place-test.false)
