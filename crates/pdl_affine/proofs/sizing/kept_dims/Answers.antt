use Rattle.std.proofs.Common.{ap, sym, ◌∙◌, ◌++◌, ◌∷◌, [], filter, not, ◌||◌, ◌==◌}
use Rattle.pdl_affine.specs.Views.{lists, lowest_of}
use Rattle.pdl_affine.proofs.ViewSizes.{kept_next}
use Rattle.pdl_affine.proofs.sizing.kept_dims.Goals as goal

pub loop-place-preserved : goal.loop-place-preserved
loop-place-preserved c =
    c.in_ok-put_kept.ensures
    ∙ ap (λ r. r ++ filter (λ i. not (lists c.args.listed.now i) || (i == lowest_of c.args.listed.now)) (c.loop-place.place ∷ [])) c.loop-place.invariant
    ∙ sym (kept_next c.args.listed.now c.loop-place.place)
