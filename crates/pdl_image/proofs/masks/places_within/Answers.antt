use Rattle.std.proofs.Common.{ap, subst, sym, ◌∙◌}
use Rattle.std.specs.List.Sorted.{IsNonDecreasing}
use Rattle.std.proofs.lemmas.List.Sorted.{IsNonDecreasingBy-drop}
use Rattle.pdl_image.specs.Stems.{is_in}
use Rattle.pdl_image.proofs.DumpMasks.{in_earlier, in_later}
use Rattle.pdl_image.proofs.masks.places_within.Goals as goal

pub count_below-requires-2 : goal.count_below-requires-2
count_below-requires-2 c =
    subst IsNonDecreasing (sym c.split_at.ensures.back) (IsNonDecreasingBy-drop (λ q. q) _ _ c.requires)

pub returns : goal.returns
returns c =
    λ p low high. ap (λ ps. is_in ps p) c.split_at-2.ensures.front
    ∙ in_earlier _ _ c.args.end p c.count_below-2.ensures.past high
    ∙ ap (λ ps. is_in ps p) c.split_at.ensures.back
    ∙ in_later c.args.places.now _ c.args.first p c.count_below.ensures.below low
