use Rattle.std.proofs.Common.{◌∙◌, ap, sym, Err, Some, Option, ℕ}
use Rattle.pdl_shape.specs.Refusals.{refusal_of}
use Rattle.pdl_choice.specs.Choice.{refusal_past}
use Rattle.pdl_choice.proofs.IndexDims.{index_dims-large, refused_so}
use Rattle.pdl_choice.proofs.indices.looked_up.Goals as goal

pub returns-in-Err-TooLarge-clause-dims : goal.returns-in-Err-TooLarge-clause-dims
returns-in-Err-TooLarge-clause-dims c =
    refused_so _ _ _ (c.too_large.ensures.refusal ∙ ap (λ (w : Option ℕ). Some (refusal_past w)) c.first_uncounted-outside.ensures.first)
    (index_dims-large c.args.parent.now c.in-Some.size.now c.in-Some.rest.now c.args.ind_dims.now c.args.ind.now c.in-Some.ensures.cases.0 c.requires.limits c.broadcast_dims.ensures.index_few (ap (λ f. Err (refusal_of f)) (sym c.in-Err-TooLarge.field-0-is) ∙ c.in-Err-TooLarge.ensures.joined))
