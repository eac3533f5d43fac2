-- What was there before stays in front.
use Rattle.pdl_print.proofs.PieceFronts.{begins_by, begins_then}
use Rattle.pdl_print.proofs.pieces.push_info.Goals as goal

pub returns-in_err-push_sizes-clause-front : goal.returns-in_err-push_sizes-clause-front
returns-in_err-push_sizes-clause-front c =
    let first = begins_by _ _ _ c.in_ok-extend_from_slice.ensures.items in
    let second = begins_then _ _ _ first (begins_by _ _ _ c.in_ok-extend_from_slice-2.ensures.items) in
    let third = begins_then _ _ _ second (begins_by _ _ _ c.in_ok-extend_from_slice-3.ensures.items) in
    begins_then _ _ _ third c.in_err-push_sizes.ensures.front

pub returns-clause-front : goal.returns-clause-front
returns-clause-front c =
    let first = begins_by _ _ _ c.in_ok-extend_from_slice.ensures.items in
    let second = begins_then _ _ _ first (begins_by _ _ _ c.in_ok-extend_from_slice-2.ensures.items) in
    let third = begins_then _ _ _ second (begins_by _ _ _ c.in_ok-extend_from_slice-3.ensures.items) in
    begins_then _ _ _ (begins_then _ _ _ third c.in_ok-push_sizes.ensures.front) (begins_by _ _ _ c.in_ok-push.ensures.items)
