-- What was there before stays in front.
use Rattle.pdl_print.proofs.PieceFronts.{begins_then}
use Rattle.pdl_print.proofs.pieces.push_elements.Goals as goal

pub returns-then-is_empty-clause-front : goal.returns-then-is_empty-clause-front
returns-then-is_empty-clause-front c = begins_then _ _ _ c.in_ok-push_number.ensures.front c.push_bracket.ensures.front

pub returns-clause-front : goal.returns-clause-front
returns-clause-front c = begins_then _ _ _ c.in_ok-push_bracket.ensures.front c.push_block.ensures.front
