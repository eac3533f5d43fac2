-- Each place is changed once, so the values are those of all numbers that were there.
use Rattle.std.proofs.Common.{ap, ◌∙◌}
use Rattle.pdl_shape.specs.Shape.{size_of}
use Rattle.pdl_shape.specs.Triple.{Triple}
use Rattle.pdl_numbers.specs.Updates.{change, updated}
use Rattle.pdl_numbers.specs.Writes.{placed_from}
use Rattle.pdl_numbers.proofs.UpdateLemmas.{shown_changed}
use Rattle.pdl_numbers.proofs.updates.update_shown.Goals as goal

pub returns-then-placement : goal.returns-then-placement
returns-then-placement g c =
    shown_changed (updated g.T.PackedType.ty c.args.update) c.args.placement.now c.args.numbers.now c.update_in_order.new.numbers c.requires.once
    (c.update_in_order.ensures ∙ ap (λ (t : Triple). change (updated g.T.PackedType.ty c.args.update) (placed_from t 0 (size_of t.dims)) c.args.numbers.now) c.triple.ensures)

pub returns-else-placement : goal.returns-else-placement
returns-else-placement g c =
    shown_changed (updated g.T.PackedType.ty c.args.update) c.args.placement.now c.args.numbers.now c.update_rows.new.numbers c.requires.once
    (c.update_rows.ensures ∙ ap (λ (t : Triple). change (updated g.T.PackedType.ty c.args.update) (placed_from t 0 (size_of t.dims)) c.args.numbers.now) c.triple-else-placement.ensures)
