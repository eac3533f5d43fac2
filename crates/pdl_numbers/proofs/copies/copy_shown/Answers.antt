-- What is read at the places that a placement shows is what it shows.
use Rattle.pdl_numbers.proofs.CopyLemmas.{all_copied}
use Rattle.pdl_numbers.proofs.copies.copy_shown.Goals as goal

pub returns-then-shown : goal.returns-then-shown
returns-then-shown g c =
    all_copied c.args.to.now c.args.shown.now c.triple.result.now c.triple-then-shown.result.now c.args.from.now c.args.numbers.now c.copy_in_order.new.numbers c.triple.ensures c.triple-then-shown.ensures c.requires.same_dims c.copy_in_order.ensures

pub returns-else-to : goal.returns-else-to
returns-else-to g c =
    all_copied c.args.to.now c.args.shown.now c.triple-else-to.result.now c.triple-else-to-2.result.now c.args.from.now c.args.numbers.now c.copy_rows.new.numbers c.triple-else-to.ensures c.triple-else-to-2.ensures c.requires.same_dims c.copy_rows.ensures
