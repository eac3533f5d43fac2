use Rattle.std.proofs.Common.{sym, ◌∙◌, ap}
use Rattle.pdl_nodes.specs.Holds.{hold_at}
use Rattle.pdl_nodes.specs.Rows.{without}
use Rattle.pdl_nodes.proofs.holds.insert.Goals as goal
use Rattle.pdl_nodes.proofs.RowFinds.{has_below}
use Rattle.pdl_nodes.proofs.NumberedLookups.{is_above}
use Rattle.pdl_nodes.proofs.HoldsReached.{no_hold, beside_same}
use Rattle.pdl_nodes.proofs.RowRests.{without_newest}

pub insert-requires-clause-new_root : goal.insert-requires-clause-new_root
insert-requires-clause-new_root c = c.requires.new_root

pub insert-requires-clause-unmarked : goal.insert-requires-clause-unmarked
insert-requires-clause-unmarked c = c.requires.unmarked

pub insert-requires-2 : goal.insert-requires-2
insert-requires-2 c = record { above = is_above c.args.id c.args.holds.now (λ v h. has_below c.args.table.now c.args.id v c.requires.below (sym (c.requires.beside.numbers v) ∙ h)) }

pub returns-in-Err-clause-err : goal.returns-in-Err-clause-err
returns-in-Err-clause-err c = c.remove.ensures.rows ∙ ap (without c.args.id) c.in_ok-insert.ensures.ok ∙ without_newest c.args.id c.args.node c.args.table.now c.requires.below

pub returns-in-Err-clause-beside : goal.returns-in-Err-clause-beside
returns-in-Err-clause-beside c =
    beside_same c.args.table.now c.remove.new.self c.args.holds.now c.insert-2.new.self c.args.id c.requires.beside c.requires.below
    (c.remove.ensures.rows ∙ ap (without c.args.id) c.in_ok-insert.ensures.ok ∙ without_newest c.args.id c.args.node c.args.table.now c.requires.below) (ap (λ hs. hold_at hs c.args.id) c.in-Err.ensures.err ∙ no_hold c.args.table.now c.args.holds.now c.args.id c.requires.beside c.requires.below) c.insert-2.ensures.others
