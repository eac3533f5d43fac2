use Rattle.std.proofs.Common.{◌<◌, refl, sym, subst}
use Rattle.pdl_nodes.specs.Holds.{going}
use Rattle.pdl_nodes.proofs.upward.let_parent_up.Goals as goal
use Rattle.pdl_nodes.proofs.HoldsAlone.{view_rising, view_risen, view_room}

pub note-requires : goal.note-requires
note-requires c =
    subst (λ n. going c.args.holds.now c.args.parent < n) (sym c.children.ensures) (view_room c.args.table.now c.args.holds.now c.args.id c.args.parent c.requires.forgotten c.requires.parent)

pub let_up-requires-clause-live : goal.let_up-requires-clause-live
let_up-requires-clause-live c =
    (view_rising c.args.table.now c.args.holds.now c.note.new.self c.args.id c.args.parent c.requires.forgotten c.requires.parent c.note.ensures.here c.note.ensures.others).live c.args.parent refl

pub let_up-requires-clause-marked : goal.let_up-requires-clause-marked
let_up-requires-clause-marked c =
    (view_rising c.args.table.now c.args.holds.now c.note.new.self c.args.id c.args.parent c.requires.forgotten c.requires.parent c.note.ensures.here c.note.ensures.others).marked

pub returns : goal.returns
returns c =
    view_risen c.args.table.now c.args.holds.now c.note.new.self c.let_up.new.holds c.args.id c.args.parent c.requires.forgotten
    (view_rising c.args.table.now c.args.holds.now c.note.new.self c.args.id c.args.parent c.requires.forgotten c.requires.parent c.note.ensures.here c.note.ensures.others) c.let_up.ensures.marked c.let_up.ensures.fewer c.let_up.ensures.loose
