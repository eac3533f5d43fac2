use Rattle.std.proofs.Common.{◌+◌, ◌<◌, sym, subst}
use Rattle.pdl_nodes.specs.Holds.{going}
use Rattle.pdl_nodes.proofs.upward.note_parent.Goals as goal
use Rattle.pdl_nodes.proofs.HoldsRising.{noted_none, noted_some}

pub note-requires : goal.note-requires
note-requires c = subst (λ n. going c.args.holds.now c.in-Some.id < n) (sym c.children.ensures) (c.requires c.in-Some.id c.in-Some.is)

pub returns-in-Some : goal.returns-in-Some
returns-in-Some c = noted_some (λ n. n + 1) c.args.holds.now c.note.new.self c.args.parent c.in-Some.id c.in-Some.is c.note.ensures.here c.note.ensures.others

pub returns-in-None : goal.returns-in-None
returns-in-None c = noted_none (λ n. n + 1) c.args.holds.now c.args.parent c.in-None.is
