use Rattle.std.proofs.Common.{◌-◌}
use Rattle.pdl_nodes.proofs.upward.take_parent_note.Goals as goal
use Rattle.pdl_nodes.proofs.HoldsRising.{noted_none, noted_some}

pub returns-in-Some : goal.returns-in-Some
returns-in-Some c = noted_some (λ n. n - 1) c.args.holds.now c.take_note.new.self c.args.parent c.in-Some.id c.in-Some.is c.take_note.ensures.here c.take_note.ensures.others

pub returns-in-None : goal.returns-in-None
returns-in-None c = noted_none (λ n. n - 1) c.args.holds.now c.args.parent c.in-None.is
