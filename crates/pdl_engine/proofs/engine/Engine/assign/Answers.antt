-- A whole assignment is the part from the first position on.
use Rattle.std.proofs.Common.{sym, ◌∙◌}
use Rattle.pdl_engine.proofs.engine.Engine.assign.Goals as goal

pub returns-clause-world : goal.returns-clause-world
returns-clause-world g c =
    c.assign_part.ensures.world ∙ sym (c.part_laws.ensures.wholes c.args.self.now.world c.args.id c.args.values.now)
