use Rattle.pdl_world.proofs.PartLawLemmas.{wholes_are_parts, parts_join, nothing_stays, parts_leave_looks, parts_read, parts_leave_others, parts_leave_later, parts_leave_rest, parts_assign_soundly}
use Rattle.pdl_world.proofs.part_laws.Goals as goal

pub returns-clause-wholes : goal.returns-clause-wholes
returns-clause-wholes c = wholes_are_parts

pub returns-clause-join : goal.returns-clause-join
returns-clause-join c = parts_join

pub returns-clause-nothing : goal.returns-clause-nothing
returns-clause-nothing c = nothing_stays

pub returns-clause-looks : goal.returns-clause-looks
returns-clause-looks c = parts_leave_looks

pub returns-clause-reads : goal.returns-clause-reads
returns-clause-reads c = parts_read

pub returns-clause-others : goal.returns-clause-others
returns-clause-others c = parts_leave_others

pub returns-clause-later : goal.returns-clause-later
returns-clause-later c = parts_leave_later c.shape_laws.ensures.writes

pub returns-clause-rest : goal.returns-clause-rest
returns-clause-rest c = parts_leave_rest c.shape_laws.ensures.writes

pub returns-clause-sound : goal.returns-clause-sound
returns-clause-sound c = parts_assign_soundly c.shape_laws.ensures.writes
