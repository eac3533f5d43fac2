use Rattle.pdl_world.proofs.BaseLawStays.{assignments_leave_bases}
use Rattle.pdl_world.proofs.WorldNewest.{paths_stay, numbers_stay}
use Rattle.pdl_world.proofs.WorldLawsProved.{looks_stay, reads, reads_back, assigns_soundly}
use Rattle.pdl_world.proofs.assignment_laws.Goals as goal

pub returns-clause-looks : goal.returns-clause-looks
returns-clause-looks c = looks_stay

pub returns-clause-paths : goal.returns-clause-paths
returns-clause-paths c = paths_stay

pub returns-clause-numbers : goal.returns-clause-numbers
returns-clause-numbers c = numbers_stay

pub returns-clause-reads : goal.returns-clause-reads
returns-clause-reads c = reads

pub returns-clause-back : goal.returns-clause-back
returns-clause-back c = reads_back c.shape_laws.ensures.writes

pub returns-clause-sound : goal.returns-clause-sound
returns-clause-sound c = assigns_soundly c.shape_laws.ensures.writes

pub returns-clause-bases : goal.returns-clause-bases
returns-clause-bases c = assignments_leave_bases
