use Rattle.pdl_shell.proofs.generated.round_line.Goals as goal

pub returns-in-0 : goal.returns-in-0
returns-in-0 c = rw c.in-0.is c.column_line.ensures

pub returns-in-1 : goal.returns-in-1
returns-in-1 c = rw c.in-1.is c.index_line.ensures

pub returns-in-2 : goal.returns-in-2
returns-in-2 c = rw c.in-2.is c.overlap_line.ensures
