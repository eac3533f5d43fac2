use Rattle.pdl_tests.proofs.buf.gathers_by_steps.Given as goal

-- the ledger is the one that was made here
abbrev pub ghosts-gathered_by_steps : goal.ghosts-gathered_by_steps
ghosts-gathered_by_steps g a = record { name = a.blank.name; parts = a.blank.parts }
