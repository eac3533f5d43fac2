use Rattle.pdl_tests.proofs.buf.copies_by_steps.Given as goal

-- the ledger is the one that was made here
abbrev pub ghosts-copied_by_steps : goal.ghosts-copied_by_steps
ghosts-copied_by_steps g a = record { name = a.blank.name; parts = a.blank.parts }
