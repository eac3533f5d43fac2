use Rattle.pdl_tests.proofs.buf.moves.Given as goal

-- the ledger is the one that was made here
abbrev pub ghosts-moved : goal.ghosts-moved
ghosts-moved g a = record { name = a.blank.name; parts = a.blank.parts }
