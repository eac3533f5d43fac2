use Rattle.pdl_tests.proofs.arrays.counted_anew.Given as goal

-- the ledger is the one that was made here
abbrev pub ghosts-counted : goal.ghosts-counted
ghosts-counted a = record { name = a.blank.name; parts = a.blank.parts }
