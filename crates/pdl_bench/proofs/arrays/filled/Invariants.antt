use Rattle.pdl_bench.proofs.arrays.filled.Given as goal

-- the ledger is the one that was made here
abbrev pub ghosts-counted : goal.ghosts-counted
ghosts-counted a = record { name = a.blank.name; parts = a.blank.parts }
