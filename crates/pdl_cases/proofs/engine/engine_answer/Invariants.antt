use Rattle.pdl_cases.proofs.engine.engine_answer.Given as goal

-- the ledger is the one that was made here
abbrev pub ghosts-run : goal.ghosts-run
ghosts-run a = record { name = a.blank.name; parts = a.blank.parts }
