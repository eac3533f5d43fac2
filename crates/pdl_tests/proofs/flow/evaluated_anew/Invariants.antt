use Rattle.pdl_tests.proofs.flow.evaluated_anew.Given as goal

-- the ledgers are those that were made here
abbrev pub ghosts-evaluated-L-Ledger : goal.ghosts-evaluated-L-Ledger
ghosts-evaluated-L-Ledger a = record { name = a.steps.name; parts = a.steps.parts }

abbrev pub ghosts-evaluated-M-Ledger : goal.ghosts-evaluated-M-Ledger
ghosts-evaluated-M-Ledger a = record { name = a.runs.name; parts = a.runs.parts }
