use Rattle.pdl_cases.proofs.session.run_over.Given as goal

-- the ledger is the one that was made here
abbrev pub ghosts-run_pieces-L-Ledger : goal.ghosts-run_pieces-L-Ledger
ghosts-run_pieces-L-Ledger g a = record { name = a.blank.name; parts = a.blank.parts }

abbrev pub ghosts-run_pieces-M-Ledger : goal.ghosts-run_pieces-M-Ledger
ghosts-run_pieces-M-Ledger g a = record { name = a.runs.name; parts = a.runs.parts }
