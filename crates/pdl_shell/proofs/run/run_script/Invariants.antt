use Rattle.pdl_shell.proofs.run.run_script.Given as goal

-- the ledger is the one that was made here
abbrev pub ghosts-run_parts-L-Ledger : goal.ghosts-run_parts-L-Ledger
ghosts-run_parts-L-Ledger g a = record { name = a.blank.name; parts = a.blank.parts }

abbrev pub ghosts-run_parts-M-Ledger : goal.ghosts-run_parts-M-Ledger
ghosts-run_parts-M-Ledger g a = record { name = a.runs.name; parts = a.runs.parts }
