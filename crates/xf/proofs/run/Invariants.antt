use Rattle.xf.proofs.run.Given as goal

-- a run counts its steps in the ledger of its own blank
abbrev pub ghosts-run_counted : goal.ghosts-run_counted
ghosts-run_counted g a = record { name = a.blank.name; parts = a.blank.parts }
