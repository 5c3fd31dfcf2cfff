use Rattle.xf_engine_cases.proofs.engine.values.each_change.Given as goal

-- the example counts its steps in the ledger of its blank
abbrev pub ghosts-see_changes : goal.ghosts-see_changes
ghosts-see_changes g a = record { name = a.blank.name; parts = a.blank.parts }
