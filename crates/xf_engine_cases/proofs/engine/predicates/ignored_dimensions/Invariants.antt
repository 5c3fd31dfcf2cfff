use Rattle.xf_engine_cases.proofs.engine.predicates.ignored_dimensions.Given as goal

-- the example counts its steps in the ledger of its blank
abbrev pub ghosts-see_ignored : goal.ghosts-see_ignored
ghosts-see_ignored g a = record { name = a.blank.name; parts = a.blank.parts }
