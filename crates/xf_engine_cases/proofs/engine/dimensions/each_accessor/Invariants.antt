use Rattle.xf_engine_cases.proofs.engine.dimensions.each_accessor.Given as goal

-- the example counts its steps in the ledger of its blank
abbrev pub ghosts-see_dimensions : goal.ghosts-see_dimensions
ghosts-see_dimensions g a = record { name = a.blank.name; parts = a.blank.parts }
