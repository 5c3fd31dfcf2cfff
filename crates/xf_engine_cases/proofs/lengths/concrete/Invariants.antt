use Rattle.xf_engine_cases.proofs.lengths.concrete.Given as goal

-- the example counts its steps in the ledger of its blank
abbrev pub ghosts-see_lengths : goal.ghosts-see_lengths
ghosts-see_lengths g a = record { name = a.blank.name; parts = a.blank.parts }
