use Rattle.xf_engine_cases.proofs.engine.removals.each_tag.Given as goal

-- the example counts its steps in the ledger of its blank
abbrev pub ghosts-see_tags : goal.ghosts-see_tags
ghosts-see_tags g a = record { name = a.blank.name; parts = a.blank.parts }
