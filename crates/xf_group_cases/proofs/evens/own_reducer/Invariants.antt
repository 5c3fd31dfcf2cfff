use Rattle.xf_group_cases.proofs.evens.own_reducer.Given as goal

-- the example counts its steps in the ledger of its blank
abbrev pub ghosts-see_evens : goal.ghosts-see_evens
ghosts-see_evens g a = record { name = a.blank.name; parts = a.blank.parts }
