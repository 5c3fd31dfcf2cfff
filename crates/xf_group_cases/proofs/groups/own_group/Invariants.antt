use Rattle.xf_group_cases.proofs.groups.own_group.Given as goal

-- the example counts its steps in the ledger of its blank
abbrev pub ghosts-see_turns : goal.ghosts-see_turns
ghosts-see_turns g a = record { name = a.blank.name; parts = a.blank.parts }
