use Rattle.xf_group_cases.proofs.bounds.greatest_sums.Given as goal

-- the example counts its steps in the ledger of its blank
abbrev pub ghosts-see_sums : goal.ghosts-see_sums
ghosts-see_sums g a = record { name = a.blank.name; parts = a.blank.parts }
