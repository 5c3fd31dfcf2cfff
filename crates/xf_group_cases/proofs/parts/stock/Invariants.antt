use Rattle.xf_group_cases.proofs.parts.stock.Given as goal

-- the example counts its steps in the ledger of its blank
abbrev pub ghosts-see_stock : goal.ghosts-see_stock
ghosts-see_stock g a = record { name = a.blank.name; parts = a.blank.parts }
