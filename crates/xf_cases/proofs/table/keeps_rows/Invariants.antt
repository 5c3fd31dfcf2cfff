use Rattle.xf_cases.proofs.table.keeps_rows.Given as goal

-- the example counts its steps in the ledger of its blank
abbrev pub ghosts-see_kept : goal.ghosts-see_kept
ghosts-see_kept g a = record { name = a.blank.name; parts = a.blank.parts }
