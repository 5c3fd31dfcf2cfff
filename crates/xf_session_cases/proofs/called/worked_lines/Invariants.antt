use Rattle.xf_session_cases.proofs.called.worked_lines.Given as goal

-- the lines count their steps in the ledger of their blank
abbrev pub ghosts-see_worked : goal.ghosts-see_worked
ghosts-see_worked g a = record { name = a.blank.name; parts = a.blank.parts }
