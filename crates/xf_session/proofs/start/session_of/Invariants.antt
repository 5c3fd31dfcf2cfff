-- the steps are counted in the ledger of a blank of their own
use Rattle.xf_session.proofs.start.session_of.Given as goal

abbrev pub ghosts-session_counted : goal.ghosts-session_counted
ghosts-session_counted a = record { name = a.blank.name; parts = a.blank.parts }
