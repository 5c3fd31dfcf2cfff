-- the steps are counted in the ledger of a blank of their own
use Rattle.xf_session.proofs.session.Session.new.Given as goal

abbrev pub ghosts-new_counted : goal.ghosts-new_counted
ghosts-new_counted a = record { name = a.blank.name; parts = a.blank.parts }
