-- Each clause is a lemma on sessions.
use Rattle.xf_model.proofs.ReplayedLines.{session_text-append, refusals-le-number}
use Rattle.xf_model.proofs.laws.replayed_lines.Goals as goal

pub returns-clause-begun : goal.returns-clause-begun
returns-clause-begun g c = λ command written state xs ys. session_text-append command written state xs ys

pub returns-clause-refusals : goal.returns-clause-refusals
returns-clause-refusals g c = λ command written state lines. refusals-le-number command written state lines
