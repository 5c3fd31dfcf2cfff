-- none of the names before has the id
use Rattle.std.proofs.Common.{◌==◌}
use Rattle.xf_session.proofs.NamedIds.{NoneBefore}
use Rattle.xf_session.proofs.session.Session.form.Given as goal

abbrev pub invariant-loop-place : goal.invariant-loop-place
invariant-loop-place l = NoneBefore (λ entry. entry.1.id.0 == l.id.0) l.self-inside.dimensions l.place
