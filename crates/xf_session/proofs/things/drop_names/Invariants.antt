-- what stands before the place is live, and the others were not
use Rattle.std.proofs.Common.{◌≡◌, ◌-◌, length}
use Rattle.xf_engine.specs.State.{group_ids, is_taken}
use Rattle.xf_session.proofs.Sifted.{PassTo}
use Rattle.xf_session.specs.Command.{live_groups}
use Rattle.xf_session.proofs.things.drop_names.Given as goal

abbrev pub invariant-loop-place : goal.invariant-loop-place
invariant-loop-place l = record {
  same : live_groups l.cross l.groups ≡ live_groups l.cross l.initial.groups;
  pass : PassTo (λ entry. is_taken (group_ids l.cross.groups) entry.1.0) l.groups l.place;
}

abbrev pub decreases-loop-place : goal.decreases-loop-place
decreases-loop-place l = length l.groups - l.place
