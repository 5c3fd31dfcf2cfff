-- Those counted so far and those in the bytes that are left are all.
use Rattle.std.proofs.Common.{◌≡◌, ◌≤◌, ◌+◌, drop}
use Rattle.xf_members.specs.Count.{openers}
use Rattle.xf_members.specs.declared.count.TextState.TheVariants.{Outside}
use Rattle.xf_members.proofs.count.has_more_openers.Given as goal

abbrev pub invariant-loop-byte : goal.invariant-loop-byte
invariant-loop-byte l = record {
  count : l.count + openers l.state (drop l.byte-index l.bytes) ≡ openers Outside l.bytes;
  few : l.count ≤ l.limit;
}
