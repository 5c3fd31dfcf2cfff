-- What was read so far is there, and was counted; at most one byte is beyond the limit.
use Rattle.std.proofs.Common.{◌≡◌, ◌⊎◌, ◌+◌, ◌-◌, ◌≤◌, length}
use Rattle.std.specs.Io.KnownBytes.{Consumes}
use Rattle.std.specs.Prelude.{IsOk}
use Rattle.xf_outside.specs.Count.{RoseExactly}
use Rattle.xf_outside.specs.Fetch.{bytes_left}
use Rattle.xf_outside.proofs.file_depot.read_whole.Given as goal

abbrev pub invariant-loop-piece : goal.invariant-loop-piece
invariant-loop-piece g l =
    let left = bytes_left g.F.Read.remaining in
    record {
      within : length l.bytes.items ≤ l.limit + 1;
      whole : Consumes (left l.fn.file) (left l.file) l.bytes.items;
      opened : ((length l.bytes.items ≡ 0) × (l.file ≡ l.fn.file)) ⊎ (IsOk l.fn.file.opened × IsOk l.file.opened);
      counted : l.file.counts ≡ record l.fn.file.counts { taken = l.file.counts.taken };
      exact : RoseExactly l.fn.file.counts.taken l.file.counts.taken (length l.bytes.items);
    }

abbrev pub decreases-loop-piece : goal.decreases-loop-piece
decreases-loop-piece g l = l.limit + 1 - length l.bytes.items
