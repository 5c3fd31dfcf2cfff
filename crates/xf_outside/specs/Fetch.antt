-- What a fetch from the files of the system reads and counts.
use Rattle.std.specs.Prelude.{ℕ, ◌==◌, ◌≤◌, if◌then◌else◌, List, length, Option, Result, Ok, Err, None, option_and_then}
use Rattle.std.specs.Result.{result_ok}
use Rattle.std.specs.Io.KnownBytes.{Consumes}
use Rattle.xf_outside.specs.Account.{DepotAccount}
use Rattle.xf_outside.specs.Count.{RoseExactly, count_after}
use Rattle.xf_outside.specs.declared.counted_file.CountedFile.{CountedFile}
use Rattle.xf_outside.specs.declared.counted_file.FetchCounts.{FetchCounts}
use Rattle.xf_outside.specs.declared.depot.FetchFault.{FetchFault}
use Rattle.xf_outside.specs.declared.depot.FetchFault.TheVariants as fault

-- what a depot of these counts tells of itself: no files
abbrev pub untold_account : FetchCounts → DepotAccount
untold_account counts = record { files = None; faults = counts.faults; misses = counts.misses; taken = counts.taken }

-- the counts after a read that gave so many bytes; one that gives none found the file at its end
abbrev pub counts_after_read : FetchCounts → ℕ → FetchCounts
counts_after_read before count =
    record before { taken = count_after before.taken count; ends = if count == 0 then count_after before.ends 1 else before.ends }

-- the counts after a fetch: each fault and each miss is counted once, and so is the end of a file that was read whole;
-- nothing else is but the bytes taken
abbrev pub counts_after : {X : Type 0} → Result X FetchFault → FetchCounts → ℕ → FetchCounts
counts_after (Ok bytes) before taken = record before { taken = taken; ends = count_after before.ends 1 }
counts_after (Err fault.Absent) before taken = record before { misses = count_after before.misses 1 }
counts_after (Err fault.TooLong) before taken = record before { taken = taken }
counts_after (Err fault.Failed) before taken = record before { faults = count_after before.faults 1; taken = taken }
counts_after (Err fault.OutOfMemory) before taken = record before { taken = taken }

-- the bytes that are left in a file, where it was opened and tells them
abbrev pub bytes_left : {F : Type 0} → (F → Option (List ℕ)) → CountedFile F → Option (List ℕ)
bytes_left remaining file = option_and_then remaining (result_ok file.opened)

-- a count rose by the number of bytes that a file lost, of which there are at most so many
abbrev pub CountsTaken : Option (List ℕ) → Option (List ℕ) → ℕ → ℕ → ℕ → Type 0
CountsTaken left_before left_now before now most =
    (got : List ℕ) × Consumes left_before left_now got × (length got ≤ most) × RoseExactly before now (length got)
