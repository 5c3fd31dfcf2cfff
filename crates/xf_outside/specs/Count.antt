-- Counts that are kept in 64 bits.
use Rattle.std.specs.Prelude.{◌≡◌, ℕ, ◌+◌, ◌-◌, ◌^◌, ◌≤◌, min, Result, Ok, Err}
use Rattle.xf_outside.specs.declared.depot.FetchFault.{FetchFault}
use Rattle.xf_outside.specs.declared.depot.FetchFault.TheVariants as fetch
use Rattle.xf_outside.specs.declared.sink.PutFault.{PutFault}
use Rattle.xf_outside.specs.declared.sink.PutFault.TheVariants as put

-- a count with so many more, which stays at 2^64 - 1 once it is there
abbrev pub count_after : ℕ → ℕ → ℕ
count_after before by = min (before + by) (2 ^ 64 - 1)

-- a count rose by so many at least; at 2^64 - 1 it is taken as one that rose
abbrev pub Rose : ℕ → ℕ → ℕ → Type 0
Rose before now by = count_after before by ≤ now

-- a count rose by so many, and by no more
abbrev pub RoseExactly : ℕ → ℕ → ℕ → Type 0
RoseExactly before now by = Rose before now by × (now ≤ before + by)

-- an error is counted once, and nothing is where there was none
abbrev pub CountsError : {X E : Type 0} → Result X E → ℕ → ℕ → Type 0
CountsError (Ok value) before now = now ≡ before
CountsError (Err error) before now = now ≡ count_after before 1

-- a failure of a fetch is counted once, and the count of faults stands still where none is answered
abbrev pub FaultsAfterFetch : {X : Type 0} → Result X FetchFault → ℕ → ℕ → Type 0
FaultsAfterFetch (Ok bytes) before now = now ≡ before
FaultsAfterFetch (Err fetch.Absent) before now = now ≡ before
FaultsAfterFetch (Err fetch.TooLong) before now = now ≡ before
FaultsAfterFetch (Err fetch.Failed) before now = RoseExactly before now 1
FaultsAfterFetch (Err fetch.OutOfMemory) before now = now ≡ before

-- a name that is not found is counted once, and the count of misses stands still where none is told
abbrev pub MissesAfterFetch : {X : Type 0} → Result X FetchFault → ℕ → ℕ → Type 0
MissesAfterFetch (Ok bytes) before now = now ≡ before
MissesAfterFetch (Err fetch.Absent) before now = RoseExactly before now 1
MissesAfterFetch (Err fetch.TooLong) before now = now ≡ before
MissesAfterFetch (Err fetch.Failed) before now = now ≡ before
MissesAfterFetch (Err fetch.OutOfMemory) before now = now ≡ before

-- a failure of a put is counted once, and the count of faults stands still where none is answered
abbrev pub FaultsAfterPut : {X : Type 0} → Result X PutFault → ℕ → ℕ → Type 0
FaultsAfterPut (Ok nothing) before now = now ≡ before
FaultsAfterPut (Err put.Failed) before now = RoseExactly before now 1
FaultsAfterPut (Err put.OutOfMemory) before now = now ≡ before
