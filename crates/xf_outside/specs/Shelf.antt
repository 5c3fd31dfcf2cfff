-- What a depot in memory holds.
use Rattle.std.specs.Prelude.{ℕ, ◌+◌, List, Some, map, Vec}
use Rattle.std.specs.declared.alloc.Global.{Global}
use Rattle.std.specs.FinMap.{from_entries}
use Rattle.xf_outside.specs.Account.{DepotAccount, Files}
use Rattle.xf_outside.specs.Count.{count_after}
use Rattle.xf_outside.specs.declared.depot.FetchFault.{FetchFault}
use Rattle.xf_outside.specs.declared.depot.FetchFault.TheVariants.{Absent, TooLong, Failed, OutOfMemory}

-- files as pairs of a name and bytes, the numbers of the calls that fail, the calls so far, and the counts
pub record Shelf : Type 0 where
  pub files : List (List ℕ × List ℕ)
  pub failing : List ℕ
  pub calls : ℕ
  pub faults : ℕ
  pub misses : ℕ
  pub taken : ℕ

-- the names of files with their bytes
abbrev pub entries_of : List (List ℕ × Vec ℕ Global) → List (List ℕ × List ℕ)
entries_of files = map (λ file. (file.0, file.1.items)) files

-- the bytes of each file by its name; where a name stands twice the first file counts
abbrev pub file_map : List (List ℕ × List ℕ) → Files
file_map files = from_entries files

-- what a depot of this shelf tells of itself
abbrev pub shelf_account : Shelf → DepotAccount
shelf_account shelf = record { files = Some (file_map shelf.files); faults = shelf.faults; misses = shelf.misses; taken = shelf.taken }

-- what a call that is answered with a fault leaves: it is counted, and so is the fault
abbrev pub after_fault : Shelf → ℕ → FetchFault → Shelf
after_fault shelf limit Absent = record shelf { calls = count_after shelf.calls 1; misses = count_after shelf.misses 1 }
after_fault shelf limit TooLong = record shelf { calls = count_after shelf.calls 1; taken = count_after shelf.taken (limit + 1) }
after_fault shelf limit Failed = record shelf { calls = count_after shelf.calls 1; faults = count_after shelf.faults 1 }
after_fault shelf limit OutOfMemory = record shelf { calls = count_after shelf.calls 1 }
