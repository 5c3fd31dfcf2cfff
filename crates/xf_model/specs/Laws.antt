-- Laws of the definitions, for rows, keys and values of every type. `laws` in src/ carries each as a clause.
use Rattle.std.specs.Prelude.{◌≡◌, ◌↔◌, ℕ, ◌≤◌, ◌+◌, ◌++◌, Bool, true, false, not, List, [], ◌∷◌, Option, None, Some, All, Contains, count_by, filter, fold, insert, length, map, sum_by}
use Rattle.std.specs.Cmp.{IsTotalOrder}
use Rattle.std.specs.FinMap.{IsAntisymmetric}
use Rattle.std.specs.List.{list_all, list_any}
use Rattle.std.specs.List.Sorted.{IsStrictlySortedBy, IsPermutation}
use Rattle.std.specs.Ordering.{is_eq}
use Rattle.std.specs.declared.cmp.Ordering.{Ordering}
use Rattle.xf_model.specs.Bottom.{bottom, pair_cmp, pairs_of}
use Rattle.xf_model.specs.Dimension.{Dimension, Filter, all, passes, selected}
use Rattle.xf_model.specs.Group.{Reducer, distinct_keys, count, fold_of, group_entries, group_keys, rounded_keys, whole_value}
use Rattle.xf_model.specs.Moved.{moved}
use Rattle.xf_model.specs.Replay.{Outcome, progress_after, replay, session_text}
use Rattle.xf_model.specs.Undo.{StepsSwap, UndoTakesBack}

-- whether a key ties with one of a list
abbrev pub is_among : {Key : Type 0} → (Key → Key → Ordering) → List Key → Key → Bool
is_among cmp keys key = list_any (λ own. is_eq (cmp key own)) keys

-- ---- the distinct keys of a list

-- they ascend strictly
abbrev pub KeysAscend : Type 0 → Type 0
KeysAscend Key = (cmp : Key → Key → Ordering) (keys : List Key) → IsTotalOrder cmp → IsStrictlySortedBy cmp (distinct_keys cmp keys)

-- a key ties with one of them where it ties with one of the list
abbrev pub TiesStay : Type 0 → Type 0
TiesStay Key = (cmp : Key → Key → Ordering) (keys : List Key) (key : Key) → IsTotalOrder cmp → is_among cmp (distinct_keys cmp keys) key ≡ is_among cmp keys key

-- each of them is in the list
abbrev pub KeysAreMembers : Type 0 → Type 0
KeysAreMembers Key = (cmp : Key → Key → Ordering) (keys : List Key) → All (Contains keys) (distinct_keys cmp keys)

-- no other strictly ascending keys tie as those of the list do
abbrev pub KeysAreUnique : Type 0 → Type 0
KeysAreUnique Key =
    (cmp : Key → Key → Ordering) (keys found : List Key) → IsTotalOrder cmp → IsAntisymmetric cmp → IsStrictlySortedBy cmp found
    → ((key : Key) → is_among cmp found key ≡ is_among cmp keys key) → found ≡ distinct_keys cmp keys

-- strictly ascending keys are their own
abbrev pub AscendingKeysStay : Type 0 → Type 0
AscendingKeysStay Key = (cmp : Key → Key → Ordering) (keys : List Key) → IsStrictlySortedBy cmp keys → distinct_keys cmp keys ≡ keys

-- the order of the list does not matter
abbrev pub KeysAreOrderFree : Type 0 → Type 0
KeysAreOrderFree Key =
    (cmp : Key → Key → Ordering) (keys others : List Key) → IsTotalOrder cmp → IsAntisymmetric cmp → IsPermutation keys others
    → distinct_keys cmp keys ≡ distinct_keys cmp others

-- those of joined lists are those of both lists' own
abbrev pub KeysJoin : Type 0 → Type 0
KeysJoin Key =
    (cmp : Key → Key → Ordering) (xs ys : List Key) → IsTotalOrder cmp → IsAntisymmetric cmp
    → distinct_keys cmp (xs ++ ys) ≡ distinct_keys cmp (distinct_keys cmp xs ++ distinct_keys cmp ys)

-- what embeds one order into another takes them along
abbrev pub KeysEmbed : Type 0 → Type 0 → Type 0
KeysEmbed Key Other =
    (cmp : Key → Key → Ordering) (other : Other → Other → Ordering) (f : Key → Other) (keys : List Key) → ((a b : Key) → other (f a) (f b) ≡ cmp a b)
    → distinct_keys other (map f keys) ≡ map f (distinct_keys cmp keys)

-- ---- selected rows

-- rows that are joined are selected each by itself
abbrev pub SelectedJoin : Type 0 → Type 0 → Type 0
SelectedJoin Row Key =
    (dimensions : List (Dimension Row Key)) (but : Option ℕ) (xs ys : List Row)
    → selected dimensions but (xs ++ ys) ≡ selected dimensions but xs ++ selected dimensions but ys

-- where no filter is set all rows are selected
abbrev pub UnfilteredSelectAll : Type 0 → Type 0 → Type 0
UnfilteredSelectAll Row Key =
    (dimensions : List (Dimension Row Key)) (but : Option ℕ) (rows : List Row) → list_all (λ dimension. dimension.chosen.is_all) dimensions ≡ true
    → selected dimensions but rows ≡ rows

-- what is selected but for one dimension does not see that dimension
abbrev pub OwnFilterIsUnseen : Type 0 → Type 0 → Type 0
OwnFilterIsUnseen Row Key =
    (dimensions : List (Dimension Row Key)) (own : ℕ) (dimension : Dimension Row Key) (rows : List Row) → own ≤ length dimensions
    → selected (insert dimensions own dimension) (Some own) rows ≡ selected dimensions None rows

-- those of it that pass the dimension are the selected rows
abbrev pub OneMorePasses : Type 0 → Type 0 → Type 0
OneMorePasses Row Key =
    (dimensions : List (Dimension Row Key)) (own : ℕ) (dimension : Dimension Row Key) (rows : List Row) → own ≤ length dimensions
    → selected (insert dimensions own dimension) None rows ≡ filter (passes dimension) (selected (insert dimensions own dimension) (Some own) rows)

-- of rows that are kept, those are selected that were
abbrev pub SelectedKeep : Type 0 → Type 0 → Type 0
SelectedKeep Row Key =
    (dimensions : List (Dimension Row Key)) (but : Option ℕ) (keep : Row → Bool) (rows : List Row)
    → selected dimensions but (filter keep rows) ≡ filter keep (selected dimensions but rows)

-- a dimension whose filter is "all" can go: as much is selected without it
abbrev pub DisposedLeaves : Type 0 → Type 0 → Type 0
DisposedLeaves Row Key =
    (dimensions : List (Dimension Row Key)) (own : ℕ) (dimension : Dimension Row Key) (rows : List Row) → own ≤ length dimensions → dimension.chosen.is_all ≡ true
    → selected (insert dimensions own dimension) None rows ≡ selected dimensions None rows

-- ---- groups and wholes

-- the count of rows is their number
abbrev pub CountIsLength : Type 0 → Type 0
CountIsLength Row = (rows : List Row) → fold_of count rows ≡ length rows

-- the whole that counts is the number of the selected rows
abbrev pub WholeCounts : Type 0 → Type 0 → Type 0
WholeCounts Row Key = (dimensions : List (Dimension Row Key)) (rows : List Row) → whole_value count dimensions rows ≡ length (selected dimensions None rows)

-- a fold over joined rows goes on from the fold over the first
abbrev pub FoldsJoin : Type 0 → Type 0 → Type 0
FoldsJoin Row Value = (reducer : Reducer Row Value) (xs ys : List Row) → fold_of reducer (xs ++ ys) ≡ fold reducer.step (fold_of reducer xs) ys

-- a group's keys are those of the rows, whatever the filters
abbrev pub KeysStand : Type 0 → Type 0 → Type 0 → Type 0
KeysStand Row Key Value =
    (cmp : Key → Key → Ordering) (keys : Row → List Key) (reducer : Reducer Row Value) (dimensions : List (Dimension Row Key)) (own : ℕ) (rows : List Row)
    → map (λ (entry : Key × Value). entry.0) (group_entries cmp keys reducer dimensions own rows) ≡ group_keys cmp keys rows

-- a group's entries do not see its own dimension's filter
abbrev pub EntriesLeaveOwnOut : Type 0 → Type 0 → Type 0 → Type 0
EntriesLeaveOwnOut Row Key Value =
    (cmp : Key → Key → Ordering) (keys : Row → List Key) (reducer : Reducer Row Value) (dimensions : List (Dimension Row Key)) (own : ℕ)
    (one other : Dimension Row Key) (rows : List Row) → own ≤ length dimensions
    → group_entries cmp keys reducer (insert dimensions own one) own rows ≡ group_entries cmp keys reducer (insert dimensions own other) own rows

-- a rounding that gives each key back leaves keys that ascend strictly as they are
abbrev pub SameKeysStay : Type 0 → Type 0 → Type 0
SameKeysStay Row Key =
    (cmp : Key → Key → Ordering) (keys : Row → List Key) (row : Row) → IsStrictlySortedBy cmp (keys row) → rounded_keys cmp (λ key. key) keys row ≡ keys row

-- rounded keys ascend strictly
abbrev pub RoundedKeysAscend : Type 0 → Type 0 → Type 0
RoundedKeysAscend Row Key =
    (cmp : Key → Key → Ordering) (round : Key → Key) (keys : Row → List Key) (row : Row) → IsTotalOrder cmp → IsStrictlySortedBy cmp (rounded_keys cmp round keys row)

-- ---- reducers whose steps swap

-- rows in any order have the same fold
abbrev pub FoldsAreOrderFree : Type 0 → Type 0 → Type 0
FoldsAreOrderFree Row Value =
    (suits : Row → Bool) (most : ℕ) (reducer : Reducer Row Value) (xs ys : List Row)
    → StepsSwap suits most reducer → length xs ≤ most → list_all suits xs ≡ true → IsPermutation xs ys → fold_of reducer xs ≡ fold_of reducer ys

-- to undo any one of the rows gives the fold of the others
abbrev pub UndoLeavesOthers : Type 0 → Type 0 → Type 0
UndoLeavesOthers Row Value =
    (suits : Row → Bool) (most : ℕ) (reducer : Reducer Row Value) (undo : Value → Row → Value) (before : List Row) (row : Row) (after : List Row)
    → StepsSwap suits most reducer → UndoTakesBack suits most reducer undo → length (before ++ row ∷ after) ≤ most → list_all suits (before ++ row ∷ after) ≡ true
    → undo (fold_of reducer (before ++ row ∷ after)) row ≡ fold_of reducer (before ++ after)

-- ---- the least keys

-- the pairs of `bottom` ascend strictly
abbrev pub BottomAscends : Type 0 → Type 0 → Type 0
BottomAscends Row Key =
    (cmp : Key → Key → Ordering) (dimensions : List (Dimension Row Key)) (own : Dimension Row Key) (rows : List Row) → IsTotalOrder cmp
    → IsStrictlySortedBy (pair_cmp cmp) (bottom cmp dimensions own rows)

-- they are the pairs of the selected rows
abbrev pub BottomHasPairs : Type 0 → Type 0 → Type 0
BottomHasPairs Row Key =
    (cmp : Key → Key → Ordering) (dimensions : List (Dimension Row Key)) (own : Dimension Row Key) (rows : List Row) (pair : Key × ℕ)
    → IsTotalOrder cmp → IsAntisymmetric cmp → Contains (bottom cmp dimensions own rows) pair ↔ Contains (pairs_of dimensions own rows) pair

-- no other strictly ascending pairs are
abbrev pub PairsAreUnique : Type 0 → Type 0 → Type 0
PairsAreUnique Row Key =
    (cmp : Key → Key → Ordering) (dimensions : List (Dimension Row Key)) (own : Dimension Row Key) (rows : List Row) (found : List (Key × ℕ))
    → IsTotalOrder cmp → IsAntisymmetric cmp → IsStrictlySortedBy (pair_cmp cmp) found
    → ((pair : Key × ℕ) → Contains found pair ↔ Contains (pairs_of dimensions own rows) pair) → found ≡ bottom cmp dimensions own rows

-- ---- what moves

-- a filter in its own place moves nothing
abbrev pub SameMovesNothing : Type 0 → Type 0 → Type 0
SameMovesNothing Row Key = (keys : Row → List Key) (chosen : Filter Key) (rows : List Row) → moved keys chosen chosen rows ≡ 0

-- as much moves the other way round
abbrev pub MovesEitherWay : Type 0 → Type 0 → Type 0
MovesEitherWay Row Key = (keys : Row → List Key) (one other : Filter Key) (rows : List Row) → moved keys one other rows ≡ moved keys other one rows

-- of joined rows there moves what moves of each
abbrev pub MovesJoin : Type 0 → Type 0 → Type 0
MovesJoin Row Key =
    (keys : Row → List Key) (old new : Filter Key) (xs ys : List Row)
    → moved keys old new (xs ++ ys) ≡ moved keys old new xs + moved keys old new ys

-- the keys of a row that a filter leaves out, and 1 for a row without keys
abbrev pub left_out : {Key : Type 0} → Filter Key → List Key → ℕ
left_out chosen [] = 1
left_out chosen (key ∷ keys) = count_by (λ k. not (chosen.holds k)) (key ∷ keys)

-- to take a filter away moves what it leaves out
abbrev pub MovesToAll : Type 0 → Type 0 → Type 0
MovesToAll Row Key =
    (keys : Row → List Key) (chosen : Filter Key) (rows : List Row) → chosen.is_all ≡ false
    → moved keys chosen all rows ≡ sum_by (λ row. left_out chosen (keys row)) rows

-- ---- sessions

-- a session goes on from where its first lines have brought it
abbrev pub ReplayGoesOn : Type 0 → Type 0 → Type 0 → Type 0 → Type 0
ReplayGoesOn State Cause Answer Line =
    (command : State → Line → Outcome State Cause Answer) (written : ℕ → Outcome State Cause Answer → List ℕ) (state : State) (xs ys : List Line)
    → replay command written state (xs ++ ys)
    ≡ fold (λ so_far line. progress_after written so_far (command so_far.state line)) (replay command written state xs) ys

-- the text of its first lines begins the text of all
abbrev pub TextBegins : Type 0 → Type 0 → Type 0 → Type 0 → Type 0
TextBegins State Cause Answer Line =
    (command : State → Line → Outcome State Cause Answer) (written : ℕ → Outcome State Cause Answer → List ℕ) (state : State) (xs ys : List Line)
    → (rest : List ℕ) × (session_text command written state (xs ++ ys) ≡ session_text command written state xs ++ rest)

-- no more steps are refused than there are
abbrev pub FewAreRefused : Type 0 → Type 0 → Type 0 → Type 0 → Type 0
FewAreRefused State Cause Answer Line =
    (command : State → Line → Outcome State Cause Answer) (written : ℕ → Outcome State Cause Answer → List ℕ) (state : State) (lines : List Line)
    → (replay command written state lines).refusals ≤ (replay command written state lines).number
