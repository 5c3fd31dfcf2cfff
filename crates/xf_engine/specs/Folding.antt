-- Only proofs and the contracts of private functions need this file: groups and wholes that are folded from nothing.
use Rattle.std.specs.Prelude.{◌≡◌, ℕ, ℤ, Bool, true, ◌&&◌, not, List, [], ◌∷◌, flat_map, length, Option, map, if◌then◌else◌, slice_index_or, position, ⊤}
use Rattle.std.specs.List.{AllZip, find}
use Rattle.xf_base.specs.Gone.{kept}
use Rattle.xf_base.specs.Key.{key_cmp}
use Rattle.xf_base.specs.declared.cell.Cell.{Cell}
use Rattle.xf_base.specs.declared.key.Key.{Key}
use Rattle.xf_engine.specs.Answers.{entries_under}
use Rattle.xf_engine.specs.Changes.{unfiltered}
use Rattle.xf_engine.specs.Held.{passes_each_at, places_under}
use Rattle.xf_engine.specs.State.{LiveDimension, dimensions_of, has_id}
use Rattle.xf_engine.specs.declared.dimension.Dimension.{Dimension}
use Rattle.xf_engine.specs.declared.folding.Counting.{Counting}
use Rattle.xf_engine.specs.declared.folding.Counting.TheVariants.{Passing, Every, Staying}
use Rattle.xf_engine.specs.declared.grouping.Grouping.{Grouping}
use Rattle.xf_engine.specs.declared.key_number.KeyNumber.{KeyNumber}
use Rattle.xf_engine.specs.declared.whole.Whole.{Whole}
use Rattle.xf_group.specs.Group.{Grouped, meanings}
use Rattle.xf_group.specs.declared.entry.Entry.{Entry}
use Rattle.xf_model.specs.Dimension.{all_but}
use Rattle.xf_model.specs.Group.{Reducer, distinct_keys, fold_of, whole_value}
use Rattle.xf_model.specs.Laws.{is_among}

-- the rows that count
abbrev pub counted : {Row : Type 0} → List Row → List Bool → List Row
counted [] counts = []
counted (row ∷ rows) [] = []
counted (row ∷ rows) (counts ∷ later) = if counts then row ∷ counted rows later else counted rows later

-- the rows that count and have a key
abbrev pub counted_with : {Row : Type 0} → Key → List Row → List (List Key) → List Bool → List Row
counted_with key [] keys counts = []
counted_with key (row ∷ rows) [] counts = []
counted_with key (row ∷ rows) (own ∷ keys) [] = []
counted_with key (row ∷ rows) (own ∷ keys) (counts ∷ later) =
    if counts && is_among key_cmp own key then row ∷ counted_with key rows keys later else counted_with key rows keys later

-- each key of the rows, with the fold of those that count and have it
abbrev pub folded_entries : {Meaning : Type 0} → Reducer (List Cell) Meaning → List (List Cell) → List (List Key) → List Bool → List (Key × Meaning)
folded_entries reducer rows keys counts =
    map (λ key. (key, fold_of reducer (counted_with key rows keys counts))) (distinct_keys key_cmp (flat_map (λ own. own) keys))

-- whether the row at a place passes every dimension but the one at a place, if one is named
abbrev pub passes_but_at : {A P : Type 0} → (P → Key → Bool) → List (Dimension A P) → Option ℕ → ℕ → Bool
passes_but_at says dimensions but place = passes_each_at says (all_but but dimensions) place

-- ---- which rows count

-- whether the row at a place counts
abbrev pub counts_at : {A P : Type 0} → (P → Key → Bool) → Counting → List (Dimension A P) → Option ℕ → ℕ → Bool
counts_at says Passing dimensions but place = passes_but_at says dimensions but place
counts_at says Every dimensions but place = true
counts_at says (Staying gone) dimensions but place = not (slice_index_or gone.now place true) && passes_but_at says dimensions but place

-- the dimensions and the rows as they are then
abbrev pub dimensions_then : {A P : Type 0} → Counting → List (LiveDimension A P) → List (LiveDimension A P)
dimensions_then Passing lives = lives
dimensions_then Every lives = map unfiltered lives
dimensions_then (Staying gone) lives = lives

abbrev pub rows_then : {Row : Type 0} → Counting → List Row → List Row
rows_then Passing rows = rows
rows_then Every rows = rows
rows_then (Staying gone) rows = kept gone.now rows

-- there is a mark for each row
abbrev pub HasMarks : Counting → ℕ → Type 0
HasMarks Passing count = ⊤
HasMarks Every count = ⊤
HasMarks (Staying gone) count = length gone.now ≡ count

-- a group that was folded for one that is held: under the same reducer, with the places and the entries that it has then
pub record IsFoldedFor {A G P R V M : Type 0} (keys_of : A → List Cell → List Key) (says : P → Key → Bool) (rounded : G → Key → Key) (meaning_of : V → M) (folding : R → Reducer (List Cell) M) (lives : List (LiveDimension A P)) (rows : List (List Cell)) (held : Grouping G (Grouped R V)) (folded : Grouped R V) : Type 0 where
  pub reducer : folded.reducer ≡ held.group.reducer
  pub places : folded.places ≡ places_under keys_of (rounded held.rounding) (find (has_id held.dimension.0) lives) rows
  pub entries : meanings meaning_of folded.entries ≡ entries_under keys_of says lives rows (rounded held.rounding) (folding held.group.reducer) (position (has_id held.dimension.0) lives)

abbrev pub AreFoldedFor : {A G P R V M : Type 0} → (A → List Cell → List Key) → (P → Key → Bool) → (G → Key → Key) → (V → M) → (R → Reducer (List Cell) M) → List (LiveDimension A P) → List (List Cell) → List (Grouping G (Grouped R V)) → List (Grouped R V) → Type 0
AreFoldedFor keys_of says rounded meaning_of folding lives rows groups folded = AllZip (IsFoldedFor keys_of says rounded meaning_of folding lives rows) groups folded

-- the values of wholes, folded anew
abbrev pub AreValuesFor : {A P R V M : Type 0} → (A → List Cell → List Key) → (P → Key → Bool) → (V → M) → (R → Reducer (List Cell) M) → List (LiveDimension A P) → List (List Cell) → List (Whole R V) → List V → Type 0
AreValuesFor keys_of says meaning_of folding lives rows wholes values =
    AllZip (λ held value. meaning_of value ≡ whole_value (folding held.reducer) (dimensions_of keys_of says lives) rows) wholes values

-- groups and wholes with other values
abbrev pub regrouped : {G T : Type 0} → List (Grouping G T) → List T → List (Grouping G T)
regrouped [] values = []
regrouped (group ∷ groups) [] = group ∷ groups
regrouped (group ∷ groups) (value ∷ values) = record group { group = value } ∷ regrouped groups values

abbrev pub revalued : {R V : Type 0} → List (Whole R V) → List V → List (Whole R V)
revalued [] values = []
revalued (whole ∷ wholes) [] = whole ∷ wholes
revalued (whole ∷ wholes) (value ∷ values) = record whole { value = value } ∷ revalued wholes values

-- entries with the rank of each value
abbrev pub entry_numbers : {V : Type 0} → (V → ℤ) → List (Entry V) → List KeyNumber
entry_numbers rank entries = map (λ entry. record { key = entry.key; number = rank entry.value }) entries
