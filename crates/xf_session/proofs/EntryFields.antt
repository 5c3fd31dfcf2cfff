-- The entries of a group with their fields: how many there are, the one at a position, that of a key, and the first by rank.
use Rattle.std.proofs.Common.{◌≡◌, ◌∙◌, ℕ, ℤ, zero, suc, ◌+◌, ◌<◌, Bool, true, false, cond, List, [], ◌∷◌, ◌++◌, length, map, flat_map, Option, Some, None, option_map, slice_get, unwrap_or, Result, IsUtf8, append-nil, refl, sym, ap, subst, arith}
use Rattle.std.proofs.lemmas.Cmp.{tied_itself}
use Rattle.std.specs.Cmp.{eq_by_cmp_equiv}
use Rattle.std.proofs.lemmas.List.{length-map}
use Rattle.std.proofs.lemmas.List.FromFn.{map-range_with_len_more}
use Rattle.std.proofs.lemmas.Option.{slice_get-map}
use Rattle.std.proofs.lemmas.Str.{IsUtf8-nil}
use Rattle.std.specs.List.{AllByRecursion, find, range_with_len}
use Rattle.std.specs.List.Sorted.{IsStrictlySortedBy}
use Rattle.std.specs.Option.{IfSome, option_and_then}
use Rattle.std.specs.Ordering.{is_eq, ordering_reverse}
use Rattle.std.specs.Result.{result_unwrap_or}
use Rattle.std.specs.declared.cmp.Ordering.{Ordering}
use Rattle.std.specs.declared.cmp.Ordering.TheVariants.{Less, Equal, Greater}
use Rattle.xf_access.specs.Round.{rounded_key}
use Rattle.xf_access.specs.Stock.{keys_of_row}
use Rattle.xf_access.specs.declared.stock_rounding.StockRounding.{StockRounding}
use Rattle.xf_base.proofs.EqualKeys.{key_cmp-equal}
use Rattle.xf_base.specs.Key.{key_cmp}
use Rattle.xf_base.specs.KeyOrder.{key_cmp_total}
use Rattle.xf_base.specs.declared.cell.Cell.{Cell}
use Rattle.xf_base.specs.declared.column.Column.{Column}
use Rattle.xf_base.specs.declared.form.KeyForm.{KeyForm}
use Rattle.xf_base.specs.declared.key.Key.{Key}
use Rattle.xf_engine.proofs.EntryAnswers.{all-ranked}
use Rattle.xf_engine.proofs.Passes.{all-take}
use Rattle.xf_engine.specs.Answers.{entries_of, entries_under, keys_under, meaning_of_key, numbers_of, whole_meaning}
use Rattle.xf_engine.specs.Refusals.{no_group, unless_none}
use Rattle.xf_engine.specs.State.{LiveDimension, LiveGroup, LiveWhole, dimension_place, dimensions_of, group_has_id, whole_has_id}
use Rattle.xf_engine.specs.declared.ids.NoGroup.{NoGroup}
use Rattle.xf_engine.specs.declared.key_number.KeyNumber.{KeyNumber}
use Rattle.xf_filter.specs.Stock.{stock_says}
use Rattle.xf_model.proofs.AscendingKeys.{sorted-distinct_keys}
use Rattle.xf_model.proofs.GroupValues.{keys-group_entries}
use Rattle.xf_model.specs.Group.{Reducer, rounded_keys}
use Rattle.xf_model.specs.Top.{group_top, ranked}
use Rattle.xf_reduce.specs.StockReducer.{stock_decimals, stock_field, stock_field_count, stock_fits, stock_of}
use Rattle.xf_reduce.specs.StockReducerLaws.{stock_few}
use Rattle.xf_reduce.specs.declared.simple.SimpleMeaning.{SimpleMeaning}
use Rattle.xf_reduce.specs.declared.stock_reducer.StockReducer.{StockReducer}
use Rattle.xf_reply.specs.Answer.{entry_line}
use Rattle.xf_reply.specs.Put.{Puts}
use Rattle.xf_reply.specs.declared.answer.Field.{Field}
use Rattle.xf_session.specs.Command.{fields_of, with_fields}
use Rattle.xf_session.specs.Outcome.{KeyFields, entry_lines}
use Rattle.xf_session.specs.State.{StockState}

abbrev pub StockGroup : Type 0
StockGroup = LiveGroup StockRounding StockReducer

abbrev StockMeaning : Type 0
StockMeaning = SimpleMeaning × SimpleMeaning

abbrev pub Meant : Type 0
Meant = List (Key × StockMeaning)

-- the entries of the groups of a crossfilter
abbrev pub entries_in : StockState → StockGroup → Meant
entries_in cross group = entries_of keys_of_row stock_says rounded_key stock_of cross group

-- a field of a meaning
abbrev pub field_at : List Column → StockReducer → StockMeaning → ℕ → Field
field_at columns reducer meaning field = record { number = stock_field reducer meaning field; decimals = stock_decimals reducer columns field }

-- one field more
pub next-field : (columns : List Column) (reducer : StockReducer) (meaning : StockMeaning) (field : ℕ) (before after : List Field) (number : ℤ) (decimals : ℕ)
    → before ≡ map (field_at columns reducer meaning) (range_with_len 0 field) → number ≡ stock_field reducer meaning field → decimals ≡ stock_decimals reducer columns field
    → after ≡ before ++ record { number = number; decimals = decimals } ∷ [] → after ≡ map (field_at columns reducer meaning) (range_with_len 0 (field + 1))
next-field columns reducer meaning field before after number decimals so_far one other pushed =
    let front = map (field_at columns reducer meaning) (range_with_len 0 field) in
    pushed ∙ ap (λ (front : List Field). front ++ record { number = number; decimals = decimals } ∷ []) so_far
    ∙ ap (λ (number : ℤ). front ++ record { number = number; decimals = decimals } ∷ []) one
    ∙ ap (λ (decimals : ℕ). front ++ record { number = stock_field reducer meaning field; decimals = decimals } ∷ []) other
    ∙ sym (map-range_with_len_more (field_at columns reducer meaning) 0 field field (omega arith))

-- fields that were told under these columns
pub fields-under : (columns given : List Column) (reducer : StockReducer) (meaning : StockMeaning) (fields told : List Field)
    → fields ≡ told → told ≡ fields_of given reducer meaning → given ≡ columns → fields ≡ fields_of columns reducer meaning
fields-under columns given reducer meaning fields told one other same = one ∙ other ∙ ap (λ (columns : List Column). fields_of columns reducer meaning) same

-- an entry with its fields
abbrev fielded : List Column → StockReducer → Key × StockMeaning → KeyFields
fielded columns reducer entry = (entry.0, fields_of columns reducer entry.1)

-- what a group has, where there may be none
abbrev pub told_of : List Column → (StockGroup → Meant) → Option StockGroup → List KeyFields
told_of columns entries found = unwrap_or (option_map (λ (group : StockGroup). with_fields columns group.reducer (entries group)) found) []

abbrev pub reducer_in : Option StockGroup → Option StockReducer
reducer_in found = option_map (λ (group : StockGroup). group.reducer) found

-- the reducer of a group that is found fits the columns
pub found-fits : (columns : List Column) (groups : List StockGroup) (id : ℕ) (reducer : StockReducer) → AllByRecursion (λ (group : StockGroup). stock_fits group.reducer columns ≡ true) groups
    → reducer_in (find (group_has_id id) groups) ≡ Some reducer → stock_fits reducer columns ≡ true
found-fits columns [] id reducer all is = absurd (cc is)
found-fits columns (group ∷ groups) id reducer all is =
    let here : group.reducer ≡ reducer → stock_fits reducer columns ≡ true = λ same. subst (λ (own : StockReducer). stock_fits own columns ≡ true) same all.0 in
    let rest : reducer_in (find (group_has_id id) groups) ≡ Some reducer → stock_fits reducer columns ≡ true = found-fits columns groups id reducer all.1 in
    elim (group_has_id id group) as (λ b. reducer_in (cond b (Some group) (find (group_has_id id) groups)) ≡ Some reducer → stock_fits reducer columns ≡ true) [ true ↦ λ is. here (cc is) | false ↦ rest ] is

-- how many entries there are
pub size-told : (columns : List Column) (entries : StockGroup → Meant) (id : ℕ) (found : Option StockGroup) (answer : Result ℕ NoGroup)
    → answer ≡ unless_none (no_group id) (option_map (λ (group : StockGroup). length (entries group)) found) → result_unwrap_or answer 0 ≡ length (told_of columns entries found)
size-told columns entries id (Some group) answer is = ap (λ (answer : Result ℕ NoGroup). result_unwrap_or answer 0) is ∙ sym (length-map (entries group) (fielded columns group.reducer))
size-told columns entries id None answer is = ap (λ (answer : Result ℕ NoGroup). result_unwrap_or answer 0) is

-- the entry at a position
pub at-told : (columns : List Column) (entries : StockGroup → Meant) (found : Option StockGroup) (reducer : StockReducer) (i : ℕ) (key : Key) (meaning : StockMeaning)
    → reducer_in found ≡ Some reducer → option_and_then (λ (group : StockGroup). slice_get (entries group) i) found ≡ Some (key, meaning)
    → slice_get (told_of columns entries found) i ≡ Some (key, fields_of columns reducer meaning)
at-told columns entries (Some group) reducer i key meaning own there =
    let same : group.reducer ≡ reducer = cc own in
    slice_get-map (fielded columns group.reducer) (entries group) i ∙ ap (option_map (fielded columns group.reducer)) there
    ∙ ap (λ (reducer : StockReducer). Some (key, fields_of columns reducer meaning)) same
at-told columns entries None reducer i key meaning own there = absurd (cc own)

-- a place within what is told is within the entries
pub within-told : (columns : List Column) (entries : StockGroup → Meant) (found : Option StockGroup) (i : ℕ) → i < length (told_of columns entries found)
    → IfSome found (λ (group : StockGroup). i < length (entries group))
within-told columns entries (Some group) i below = omega (arith, length-map (entries group) (fielded columns group.reducer))
within-told columns entries None i below = tt

-- ---- the entry of a key

equal-from-test : (order : Ordering) → is_eq order ≡ true → order ≡ Equal
equal-from-test Equal test = refl
equal-from-test Less test = absurd (cc test)
equal-from-test Greater test = absurd (cc test)

-- it is found by its key, with the fields of what it means
pub find-told : (columns : List Column) (reducer : StockReducer) (key : Key) (entries : Meant)
    → find (λ (entry : KeyFields). is_eq (key_cmp entry.0 key)) (with_fields columns reducer entries) ≡ option_map (λ (meaning : StockMeaning). (key, fields_of columns reducer meaning)) (meaning_of_key entries key)
find-told columns reducer key [] = refl
find-told columns reducer key (entry ∷ entries) =
    let rest = find-told columns reducer key entries in
    let later = find (λ (entry : KeyFields). is_eq (key_cmp entry.0 key)) (with_fields columns reducer entries) in
    let tied : is_eq (key_cmp entry.0 key) ≡ is_eq (key_cmp key entry.0) = (eq_by_cmp_equiv key_cmp_total).symm entry.0 key in
    ap (λ (here : Bool). cond here (Some (fielded columns reducer entry)) later) tied
    ∙ step (is_eq (key_cmp key entry.0)) (λ test. sym (key_cmp-equal key entry.0 (equal-from-test (key_cmp key entry.0) test))) rest
  where
    step : (here : Bool) → (here ≡ true → entry.0 ≡ key)
        → find (λ (entry : KeyFields). is_eq (key_cmp entry.0 key)) (with_fields columns reducer entries) ≡ option_map (λ (meaning : StockMeaning). (key, fields_of columns reducer meaning)) (meaning_of_key entries key)
        → cond here (Some (fielded columns reducer entry)) (find (λ (entry : KeyFields). is_eq (key_cmp entry.0 key)) (with_fields columns reducer entries))
        ≡ option_map (λ (meaning : StockMeaning). (key, fields_of columns reducer meaning)) (option_map (λ (one : Key × StockMeaning). one.1) (cond here (Some entry) (find (λ (one : Key × StockMeaning). is_eq (key_cmp key one.0)) entries)))
    step true same rest = ap (λ (key : Key). Some (key, fields_of columns reducer entry.1)) (same refl)
    step false same rest = rest

pub value-told : (columns : List Column) (entries : StockGroup → Meant) (found : Option StockGroup) (reducer : StockReducer) (key : Key)
    → reducer_in found ≡ Some reducer
    → find (λ (entry : KeyFields). is_eq (key_cmp entry.0 key)) (told_of columns entries found)
    ≡ option_map (λ (meaning : StockMeaning). (key, fields_of columns reducer meaning)) (option_and_then (λ (group : StockGroup). meaning_of_key (entries group) key) found)
value-told columns entries (Some group) reducer key own =
    let same : group.reducer ≡ reducer = cc own in
    find-told columns group.reducer key (entries group)
    ∙ ap (λ (reducer : StockReducer). option_map (λ (meaning : StockMeaning). (key, fields_of columns reducer meaning)) (meaning_of_key (entries group) key)) same
value-told columns entries None reducer key own = absurd (cc own)

-- where no group is found there is none
pub value-none : (columns : List Column) (entries : StockGroup → Meant) (found : Option StockGroup) (key : Key)
    → None ≡ reducer_in found → find (λ (entry : KeyFields). is_eq (key_cmp entry.0 key)) (told_of columns entries found) ≡ None
value-none columns entries (Some group) key none = absurd (cc none)
value-none columns entries None key none = refl

-- ---- the first by rank

abbrev pub Ascends : Meant → Type 0
Ascends entries = IsStrictlySortedBy key_cmp (map (λ (entry : Key × StockMeaning). entry.0) entries)

-- the entries of a group ascend
pub under-ascends : {A P : Type 0} (keys_of : A → List Cell → List Key) (says : P → Key → Bool) (lives : List (LiveDimension A P)) (rows : List (List Cell)) (round : Key → Key) (reducer : Reducer (List Cell) StockMeaning) (place : Option ℕ)
    → Ascends (entries_under keys_of says lives rows round reducer place)
unfolding IsStrictlySortedBy
under-ascends keys_of says lives rows round reducer None = tt
under-ascends keys_of says lives rows round reducer (Some own) =
    subst (IsStrictlySortedBy key_cmp)
    (sym (keys-group_entries key_cmp (rounded_keys key_cmp round (keys_under keys_of (slice_get lives own))) reducer (dimensions_of keys_of says lives) own rows))
    (sorted-distinct_keys key_cmp_total (flat_map (rounded_keys key_cmp round (keys_under keys_of (slice_get lives own))) rows))

-- those of each group of a crossfilter do
pub in-ascends : (cross : StockState) (group : StockGroup) → Ascends (entries_in cross group)
in-ascends cross group = under-ascends keys_of_row stock_says cross.dimensions cross.rows (rounded_key group.rounding) (stock_of group.reducer) (dimension_place cross group.dimension)

-- what an entry means is what is found by its key
abbrev IsOwn : Meant → Key × StockMeaning → Type 0
IsOwn entries entry = meaning_of_key entries entry.0 ≡ Some entry.1

above-own : (first : Key × StockMeaning) (entries some : Meant) → AllByRecursion (λ key. key_cmp first.0 key ≡ Less) (map (λ (entry : Key × StockMeaning). entry.0) some) → AllByRecursion (IsOwn entries) some → AllByRecursion (IsOwn (first ∷ entries)) some
above-own first entries [] above own = tt
above-own first entries (entry ∷ some) above own =
    let greater : key_cmp entry.0 first.0 ≡ Greater = key_cmp_total.antisymm entry.0 first.0 ∙ ap ordering_reverse above.0 in (
      ap (λ (order : Ordering). option_map (λ (one : Key × StockMeaning). one.1) (cond (is_eq order) (Some first) (find (λ (one : Key × StockMeaning). is_eq (key_cmp entry.0 one.0)) entries))) greater ∙ own.0,
      above-own first entries some above.1 own.1,
    )

all-own : (entries : Meant) → Ascends entries → AllByRecursion (IsOwn entries) entries
unfolding IsStrictlySortedBy
all-own [] ascends = tt
all-own (first ∷ entries) ascends = (
  ap (λ (order : Ordering). option_map (λ (one : Key × StockMeaning). one.1) (cond (is_eq order) (Some first) (find (λ (one : Key × StockMeaning). is_eq (key_cmp first.0 one.0)) entries))) (tied_itself key_cmp_total first.0),
  above-own first entries entries ascends.0 (all-own entries ascends.1),
)

all-at : (P : Key × StockMeaning → Type 0) (entries : Meant) (i : ℕ) (entry : Key × StockMeaning) → AllByRecursion P entries → slice_get entries i ≡ Some entry → P entry
all-at P [] i entry all there = absurd (cc there)
all-at P (first ∷ entries) zero entry all there = let same : first ≡ entry = cc there in subst P same all.0
all-at P (first ∷ entries) (suc i) entry all there = all-at P entries i entry all.1 there

-- the first entries of a group by the field of its order
abbrev pub tops_in : (StockGroup → Meant) → ℕ → StockGroup → Meant
tops_in entries k group = group_top (λ (meaning : StockMeaning). stock_field group.reducer meaning group.field) k (entries group)

-- the one that is shown at a position: it has the key that is shown, and what is found by the key
record IsTop (entries tops : Meant) (i : ℕ) (shown : KeyNumber) : Type 0 where
  entry : Key × StockMeaning
  there : slice_get tops i ≡ Some entry
  key : entry.0 ≡ shown.key
  own : meaning_of_key entries shown.key ≡ Some entry.1

-- an entry as it is shown, with the number of a field
abbrev numbered : (StockMeaning → ℕ → ℤ) → ℕ → Key × StockMeaning → KeyNumber
numbered number field entry = record { key = entry.0; number = number entry.1 field }

shown-top : (number : StockMeaning → ℕ → ℤ) (field : ℕ) (entries tops : Meant) (i : ℕ) (shown : KeyNumber) → AllByRecursion (IsOwn entries) tops
    → (found : Option (Key × StockMeaning)) → slice_get tops i ≡ found → option_map (numbered number field) found ≡ Some shown → IsTop entries tops i shown
shown-top number field entries tops i shown all None at is = absurd (cc is)
shown-top number field entries tops i shown all (Some entry) at is =
    let keys : Some entry.0 ≡ Some shown.key = ap (option_map (λ (one : KeyNumber). one.key)) is in
    let key : entry.0 ≡ shown.key = cc keys in
    record {
      entry = entry;
      there = at;
      key = key;
      own = ap (meaning_of_key entries) (sym key) ∙ all-at (IsOwn entries) tops i entry all at;
    }

is-top : (rank : StockMeaning → ℤ) (number : StockMeaning → ℕ → ℤ) (field k : ℕ) (entries : Meant) (i : ℕ) (shown : KeyNumber)
    → Ascends entries → slice_get (numbers_of number field (group_top rank k entries)) i ≡ Some shown → IsTop entries (group_top rank k entries) i shown
is-top rank number field k entries i shown ascends is =
    let tops = group_top rank k entries in
    let all = all-take (IsOwn entries) k (ranked (λ (one : Key × StockMeaning). rank one.1) entries) (all-ranked (IsOwn entries) (λ (one : Key × StockMeaning). rank one.1) entries (all-own entries ascends)) in
    shown-top number field entries tops i shown all (slice_get tops i) refl (sym (slice_get-map (numbered number field) tops i) ∙ is)

-- it is told with the fields of what is found
told-top : (columns : List Column) (reducer : StockReducer) (entries tops : Meant) (i : ℕ) (top : KeyNumber) (meaning : StockMeaning) (at : IsTop entries tops i top) → at.entry.1 ≡ meaning
    → slice_get (with_fields columns reducer tops) i ≡ Some (top.key, fields_of columns reducer meaning)
told-top columns reducer entries tops i top meaning at meant =
    slice_get-map (fielded columns reducer) tops i ∙ ap (option_map (fielded columns reducer)) at.there
    ∙ ap (λ (key : Key). Some (key, fields_of columns reducer at.entry.1)) at.key
    ∙ ap (λ (meaning : StockMeaning). Some (top.key, fields_of columns reducer meaning)) meant

-- the first by rank at a position, with the fields of what is found by the key that is shown
pub top-told : (columns : List Column) (entries : StockGroup → Meant) → ((group : StockGroup) → Ascends (entries group)) → (k : ℕ) (found : Option StockGroup) (reducer : StockReducer) (shown : List KeyNumber) (i : ℕ) (top : KeyNumber) (meaning : StockMeaning)
    → reducer_in found ≡ Some reducer → option_map (λ (group : StockGroup). numbers_of (stock_field group.reducer) 0 (tops_in entries k group)) found ≡ Some shown → slice_get shown i ≡ Some top
    → Some meaning ≡ option_and_then (λ (group : StockGroup). meaning_of_key (entries group) top.key) found
    → slice_get (told_of columns (tops_in entries k) found) i ≡ Some (top.key, fields_of columns reducer meaning)
top-told columns entries ascends k (Some group) reducer shown i top meaning own is there value =
    let same : group.reducer ≡ reducer = cc own in
    let listed : numbers_of (stock_field group.reducer) 0 (tops_in entries k group) ≡ shown = cc is in
    let at = is-top (λ (meaning : StockMeaning). stock_field group.reducer meaning group.field) (stock_field group.reducer) 0 k (entries group) i top (ascends group) (ap (λ (shown : List KeyNumber). slice_get shown i) listed ∙ there) in
    let meanings : Some meaning ≡ Some at.entry.1 = value ∙ at.own in
    let meant : at.entry.1 ≡ meaning = cc meanings in
    told-top columns group.reducer (entries group) (tops_in entries k group) i top meaning at meant
    ∙ ap (λ (reducer : StockReducer). Some (top.key, fields_of columns reducer meaning)) same
top-told columns entries ascends k None reducer shown i top meaning own is there value = absurd (cc own)

-- each group has a first field
pub first-field : (found : Option StockGroup) → IfSome found (λ (group : StockGroup). 0 < stock_field_count group.reducer)
first-field (Some group) = (stock_few group.reducer).0
first-field None = tt

-- a key that is shown is found
pub top-there : (entries : StockGroup → Meant) → ((group : StockGroup) → Ascends (entries group)) → (k : ℕ) (found : Option StockGroup) (reducer : StockReducer) (shown : List KeyNumber) (i : ℕ) (top : KeyNumber)
    → reducer_in found ≡ Some reducer → option_map (λ (group : StockGroup). numbers_of (stock_field group.reducer) 0 (tops_in entries k group)) found ≡ Some shown → slice_get shown i ≡ Some top
    → None ≡ option_and_then (λ (group : StockGroup). meaning_of_key (entries group) top.key) found → ⊥
top-there entries ascends k (Some group) reducer shown i top own is there value =
    let listed : numbers_of (stock_field group.reducer) 0 (tops_in entries k group) ≡ shown = cc is in
    let at = is-top (λ (meaning : StockMeaning). stock_field group.reducer meaning group.field) (stock_field group.reducer) 0 k (entries group) i top (ascends group) (ap (λ (shown : List KeyNumber). slice_get shown i) listed ∙ there) in
    let no : None ≡ Some at.entry.1 = value ∙ at.own in
    absurd (cc no)
top-there entries ascends k None reducer shown i top own is there value = absurd (cc own)

-- as many are told as are shown
pub top-size : (columns : List Column) (entries : StockGroup → Meant) (k : ℕ) (found : Option StockGroup) (shown : List KeyNumber)
    → option_map (λ (group : StockGroup). numbers_of (stock_field group.reducer) 0 (tops_in entries k group)) found ≡ Some shown → length shown ≡ length (told_of columns (tops_in entries k) found)
top-size columns entries k (Some group) shown is =
    let listed : numbers_of (stock_field group.reducer) 0 (tops_in entries k group) ≡ shown = cc is in
    sym (ap length listed) ∙ length-map (tops_in entries k group) (numbered (stock_field group.reducer) 0) ∙ sym (length-map (tops_in entries k group) (fielded columns group.reducer))
top-size columns entries k None shown is = absurd (cc is)

-- where no group is found nothing is put
pub puts-none : {old : List ℕ} (form : KeyForm) (columns : List Column) (entries : StockGroup → Meant) (found : Option StockGroup) → None ≡ reducer_in found → Puts old old (entry_lines form (told_of columns entries found))
puts-none {old = old} form columns entries (Some group) none = absurd (cc none)
puts-none {old = old} form columns entries None none = record { appended = sym (append-nil old); utf8 = IsUtf8-nil }

-- the line of an entry whose fields these are is put
pub puts-entry : {old new : List ℕ} (form : KeyForm) (key : Key) (fields told : List Field) → fields ≡ told
    → new ≡ old ++ entry_line form key fields → IsUtf8 (entry_line form key fields) → Puts old new (entry_line form key told)
puts-entry {old = old} {new = new} form key fields told same appended utf8 =
    subst (λ (fields : List Field). Puts old new (entry_line form key fields)) same (record { appended = appended; utf8 = utf8 })

-- ---- wholes

abbrev pub StockWhole : Type 0
StockWhole = LiveWhole StockReducer

-- what a whole of a crossfilter means
abbrev pub means_in : StockState → StockWhole → StockMeaning
means_in cross whole = whole_meaning keys_of_row stock_says stock_of cross whole

abbrev pub whole_reducer_in : Option StockWhole → Option StockReducer
whole_reducer_in found = option_map (λ (whole : StockWhole). whole.reducer) found

-- the reducer of a whole that is found fits the columns
pub whole-fits : (columns : List Column) (wholes : List StockWhole) (id : ℕ) (reducer : StockReducer) → AllByRecursion (λ (whole : StockWhole). stock_fits whole.reducer columns ≡ true) wholes
    → whole_reducer_in (find (whole_has_id id) wholes) ≡ Some reducer → stock_fits reducer columns ≡ true
whole-fits columns [] id reducer all is = absurd (cc is)
whole-fits columns (whole ∷ wholes) id reducer all is =
    let here : whole.reducer ≡ reducer → stock_fits reducer columns ≡ true = λ same. subst (λ (own : StockReducer). stock_fits own columns ≡ true) same all.0 in
    let rest : whole_reducer_in (find (whole_has_id id) wholes) ≡ Some reducer → stock_fits reducer columns ≡ true = whole-fits columns wholes id reducer all.1 in
    elim (whole_has_id id whole) as (λ b. whole_reducer_in (cond b (Some whole) (find (whole_has_id id) wholes)) ≡ Some reducer → stock_fits reducer columns ≡ true) [ true ↦ λ is. here (cc is) | false ↦ rest ] is

-- the fields of a whole, where there may be none
abbrev pub whole_told : List Column → (StockWhole → StockMeaning) → Option StockWhole → List Field
whole_told columns means found = unwrap_or (option_map (λ (whole : StockWhole). fields_of columns whole.reducer (means whole)) found) []

pub whole-is : (columns : List Column) (means : StockWhole → StockMeaning) (found : Option StockWhole) (reducer : StockReducer) (meaning : StockMeaning)
    → whole_reducer_in found ≡ Some reducer → option_map means found ≡ Some meaning → whole_told columns means found ≡ fields_of columns reducer meaning
whole-is columns means (Some whole) reducer meaning own is =
    let same : whole.reducer ≡ reducer = cc own in
    let meant : means whole ≡ meaning = cc is in
    ap (λ (reducer : StockReducer). fields_of columns reducer (means whole)) same ∙ ap (fields_of columns reducer) meant
whole-is columns means None reducer meaning own is = absurd (cc own)

pub whole-none : (columns : List Column) (means : StockWhole → StockMeaning) (found : Option StockWhole) → None ≡ whole_reducer_in found → whole_told columns means found ≡ []
whole-none columns means (Some whole) none = absurd (cc none)
whole-none columns means None none = refl
