-- Entries whose keys differ: what the value of a key is once others have entered, or once one was made ready.
use Rattle.std.proofs.Common.{◌≡◌, ℕ, zero, suc, ◌+◌, ◌<◌, ◌≤◌, Bool, true, false, cond, ltb, ltb-false, List, [], ◌∷◌, ◌++◌, map, length, get_or, set, slice_get, Option, Some, None, option_map, unwrap_or, refl, sym, ap, ◌∙◌, arith, ⊎_elim}
use Rattle.std.proofs.lemmas.List.{get_or_default}
use Rattle.std.proofs.lemmas.List.Quantifiers.{position-Some}
use Rattle.std.proofs.lemmas.Bool.{true≢false}
use Rattle.std.proofs.lemmas.List.Elements.{All-contains, All-from_recursion, Contains-append_cases, Contains-append_left}
use Rattle.std.proofs.lemmas.List.Folds.{find-set, find_at, fold-map, list_any_none}
use Rattle.std.proofs.lemmas.List.Sorted.{Contains-permutation, IsPermutation-sym}
use Rattle.std.proofs.lemmas.List.Sums.{fails_before_first, get_or-le-sum_by, passes_at_first, sum_by-cons}
use Rattle.std.proofs.lemmas.Option.{cond_some, get_or_from_slice_get, none-some, same_Some, slice_get-get_or, slice_get-map, slice_get_within}
use Rattle.std.specs.List.{AllByRecursion, Contains, count_by, find, position, position_or_len}
use Rattle.std.specs.List.Sorted.{IsPermutation}
use Rattle.std.specs.Ordering.{is_eq}
use Rattle.xf_base.specs.Key.{key_cmp}
use Rattle.xf_base.specs.declared.cell.Cell.{Cell}
use Rattle.xf_base.specs.declared.key.Key.{Key}
use Rattle.xf_group.specs.Admitted.{IsReadyAt, SameMeanings, StayReady}
use Rattle.xf_group.specs.Fresh.{AreKept}
use Rattle.xf_group.specs.Group.{is_entry_of, meaning_at, meanings}
use Rattle.xf_group.specs.Held.{keys_of}
use Rattle.xf_group.specs.declared.entry.Entry.{Entry}
use Rattle.xf_group.proofs.KeptCalls.{calls_from_stay, keep_calls_on, same_calls_on}
use Rattle.xf_reduce.specs.Laws.{SameCalls}
use Rattle.xf_group.proofs.AdmitFresh.{equal_from_test, list_any-map}
use Rattle.xf_group.proofs.AdmitOrder.{AtMostOnce, by_test, ties_with}
use Rattle.xf_base.proofs.EqualKeys.{key_cmp-equal}
use Rattle.xf_model.specs.Laws.{is_among}

-- an option is nothing or something, with the equation
pub by_option : {X P : Type 0} (o : Option X) → (o ≡ None → P) → ((x : X) → o ≡ Some x → P) → P
by_option None none some = none refl
by_option (Some x) none some = some x refl

-- ---- the one that passes a test

-- where at most one passes, the one that does is found
pub found_only : {X : Type 0} (p : X → Bool) (xs : List X) (place : ℕ) (x : X) → count_by p xs ≤ 1 → place < length xs → get_or xs place x ≡ x → p x ≡ true → find p xs ≡ Some x
found_only p [] place x once within here passes = absurd (omega (arith, within))
found_only {X} p (y ∷ ys) zero x once within here passes =
    ap (λ b. cond b (Some y) (find p ys)) (ap p here ∙ passes) ∙ ap Some here
found_only {X} p (y ∷ ys) (suc place) x once within here passes =
    let more = sum_by-cons (λ z. cond (p z) 1 0) y ys in
    let inside : place < length ys = omega (arith, within) in
    let some = get_or-le-sum_by (λ z. cond (p z) 1 0) ys place x inside in
    let one : ◌≡◌ {A = ℕ} (cond (p (get_or ys place x)) 1 0) 1 = ap {B = ℕ} (λ z. cond (p z) 1 0) here ∙ ap {B = ℕ} (λ b. cond b 1 0) passes in
    by_test (p y)
    (λ other. absurd (omega (arith, once, more, some, one, ap {B = ℕ} (λ b. cond b 1 0) other)))
    (λ not. ap (λ b. cond b (Some y) (find p ys)) not ∙ found_only p ys place x (omega (arith, once, more)) inside here passes)

-- what is found is there, and passes
pub found_in : {X : Type 0} (p : X → Bool) (xs : List X) (x : X) → find p xs ≡ Some x → Contains xs x × (p x ≡ true)
found_in {X} p xs x found =
    let at = sym (find_at p xs) ∙ found in
    let within = slice_get_within xs (position_or_len p xs) x at in
    let read = get_or_from_slice_get xs (position_or_len p xs) x x at in
    ((position_or_len p xs, within, read), sym (ap p read) ∙ passes_at_first p xs x within)

-- where nothing is found none passes
pub none_passes : {X : Type 0} (p : X → Bool) (xs : List X) (place : ℕ) (x : X) → find p xs ≡ None → place < length xs → get_or xs place x ≡ x → p x ≡ false
none_passes p [] place x none within here = absurd (omega (arith, within))
none_passes {X} p (y ∷ ys) zero x none within here =
    by_test (p y)
    (λ passes. absurd (none-some y (sym none ∙ ap (λ b. cond b (Some y) (find p ys)) passes)))
    (λ fails. sym (ap p here) ∙ fails)
none_passes {X} p (y ∷ ys) (suc place) x none within here =
    by_test (p y)
    (λ passes. absurd (none-some y (sym none ∙ ap (λ b. cond b (Some y) (find p ys)) passes)))
    (λ fails. none_passes p ys place x (sym (ap (λ b. cond b (Some y) (find p ys)) fails) ∙ none) (omega (arith, within)) here)

-- as many entries are of a key as keys tie with it
pub entries_tie : {Value : Type 0} (key : Key) (entries : List (Entry Value)) → count_by (is_entry_of key) entries ≡ ties_with key_cmp key (keys_of entries)
entries_tie {Value} key entries = sym (fold-map (λ (n : ℕ) (other : Key). n + cond (is_eq (key_cmp key other)) 1 0) (λ (entry : Entry Value). entry.key) 0 entries)

-- ---- values of entries among more

-- the value of a key is the same among more entries, in another order, whose keys differ
pub value_among_more : {Value : Type 0} (old added new : List (Entry Value)) → IsPermutation (old ++ added) new → AtMostOnce key_cmp (keys_of new) → (key : Key) (entry : Entry Value) → find (is_entry_of key) old ≡ Some entry → find (is_entry_of key) new ≡ Some entry
value_among_more {Value} old added new moved once key entry found =
    let inside = found_in (is_entry_of key) old entry found in
    let there = Contains-permutation (old ++ added) new entry moved (Contains-append_left old added entry inside.0) in
    found_only (is_entry_of key) new there.0 entry (omega (arith, once key, entries_tie key new)) there.1 there.2 inside.1

-- the values of the other keys mean nothing, where the new ones do
pub same_meanings : {Value Meaning : Type 0} (meaning_of : Value → Meaning) (nothing : Meaning) (old added new : List (Entry Value)) → IsPermutation (old ++ added) new → AtMostOnce key_cmp (keys_of new) → AllByRecursion (λ entry. meaning_of entry.value ≡ nothing) added → SameMeanings meaning_of nothing old new
same_meanings {Value} {Meaning} meaning_of nothing old added new moved once plain key =
    let says : Option (Entry Value) → Meaning = λ found. unwrap_or (option_map meaning_of (option_map (λ (entry : Entry Value). entry.value) found)) nothing in
    by_option (find (is_entry_of key) old)
    (λ none.
    by_option (find (is_entry_of key) new)
    (λ none_new. ap says none_new ∙ sym (ap says none))
    (λ entry found.
    let inside = found_in (is_entry_of key) new entry found in
    let there = Contains-permutation new (old ++ added) entry (IsPermutation-sym (old ++ added) new moved) inside.0 in
    ap says found
    ∙ ⊎_elim
    (λ (in_old : Contains old entry). absurd (true≢false (sym inside.1 ∙ none_passes (is_entry_of key) old in_old.0 entry none in_old.1 in_old.2)))
    (λ (in_added : Contains added entry). All-contains (λ (one : Entry Value). meaning_of one.value ≡ nothing) added entry (All-from_recursion (λ (one : Entry Value). meaning_of one.value ≡ nothing) added plain) in_added)
    (Contains-append_cases old added entry there)
    ∙ sym (ap says none)))
    (λ entry found. ap says (value_among_more old added new moved once key entry found) ∙ sym (ap says found))

-- and each value stays ready
pub stay_ready_among_more : {Value : Type 0} (IsReady : Value → List Cell → Type 0) (old added new : List (Entry Value)) → IsPermutation (old ++ added) new → AtMostOnce key_cmp (keys_of new) → StayReady IsReady old new
stay_ready_among_more {Value} IsReady old added new moved once key row ready =
    by_option (find (is_entry_of key) old)
    (λ none. absurd (none-some ready.0 (sym (ap (option_map (λ (entry : Entry Value). entry.value)) none) ∙ ready.1)))
    (λ entry found.
    let value = ap (option_map (λ (one : Entry Value). one.value)) (value_among_more old added new moved once key entry found) in
    (ready.0, value ∙ sym (ap (option_map (λ (one : Entry Value). one.value)) found) ∙ ready.1, ready.2))

-- ---- equal meanings

-- what a key means, by pairs of keys and meanings
abbrev meaning_in : {Meaning : Type 0} → Meaning → Key → List (Key × Meaning) → Meaning
meaning_in nothing key [] = nothing
meaning_in nothing key (pair ∷ pairs) = cond (is_eq (key_cmp key pair.0)) pair.1 (meaning_in nothing key pairs)

meaning-in : {Value Meaning : Type 0} (meaning_of : Value → Meaning) (nothing : Meaning) (entries : List (Entry Value)) (key : Key) → meaning_at meaning_of nothing entries key ≡ meaning_in nothing key (meanings meaning_of entries)
meaning-in meaning_of nothing [] key = refl
meaning-in {Value} {Meaning} meaning_of nothing (entry ∷ entries) key =
    let says : Option (Entry Value) → Meaning = λ found. unwrap_or (option_map meaning_of (option_map (λ (one : Entry Value). one.value) found)) nothing in
    by_test (is_entry_of key entry)
    (λ passes. ap (λ b. says (cond b (Some entry) (find (is_entry_of key) entries))) passes ∙ sym (ap (λ b. cond b (meaning_of entry.value) (meaning_in nothing key (meanings meaning_of entries))) passes))
    (λ fails. ap (λ b. says (cond b (Some entry) (find (is_entry_of key) entries))) fails ∙ meaning-in meaning_of nothing entries key ∙ sym (ap (λ b. cond b (meaning_of entry.value) (meaning_in nothing key (meanings meaning_of entries))) fails))

-- entries that mean the same in order mean the same at each key
pub same_meanings_from_equal : {Value Meaning : Type 0} (meaning_of : Value → Meaning) (nothing : Meaning) (old new : List (Entry Value)) → meanings meaning_of new ≡ meanings meaning_of old → SameMeanings meaning_of nothing old new
same_meanings_from_equal meaning_of nothing old new same key =
    meaning-in meaning_of nothing new key ∙ ap (meaning_in nothing key) same ∙ sym (meaning-in meaning_of nothing old key)

-- ---- one value made ready

-- a function of each entry that a write leaves at its place is the same over all
pub map-set_same : {X Y : Type 0} (f : X → Y) (xs : List X) (place : ℕ) (x : X) → place < length xs → f x ≡ f (get_or xs place x) → map f (set xs place x) ≡ map f xs
map-set_same f [] place x within same = absurd (omega (arith, within))
map-set_same f (y ∷ ys) zero x within same = ap (λ z. z ∷ map f ys) same
map-set_same f (y ∷ ys) (suc place) x within same = ap (λ zs. f y ∷ zs) (map-set_same f ys place x (omega (arith, within)) same)

-- a value in the place of another that is ready for fewer rows leaves each key's value ready
pub stay_ready_set : {Value : Type 0} (IsReady : Value → List Cell → Type 0) (entries : List (Entry Value)) (place : ℕ) (entry : Entry Value) → place < length entries → entry.key ≡ (get_or entries place entry).key → ((row : List Cell) → IsReady (get_or entries place entry).value row → IsReady entry.value row) → StayReady IsReady entries (set entries place entry)
stay_ready_set IsReady [] place entry within same stays key row ready = absurd (omega (arith, within))
stay_ready_set {Value} IsReady (first ∷ entries) zero entry within same stays key row ready =
    let value_of : Option (Entry Value) → Option Value = option_map (λ one. one.value) in
    let test : is_entry_of key entry ≡ is_entry_of key first = ap (λ k. is_eq (key_cmp key k)) same in
    by_test (is_entry_of key first)
    (λ passes.
    let own : first.value ≡ ready.0 = same_Some first.value ready.0 (sym (ap (λ b. value_of (cond b (Some first) (find (is_entry_of key) entries))) passes) ∙ ready.1) in
    (entry.value, ap (λ b. value_of (cond b (Some entry) (find (is_entry_of key) entries))) (test ∙ passes), stays row (rw own ready.2)))
    (λ fails.
    let later = sym (ap (λ b. value_of (cond b (Some first) (find (is_entry_of key) entries))) fails) ∙ ready.1 in
    (ready.0, ap (λ b. value_of (cond b (Some entry) (find (is_entry_of key) entries))) (test ∙ fails) ∙ later, ready.2))
stay_ready_set {Value} IsReady (first ∷ entries) (suc place) entry within same stays key row ready =
    let value_of : Option (Entry Value) → Option Value = option_map (λ one. one.value) in
    let rest = set entries place entry in
    by_test (is_entry_of key first)
    (λ passes.
    let own = sym (ap (λ b. value_of (cond b (Some first) (find (is_entry_of key) entries))) passes) ∙ ready.1 in
    (ready.0, ap (λ b. value_of (cond b (Some first) (find (is_entry_of key) rest))) passes ∙ own, ready.2))
    (λ fails.
    let later = sym (ap (λ b. value_of (cond b (Some first) (find (is_entry_of key) entries))) fails) ∙ ready.1 in
    let kept = stay_ready_set IsReady entries place entry (omega (arith, within)) same stays key row (ready.0, later, ready.2) in
    (kept.0, ap (λ b. value_of (cond b (Some first) (find (is_entry_of key) rest))) fails ∙ kept.1, kept.2))

-- ---- the entry of a key, made ready

-- where no entry is of a key, it is not among the keys
pub none_at_position : {Value : Type 0} (entries : List (Entry Value)) (key : Key) → position (is_entry_of key) entries ≡ None → is_among key_cmp (keys_of entries) key ≡ false
none_at_position {Value} entries key none =
    let first = position_or_len (is_entry_of key) entries in
    by_test (ltb first (length entries))
    (λ before. absurd (none-some first (sym none ∙ ap (λ b. cond b (Some first) None) before)))
    (λ past.
    list_any-map (λ own. is_eq (key_cmp key own)) (λ (entry : Entry Value). entry.key) entries
    ∙ list_any_none (is_entry_of key) entries (λ k d within. fails_before_first (is_entry_of key) entries k d (omega (arith, within, ltb-false first (length entries) past))))

-- the key of the entry at a key's position is that key
pub key_at_position : {Value : Type 0} (entries : List (Entry Value)) (key : Key) (place : ℕ) → position (is_entry_of key) entries ≡ Some place → (place < length entries) × (slice_get (keys_of entries) place ≡ Some key)
key_at_position [] key place found = absurd (none-some place found)
key_at_position {Value} (first ∷ entries) key place found =
    let at = position-Some (is_entry_of key) (first ∷ entries) place first found in
    let same : key ≡ (get_or (first ∷ entries) place first).key = key_cmp-equal key (get_or (first ∷ entries) place first).key (equal_from_test (key_cmp key (get_or (first ∷ entries) place first).key) at.1) in (
      at.0,
      slice_get-map (λ (entry : Entry Value). entry.key) (first ∷ entries) place
          ∙ ap (option_map (λ (entry : Entry Value). entry.key)) (slice_get-get_or (first ∷ entries) place first at.0)
          ∙ ap Some (sym same),
    )

-- the entry at a place with another value
abbrev pub with_value : {Value : Type 0} → List (Entry Value) → ℕ → Entry Value → Value → Entry Value
with_value entries place d value = record { key = (get_or entries place d).key; value = value }

-- a value of the same meaning, ready for as many rows, keeps what entries are kept for
pub prepared_kept : {Value Meaning : Type 0} (meaning_of : Value → Meaning) (IsReady : Value → List Cell → Type 0) (calls : Option (Value → ℕ)) (entries : List (Entry Value)) (place : ℕ) (d : Entry Value) (value : Value) → place < length entries → meaning_of value ≡ meaning_of (get_or entries place d).value → ((row : List Cell) → IsReady (get_or entries place d).value row → IsReady value row) → SameCalls calls (get_or entries place d).value value → AreKept meaning_of IsReady calls entries (set entries place (with_value entries place d value))
prepared_kept {Value} {Meaning} meaning_of IsReady calls entries place d value within means stays told =
    let entry = with_value entries place d value in
    let same : get_or entries place d ≡ get_or entries place entry = get_or_default entries place d entry within in
    record {
      same_keys = map-set_same (λ (one : Entry Value). one.key) entries place entry within (ap (λ one. one.key) same);
      same_meanings = map-set_same (λ (one : Entry Value). (one.key, meaning_of one.value)) entries place entry within (ap (λ meaning. ((get_or entries place d).key, meaning)) means ∙ ap (λ one. (one.key, meaning_of one.value)) same);
      stay_ready = stay_ready_set IsReady entries place entry within (ap (λ one. one.key) same) (λ row ready. stays row (rw same ready));
      keep_calls = calls_from_stay calls entries (set entries place entry) (λ one.
          stay_ready_set (λ own row. SameCalls calls one own) entries place entry within (ap (λ other. other.key) same) (λ row so_far.
          same_calls_on calls one (get_or entries place d).value value (rw same so_far) told));
    }

-- and the value at a key's position that is ready for a row is the key's
pub prepared_ready : {Value : Type 0} (IsReady : Value → List Cell → Type 0) (entries : List (Entry Value)) (key : Key) (place : ℕ) (d : Entry Value) (value : Value) (row : List Cell) → position (is_entry_of key) entries ≡ Some place → IsReady value row → IsReadyAt IsReady (set entries place (with_value entries place d value)) key row
prepared_ready {Value} IsReady entries key place d value row found ready =
    let at = position-Some (is_entry_of key) entries place d found in
    let first = cond_some (ltb (position_or_len (is_entry_of key) entries) (length entries)) (position_or_len (is_entry_of key) entries) place found in
    (value, ap (option_map (λ (one : Entry Value). one.value)) (find-set (is_entry_of key) entries place (with_value entries place d value) (sym first.1) at.0 at.1), ready)

-- what is kept twice is kept
pub kept_on : {Value Meaning : Type 0} {calls : Option (Value → ℕ)} (meaning_of : Value → Meaning) (IsReady : Value → List Cell → Type 0) (old new later : List (Entry Value)) → AreKept meaning_of IsReady calls old new → AreKept meaning_of IsReady calls new later → AreKept meaning_of IsReady calls old later
kept_on {calls = calls} meaning_of IsReady old new later first next = record {
  same_keys = next.same_keys ∙ first.same_keys;
  same_meanings = next.same_meanings ∙ first.same_meanings;
  stay_ready = λ key row ready. next.stay_ready key row (first.stay_ready key row ready);
  keep_calls = keep_calls_on calls old new later first.keep_calls next.keep_calls;
}
