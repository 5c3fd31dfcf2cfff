-- Values that are made ready at the positions of a place.
use Rattle.std.proofs.Common.{◌≡◌, ℕ, ◌+◌, ◌<◌, List, [], ◌∷◌, ◌++◌, Option, Some, length, map, get_or, set, slice_get, take, refl, sym, ap, subst, ◌∙◌, arith}
use Rattle.std.proofs.lemmas.Cmp.{tied_itself}
use Rattle.std.proofs.lemmas.List.{take_more}
use Rattle.std.proofs.lemmas.List.Elements.{All-from_recursion}
use Rattle.std.proofs.lemmas.Option.{slice_get-get_or, slice_get-map}
use Rattle.std.specs.List.{AllByRecursion, position}
use Rattle.std.specs.List.Sorted.{IsStrictlySortedBy}
use Rattle.std.specs.Option.{option_map}
use Rattle.xf_base.specs.Key.{key_cmp}
use Rattle.xf_base.specs.KeyOrder.{key_cmp_total}
use Rattle.xf_base.specs.declared.cell.Cell.{Cell}
use Rattle.xf_base.specs.declared.key.Key.{Key}
use Rattle.xf_group.proofs.AdmitEntries.{kept_on, prepared_kept, prepared_ready, with_value}
use Rattle.xf_group.proofs.AdmitPlaces.{all_more, one_position_more}
use Rattle.xf_group.proofs.AdmitSteps.{kept_length}
use Rattle.xf_group.proofs.AscendingEntries.{entry_at}
use Rattle.xf_group.proofs.PlacedKeys.{all_then}
use Rattle.xf_group.specs.Admitted.{IsReadyAt, StayReady}
use Rattle.xf_group.specs.Fresh.{AreKept}
use Rattle.xf_group.specs.Group.{is_entry_of, meanings}
use Rattle.xf_group.specs.Held.{keys_at_positions, keys_of}
use Rattle.xf_group.specs.declared.entry.Entry.{Entry}
use Rattle.xf_reduce.specs.Laws.{SameCalls}

-- one position more, at which the value of a key is ready
ready_more : {V : Type 0} (IsReady : V → List Cell → Type 0) (keys : List Key) (old new : List (Entry V)) (row : List Cell) (positions : List ℕ) (i : ℕ) (key : Key)
    → i < length positions → slice_get keys (get_or positions i 0) ≡ Some key → StayReady IsReady old new
    → AllByRecursion (λ own. IsReadyAt IsReady old own row) (keys_at_positions keys (take i positions)) → IsReadyAt IsReady new key row
    → AllByRecursion (λ own. IsReadyAt IsReady new own row) (keys_at_positions keys (take (i + 1) positions))
ready_more IsReady keys old new row positions i key within there stay so_far here =
    let more : keys_at_positions keys (take (i + 1) positions) ≡ keys_at_positions keys (take i positions) ++ key ∷ [] =
    ap (keys_at_positions keys) (take_more positions i 0 within) ∙ one_position_more keys (take i positions) (get_or positions i 0) key there in
    subst (AllByRecursion (λ own. IsReadyAt IsReady new own row)) (sym more)
    (all_more (λ own. IsReadyAt IsReady new own row) (keys_at_positions keys (take i positions)) key
    (all_then (λ own. IsReadyAt IsReady old own row) (λ own. IsReadyAt IsReady new own row) (λ own ready. stay own row ready) (keys_at_positions keys (take i positions)) so_far) here)

module _ {V Meaning : Type 0} {calls : Option (V → ℕ)} (meaning_of : V → Meaning) (IsReady : V → List Cell → Type 0) (first old : List (Entry V)) (positions : List ℕ) (i : ℕ) (d : Entry V) (value : V) (within : AllByRecursion (λ position. position < length first) positions) (inside : i < length positions) (kept : AreKept meaning_of IsReady calls first old)
    (means : meaning_of value ≡ meaning_of (get_or old (get_or positions i 0) d).value) (stays : (row : List Cell) → IsReady (get_or old (get_or positions i 0) d).value row → IsReady value row) (told : SameCalls calls (get_or old (get_or positions i 0) d).value value) where
  -- the entries with the value at the position
  abbrev new : List (Entry V)
  new = set old (get_or positions i 0) (with_value old (get_or positions i 0) d value)

  there : get_or positions i 0 < length old
  there = let one = All-from_recursion (λ position. position < length first) positions within i 0 inside in omega (arith, one, kept_length meaning_of IsReady first old kept)

  kept_now : AreKept meaning_of IsReady calls old new
  kept_now = prepared_kept meaning_of IsReady calls old (get_or positions i 0) d value there means stays told

  -- they are kept
  pub prepared_more : AreKept meaning_of IsReady calls first new
  prepared_more = kept_on meaning_of IsReady first old new kept kept_now

  -- and the values at the positions so far are ready
  pub prepared_next : (row : List Cell) → IsStrictlySortedBy key_cmp (keys_of first) → IsReady value row → AllByRecursion (λ own. IsReadyAt IsReady old own row) (keys_at_positions (keys_of first) (take i positions))
      → AllByRecursion (λ own. IsReadyAt IsReady new own row) (keys_at_positions (keys_of first) (take (i + 1) positions))
  prepared_next row sorted ready so_far =
      let p : ℕ = get_or positions i 0 in
      let key : Key = (get_or old p d).key in
      let found : position (is_entry_of key) old ≡ Some p = entry_at old key p (subst (IsStrictlySortedBy key_cmp) (sym kept.same_keys) sorted) there d (tied_itself key_cmp_total key) in
      let own : slice_get (keys_of first) p ≡ Some key =
      ap (λ keys. slice_get keys p) (sym kept.same_keys) ∙ slice_get-map (λ (entry : Entry V). entry.key) old p ∙ ap (option_map (λ (entry : Entry V). entry.key)) (slice_get-get_or old p d there) in
      ready_more IsReady (keys_of first) old new row positions i key inside own kept_now.stay_ready so_far (prepared_ready IsReady old key p d value row found ready)

-- where each means nothing they are the keys, each with nothing
pub plain_meanings : {V Meaning : Type 0} (meaning_of : V → Meaning) (nothing : Meaning) (entries : List (Entry V)) → AllByRecursion (λ entry. meaning_of entry.value ≡ nothing) entries → meanings meaning_of entries ≡ map (λ key. (key, nothing)) (keys_of entries)
plain_meanings meaning_of nothing [] all = refl
plain_meanings meaning_of nothing (entry ∷ entries) all =
    ap (λ (meaning : _). (entry.key, meaning) ∷ meanings meaning_of entries) all.0 ∙ ap (λ rest. (entry.key, nothing) ∷ rest) (plain_meanings meaning_of nothing entries all.1)
