-- The values of a place's keys may change, and change, as those at its positions do.
use Rattle.std.proofs.Common.{◌≡◌, ℕ, ◌<◌, Bool, true, eqb, List, [], ◌∷◌, Option, Some, length, get_or, slice_get, refl, sym, ap, subst, ◌∙◌, arith}
use Rattle.std.proofs.lemmas.List.{get_or_default}
use Rattle.std.proofs.lemmas.List.Elements.{All-from_recursion}
use Rattle.std.specs.Bool.{⊤}
use Rattle.std.specs.List.{AllZip}
use Rattle.xf_base.specs.Key.{key_cmp}
use Rattle.xf_base.specs.declared.cell.Cell.{Cell}
use Rattle.xf_base.specs.declared.column.Column.{Column}
use Rattle.xf_base.specs.declared.key.Key.{Key}
use Rattle.xf_group.specs.Changed.{AreChanged, IsChangedIf, MayChange, MayChangeAll}
use Rattle.xf_group.specs.ChangedAt.{AreChangedAt, MayChangeAt}
use Rattle.xf_group.specs.Group.{IsGroup, keys_at}
use Rattle.xf_group.specs.Held.{AreWithin, grouped, keys_of}
use Rattle.xf_group.specs.Used.{is_listed}
use Rattle.xf_group.specs.declared.entry.Entry.{Entry}
use Rattle.xf_group.proofs.GroupHeld.{all_zip_from_places, own_among, own_within}
use Rattle.xf_group.proofs.PlacedKeys.{any_at, eqb-same}
use Rattle.xf_model.specs.Group.{Reducer}
use Rattle.xf_model.specs.Laws.{is_among}

-- a position of a list is listed
listed_at : (own : List ℕ) (i : ℕ) → i < length own → is_listed own (get_or own i 0) ≡ true
listed_at own i inside = any_at (λ position. eqb (get_or own i 0) position) own i 0 inside (eqb-same (get_or own i 0))

-- entries that are related one by one by the same keys have the same keys
keys_from_zip : {V : Type 0} (P : Entry V → Entry V → Type 0) (old new : List (Entry V)) → AllZip (λ one other. (other.key ≡ one.key) × P one other) old new → keys_of new ≡ keys_of old
keys_from_zip P [] [] all = refl
keys_from_zip P [] (y ∷ ys) all = absurd all
keys_from_zip P (x ∷ xs) [] all = absurd all
keys_from_zip P (x ∷ xs) (y ∷ ys) all =
    ap (λ key. key ∷ keys_of ys) all.0.0 ∙ ap (λ rest. x.key ∷ rest) (keys_from_zip P xs ys all.1)

module _ {R V Meaning : Type 0} (reducer : R) (entries : List (Entry V)) (places : List (List ℕ)) (place : ℕ) (own : List ℕ) where
  pub may_at : (meaning_of : V → Meaning) (fits : List Column → Bool) (folding : Reducer (List Cell) Meaning) (IsReady : V → List Cell → Type 0) (on : Bool) (row : List Cell) (lent : List (Entry V))
      → IsGroup (grouped reducer entries places) → AreWithin (length entries) places → Some own ≡ slice_get places place → lent ≡ entries
      → MayChangeAll meaning_of fits folding IsReady (keys_at (grouped reducer entries places) place) on row entries → MayChangeAt meaning_of fits folding IsReady own on row lent
  may_at meaning_of fits folding IsReady on row lent group within here same may =
      let keys : List Key = keys_at (grouped reducer entries places) place in
      subst (MayChangeAt meaning_of fits folding IsReady own on row) (sym same) (λ i d inside.
      let p : ℕ = get_or own i 0 in
      let room : p < length entries = All-from_recursion (λ position. position < length entries) own (own_within reducer entries places place own within here) i 0 inside in
      let among : is_among key_cmp keys (get_or entries p d).key ≡ true = own_among reducer entries places place own p d group within here room ∙ listed_at own i inside in
      All-from_recursion (λ (entry : Entry V). is_among key_cmp keys entry.key ≡ true → MayChange fits folding on (meaning_of entry.value) row × IsReady entry.value row) entries may p d room among)

  pub are_changed : (meaning_of : V → Meaning) (changed : Meaning → Meaning) (IsReady : V → List Cell → Type 0) (calls : Option (V → ℕ)) (lent new : List (Entry V))
      → IsGroup (grouped reducer entries places) → AreWithin (length entries) places → Some own ≡ slice_get places place → lent ≡ entries
      → AreChangedAt meaning_of changed IsReady calls own lent new → AreChanged meaning_of changed IsReady calls (keys_at (grouped reducer entries places) place) entries new
  are_changed meaning_of changed IsReady calls lent new group within here same at =
      let keys : List Key = keys_at (grouped reducer entries places) place in
      let there : AreChangedAt meaning_of changed IsReady calls own entries new = subst (λ es. AreChangedAt meaning_of changed IsReady calls own es new) same at in
      all_zip_from_places (λ (one : Entry V) (other : Entry V). (other.key ≡ one.key) × IsChangedIf meaning_of changed IsReady calls (is_among key_cmp keys one.key) one.value other.value) entries new there.each
      (λ k d e inside.
      let known : get_or new k d ≡ get_or new k e = get_or_default new k d e (omega (arith, there.each, inside)) in
      subst (λ (other : Entry V). (other.key ≡ (get_or entries k d).key) × IsChangedIf meaning_of changed IsReady calls (is_among key_cmp keys (get_or entries k d).key) (get_or entries k d).value other.value) known
      (there.key k d inside, subst (λ b. IsChangedIf meaning_of changed IsReady calls b (get_or entries k d).value (get_or new k d).value) (sym (own_among reducer entries places place own k d group within here inside)) (there.value k d inside)))

-- the keys are as before
pub at_changed_keys : {V Meaning : Type 0} (meaning_of : V → Meaning) (changed : Meaning → Meaning) (IsReady : V → List Cell → Type 0) (calls : Option (V → ℕ)) (own : List ℕ) (lent entries new : List (Entry V)) → lent ≡ entries
    → AreChangedAt meaning_of changed IsReady calls own lent new → keys_of new ≡ keys_of entries
at_changed_keys {V} meaning_of changed IsReady calls own lent entries new same at =
    keys_from_zip (λ (one : Entry V) (other : Entry V). ⊤) lent new
    (all_zip_from_places (λ (one : Entry V) (other : Entry V). (other.key ≡ one.key) × ⊤) lent new at.each (λ k d e inside. (ap (λ (entry : Entry V). entry.key) (get_or_default new k e d (omega (arith, at.each, inside))) ∙ at.key k d inside, tt)))
    ∙ ap keys_of same
