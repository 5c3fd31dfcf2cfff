-- Values at ascending positions change one after another, each once.
use Rattle.std.proofs.Common.{◌≡◌, ◌≢◌, ℕ, zero, suc, ◌+◌, ◌<◌, Bool, true, false, ◌||◌, eqb, List, [], ◌∷◌, Option, length, get_or, set, take, refl, sym, ap, subst, ◌∙◌, arith, ⊎_elim, get_or-set_other, get_or-set_same}
use Rattle.std.proofs.lemmas.Bool.{cases_eq}
use Rattle.std.proofs.lemmas.Bool.Decides.{nat_tests}
use Rattle.std.proofs.lemmas.Cmp.{ranked}
use Rattle.std.proofs.lemmas.List.{length-set, take_more}
use Rattle.std.proofs.lemmas.List.Elements.{All-from_recursion}
use Rattle.std.proofs.lemmas.List.Folds.{list_any-append}
use Rattle.std.specs.List.Sorted.{IsStrictlySortedBy}
use Rattle.std.specs.Ordering.{nat_cmp}
use Rattle.std.specs.declared.cmp.Ordering.TheVariants.{Less}
use Rattle.xf_base.specs.declared.cell.Cell.{Cell}
use Rattle.xf_group.specs.Changed.{IsChanged, IsChangedIf}
use Rattle.xf_group.specs.ChangedAt.{AreChangedAt}
use Rattle.xf_group.specs.Used.{is_listed}
use Rattle.xf_group.specs.declared.entry.Entry.{Entry}
use Rattle.xf_group.proofs.PlacedKeys.{eqb-same}

eqb-lower : (x y : ℕ) → nat_cmp x y ≡ Less → eqb y x ≡ false
eqb-lower x y less = let lt : x < y = ranked x y Less (sym less) in grind (arith, nat_tests)

eqb-other : (k p : ℕ) → k ≢ p → eqb k p ≡ false
eqb-other k p other = grind (arith, nat_tests)

-- of positions that ascend none comes twice
pub not_listed : (positions : List ℕ) → IsStrictlySortedBy nat_cmp positions → (i : ℕ) → i < length positions → is_listed (take i positions) (get_or positions i 0) ≡ false
unfolding IsStrictlySortedBy
not_listed [] sorted i inside = absurd (omega (arith, inside))
not_listed (x ∷ xs) sorted zero inside = refl
not_listed (x ∷ xs) sorted (suc i) inside =
    let within : i < length xs = omega (arith, inside) in
    let first : eqb (get_or xs i 0) x ≡ false = eqb-lower x (get_or xs i 0) (All-from_recursion (λ y. nat_cmp x y ≡ Less) xs sorted.0 i 0 within) in
    ap (λ b. b || is_listed (take i xs) (get_or xs i 0)) first ∙ not_listed xs sorted.1 i within

-- one position more
listed_more : (positions : List ℕ) (i : ℕ) (k : ℕ) → i < length positions → is_listed (take (i + 1) positions) k ≡ (is_listed (take i positions) k || (eqb k (get_or positions i 0) || false))
listed_more positions i k inside =
    ap (λ some. is_listed some k) (take_more positions i 0 inside)
    ∙ list_any-append (λ own. eqb k own) (take i positions) (get_or positions i 0 ∷ [])

or_last : (a : Bool) → (a || (true || false)) ≡ true
or_last true = refl
or_last false = refl

or_none : (a : Bool) → (a || (false || false)) ≡ a
or_none true = refl
or_none false = refl

listed_last : (positions : List ℕ) (i : ℕ) → i < length positions → is_listed (take (i + 1) positions) (get_or positions i 0) ≡ true
listed_last positions i inside =
    listed_more positions i (get_or positions i 0) inside
    ∙ ap (λ b. is_listed (take i positions) (get_or positions i 0) || (b || false)) (eqb-same (get_or positions i 0))
    ∙ or_last (is_listed (take i positions) (get_or positions i 0))

listed_other : (positions : List ℕ) (i k : ℕ) → i < length positions → k ≢ get_or positions i 0 → is_listed (take (i + 1) positions) k ≡ is_listed (take i positions) k
listed_other positions i k inside other =
    listed_more positions i k inside
    ∙ ap (λ b. is_listed (take i positions) k || (b || false)) (eqb-other k (get_or positions i 0) other)
    ∙ or_none (is_listed (take i positions) k)

module _ {Value Meaning : Type 0} (meaning_of : Value → Meaning) (changed : Meaning → Meaning) (IsReady : Value → List Cell → Type 0) (calls : Option (Value → ℕ)) where
  -- at a position that is not listed the value is as it was
  pub unchanged_yet : (positions : List ℕ) (old now : List (Entry Value)) (p : ℕ) (d : Entry Value) → AreChangedAt meaning_of changed IsReady calls positions old now → p < length old → is_listed positions p ≡ false → (get_or now p d).value ≡ (get_or old p d).value
  unchanged_yet positions old now p d so_far inside unlisted =
      subst (λ b. IsChangedIf meaning_of changed IsReady calls b (get_or old p d).value (get_or now p d).value) unlisted (so_far.value p d inside)

  changed_if : (b : Bool) (old new : Value) → b ≡ true → IsChanged meaning_of changed IsReady calls old new → IsChangedIf meaning_of changed IsReady calls b old new
  changed_if b old new held has = subst (λ c. IsChangedIf meaning_of changed IsReady calls c old new) (sym held) has

  -- one value more changes
  pub changed_more : (positions : List ℕ) (i : ℕ) (old now new : List (Entry Value)) (entry : Entry Value) → IsStrictlySortedBy nat_cmp positions → i < length positions → get_or positions i 0 < length old
      → AreChangedAt meaning_of changed IsReady calls (take i positions) old now → new ≡ set now (get_or positions i 0) entry
      → ((d : Entry Value) → entry.key ≡ (get_or now (get_or positions i 0) d).key) → ((d : Entry Value) → IsChanged meaning_of changed IsReady calls (get_or now (get_or positions i 0) d).value entry.value)
      → AreChangedAt meaning_of changed IsReady calls (take (i + 1) positions) old new
  changed_more positions i old now new entry sorted inside within so_far is key value =
      let p : ℕ = get_or positions i 0 in
      let room : p < length now = omega (arith, so_far.each, within) in
      record {
        each = ap length is ∙ length-set now p entry ∙ so_far.each;
        key = λ k d known.
            ⊎_elim
            (λ (same : k ≡ p).
            let here : get_or new k d ≡ entry = ap (λ es. get_or es k d) is ∙ ap (λ n. get_or (set now p entry) n d) same ∙ get_or-set_same now p entry d room in
            ap (λ (e : Entry Value). e.key) here ∙ key d ∙ so_far.key p d within ∙ ap (λ n. (get_or old n d).key) (sym same))
            (λ (other : k ≡ p → ⊥).
            let here : get_or new k d ≡ get_or now k d = ap (λ es. get_or es k d) is ∙ get_or-set_other now p k entry d other in
            ap (λ (e : Entry Value). e.key) here ∙ so_far.key k d known)
            (cases_eq k p);
        value = λ k d known.
            ⊎_elim
            (λ (same : k ≡ p).
            let here : get_or new p d ≡ entry = ap (λ es. get_or es p d) is ∙ get_or-set_same now p entry d room in
            let before : (get_or now p d).value ≡ (get_or old p d).value = unchanged_yet (take i positions) old now p d so_far within (not_listed positions sorted i inside) in
            let changes : IsChanged meaning_of changed IsReady calls (get_or old p d).value (get_or new p d).value =
            subst (λ v. IsChanged meaning_of changed IsReady calls v (get_or new p d).value) before
            (subst (λ (e : Entry Value). IsChanged meaning_of changed IsReady calls (get_or now p d).value e.value) (sym here) (value d)) in
            subst (λ n. IsChangedIf meaning_of changed IsReady calls (is_listed (take (i + 1) positions) n) (get_or old n d).value (get_or new n d).value) (sym same)
            (changed_if (is_listed (take (i + 1) positions) p) (get_or old p d).value (get_or new p d).value (listed_last positions i inside) changes))
            (λ (other : k ≡ p → ⊥).
            let here : get_or new k d ≡ get_or now k d = ap (λ es. get_or es k d) is ∙ get_or-set_other now p k entry d other in
            subst (λ b. IsChangedIf meaning_of changed IsReady calls b (get_or old k d).value (get_or new k d).value) (sym (listed_other positions i k inside other))
            (subst (λ (e : Entry Value). IsChangedIf meaning_of changed IsReady calls (is_listed (take i positions) k) (get_or old k d).value e.value) (sym here) (so_far.value k d known)))
            (cases_eq k p);
      }
