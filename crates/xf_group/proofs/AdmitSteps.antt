-- Steps of the loops that enter places: one key more, and one place more.
use Rattle.std.proofs.Common.{◌≡◌, ℕ, ◌+◌, ◌*◌, ◌<◌, ◌≤◌, true, List, [], ◌∷◌, ◌++◌, Option, length, get_or, take, Some, slice_get, append_assoc, add-mul, mul-add, sym, ap, subst, ◌∙◌, arith}
use Rattle.std.proofs.lemmas.List.{length-map, length-take, take-append-le, take_all, take_more}
use Rattle.std.proofs.lemmas.List.Elements.{All-from_recursion}
use Rattle.std.proofs.lemmas.List.Sums.{sum_by_more}
use Rattle.std.proofs.lemmas.Option.{slice_get_within}
use Rattle.std.specs.List.{AllByRecursion, AllZip, sum_by}
use Rattle.xf_base.specs.Key.{key_cmp}
use Rattle.xf_base.specs.declared.cell.Cell.{Cell}
use Rattle.xf_base.specs.declared.key.Key.{Key}
use Rattle.xf_group.specs.Admitted.{AreReady, IsReadyAt, StayReady}
use Rattle.xf_group.specs.Fresh.{AreKept}
use Rattle.xf_group.specs.Held.{AreWithin, key_lists, keys_at_positions, keys_of}
use Rattle.xf_group.specs.declared.entry.Entry.{Entry}
use Rattle.xf_group.proofs.AdmitPlaces.{all_more, one_place_more, one_position_more}
use Rattle.xf_group.proofs.PlacedKeys.{all_then}
use Rattle.xf_model.specs.Digits.{digits}
use Rattle.xf_model.specs.Laws.{is_among}

-- kept entries are as many
pub kept_length : {Value Meaning : Type 0} {calls : Option (Value → ℕ)} (meaning_of : Value → Meaning) (IsReady : Value → List Cell → Type 0) (old new : List (Entry Value)) → AreKept meaning_of IsReady calls old new → length new ≡ length old
kept_length meaning_of IsReady old new kept = sym (length-map new (λ entry. entry.key)) ∙ ap length kept.same_keys ∙ length-map old (λ entry. entry.key)

-- what holds of each of a list holds of the one that was read at a place
pub all_read : {X : Type 0} (P : X → Type 0) (xs : List X) (place : ℕ) (x : X) → AllByRecursion P xs → place < length xs → x ≡ get_or xs place x → P x
all_read P xs place x all within is = subst P (sym is) (All-from_recursion P xs all place x within)

-- a key that was among the keys of entries is among those of kept ones
pub still_among : (old new : List Key) (key : Key) → new ≡ old → is_among key_cmp old key ≡ true → is_among key_cmp new key ≡ true
still_among old new key same among = ap (λ keys. is_among key_cmp keys key) same ∙ among

-- ---- one key more

pub positions_step : (old new : List Key) (own : List ℕ) (position : ℕ) (keys : List Key) (place : ℕ) (key : Key) → new ≡ old → place < length keys → key ≡ get_or keys place key → keys_at_positions old own ≡ take place keys → slice_get new position ≡ Some key → keys_at_positions new (own ++ position ∷ []) ≡ take (place + 1) keys
positions_step old new own position keys place key same within is so_far here =
    one_position_more new own position key here
    ∙ ap (λ ks. ks ++ key ∷ []) (ap (λ ks. keys_at_positions ks own) same ∙ so_far)
    ∙ ap (λ k. take place keys ++ k ∷ []) is
    ∙ sym (take_more keys place key within)

pub within_step : (n m : ℕ) (own : List ℕ) (position : ℕ) → m ≡ n → AllByRecursion (λ one. one < n) own → position < m → AllByRecursion (λ one. one < m) (own ++ position ∷ [])
within_step n m own position same all here = all_more (λ one. one < m) own position (all_then (λ one. one < n) (λ one. one < m) (λ one less. omega (arith, less, same)) own all) here

pub position_within : {Value : Type 0} (entries : List (Entry Value)) (position : ℕ) (key : Key) → slice_get (keys_of entries) position ≡ Some key → position < length entries
position_within entries position key here = omega (arith, slice_get_within (keys_of entries) position key here, length-map entries (λ entry. entry.key))

pub ready_step : {Value : Type 0} (IsReady : Value → List Cell → Type 0) (old new : List (Entry Value)) (row : List Cell) (keys : List Key) (place : ℕ) (key : Key) → StayReady IsReady old new → place < length keys → key ≡ get_or keys place key → AllByRecursion (λ one. IsReadyAt IsReady old one row) (take place keys) → IsReadyAt IsReady new key row → AllByRecursion (λ one. IsReadyAt IsReady new one row) (take (place + 1) keys)
ready_step {Value} IsReady old new row keys place key stay within is so_far here =
    let more : take (place + 1) keys ≡ take place keys ++ key ∷ [] = take_more keys place key within ∙ ap (λ k. take place keys ++ k ∷ []) (sym is) in
    subst (AllByRecursion (λ one. IsReadyAt IsReady new one row)) (sym more)
    (all_more (λ one. IsReadyAt IsReady new one row) (take place keys) key (all_then (λ one. IsReadyAt IsReady old one row) (λ one. IsReadyAt IsReady new one row) (λ one ready. stay one row ready) (take place keys) so_far) here)

pub cost_step : (cost count before now start : ℕ) → now ≤ before + cost → before ≤ start + cost * count → now ≤ start + cost * (count + 1)
cost_step cost count before now start step so_far = let more : cost * (count + 1) ≡ cost * count + cost = grind arith in omega (arith, step, so_far, more)

-- a bound in the digits of a number is one in those of an equal number
pub step_digits : (old new before now : ℕ) → new ≡ old → now ≤ before + digits new → now ≤ before + digits old
step_digits old new before now same bound = subst (λ n. now ≤ before + digits n) same bound

pub cost_digits : (old new count index now start : ℕ) → new ≡ old → index ≡ count → now ≤ start + digits old * index → now ≤ start + digits new * count
cost_digits old new count index now start same end bound = subst (λ n. now ≤ start + digits n * count) (sym same) (subst (λ i. now ≤ start + digits old * i) end bound)

-- ---- one place more

zip_then : {A B : Type 0} (R S : A → B → Type 0) → ((x : A) (y : B) → R x y → S x y) → (xs : List A) (ys : List B) → AllZip R xs ys → AllZip S xs ys
zip_then R S step [] [] all = tt
zip_then R S step [] (y ∷ ys) all = absurd all
zip_then R S step (x ∷ xs) [] all = absurd all
zip_then R S step (x ∷ xs) (y ∷ ys) all = (step x y all.0, zip_then R S step xs ys all.1)

zip_more : {A B : Type 0} (R : A → B → Type 0) (xs : List A) (ys : List B) (x : A) (y : B) → AllZip R xs ys → R x y → AllZip R (xs ++ x ∷ []) (ys ++ y ∷ [])
zip_more R [] [] x y all here = (here, tt)
zip_more R [] (z ∷ ys) x y all here = absurd all
zip_more R (z ∷ xs) [] x y all here = absurd all
zip_more R (z ∷ xs) (w ∷ ys) x y all here = (all.0, zip_more R xs ys x y all.1 here)

more_read : {X : Type 0} (xs : List X) (place : ℕ) (x : X) → place < length xs → x ≡ get_or xs place x → take (place + 1) xs ≡ take place xs ++ x ∷ []
more_read xs place x within is = take_more xs place x within ∙ ap (λ y. take place xs ++ y ∷ []) (sym is)

pub ready_places_step : {Value : Type 0} (IsReady : Value → List Cell → Type 0) (old new : List (Entry Value)) (rows : List (List Cell)) (keys : List (List Key)) (place : ℕ) (row : List Cell) (own : List Key) → StayReady IsReady old new → place < length rows → length keys ≡ length rows → row ≡ get_or rows place row → own ≡ get_or keys place own → AreReady IsReady old (take place rows) (take place keys) → AllByRecursion (λ key. IsReadyAt IsReady new key row) own → AreReady IsReady new (take (place + 1) rows) (take (place + 1) keys)
ready_places_step {Value} IsReady old new rows keys place row own stay within each is_row is_own so_far here =
    let Ready : List (Entry Value) → List Cell → List Key → Type 0 = λ entries row own. AllByRecursion (λ key. IsReadyAt IsReady entries key row) own in
    let kept : AllZip (Ready new) (take place rows) (take place keys) = zip_then (Ready old) (Ready new) (λ row own all. all_then (λ key. IsReadyAt IsReady old key row) (λ key. IsReadyAt IsReady new key row) (λ key ready. stay key row ready) own all) (take place rows) (take place keys) so_far in
    subst (λ rs. AllZip (Ready new) rs (take (place + 1) keys)) (sym (more_read rows place row within is_row))
    (subst (AllZip (Ready new) (take place rows ++ row ∷ [])) (sym (more_read keys place own (omega (arith, within, each)) is_own)) (zip_more (Ready new) (take place rows) (take place keys) row own kept here))

pub places_step : (old new : List Key) (begun : List (List Key)) (places : List (List ℕ)) (positions : List ℕ) (keys : List (List Key)) (place : ℕ) (own : List Key) → new ≡ old → place < length keys → own ≡ get_or keys place own → key_lists old places ≡ begun ++ take place keys → keys_at_positions new positions ≡ own → key_lists new (places ++ positions ∷ []) ≡ begun ++ take (place + 1) keys
places_step old new begun places positions keys place own same within is so_far here =
    one_place_more new places positions
    ∙ ap (λ one. key_lists new places ++ one ∷ []) here
    ∙ ap (λ lists. lists ++ own ∷ []) (ap (λ ks. key_lists ks places) same ∙ so_far)
    ∙ append_assoc begun (take place keys) (own ∷ [])
    ∙ ap (λ lists. begun ++ lists) (sym (more_read keys place own within is))

pub begun_step : (first places : List (List ℕ)) (own : List ℕ) → take (length first) places ≡ first → take (length first) (places ++ own ∷ []) ≡ first
begun_step first places own begun =
    let fits : length first ≤ length places = omega (arith, ap length begun, length-take (length first) places) in
    take-append-le (length first) places (own ∷ []) fits ∙ begun

pub within_places_step : (old new : ℕ) (places : List (List ℕ)) (own : List ℕ) → new ≡ old → AreWithin old places → AllByRecursion (λ position. position < new) own → AreWithin new (places ++ own ∷ [])
within_places_step old new places own same all here =
    all_more (AllByRecursion (λ position. position < new)) places own (subst (λ n. AreWithin n places) (sym same) all) here

cost_more : (cost sum more before now start : ℕ) → now ≤ before + cost * more → before ≤ start + cost * sum → now ≤ start + cost * (sum + more)
cost_more cost sum more before now start step so_far = let apart : cost * (sum + more) ≡ cost * sum + cost * more = mul-add cost sum more in omega (arith, step, so_far, apart)

pub cost_places_step : (first new : ℕ) (keys : List (List Key)) (place : ℕ) (own : List Key) (before now start : ℕ) → new ≡ first → place < length keys → own ≡ get_or keys place own → now ≤ before + digits new * length own → before ≤ start + digits first * sum_by length (take place keys) → now ≤ start + digits first * sum_by length (take (place + 1) keys)
cost_places_step first new keys place own before now start same within is step so_far =
    let more : sum_by length (take (place + 1) keys) ≡ sum_by length (take place keys) + length own = sum_by_more length keys place own within ∙ ap (λ o. sum_by length (take place keys) + length o) (sym is) in
    subst (λ sum. now ≤ start + digits first * sum) (sym more)
    (cost_more (digits first) (sum_by length (take place keys)) (length own) before now start (subst (λ n. now ≤ before + digits n * length own) same step) so_far)

pub cost_places_end : (first new : ℕ) (keys : List (List Key)) (place now start : ℕ) → new ≡ first → length keys ≤ place → now ≤ start + digits first * sum_by length (take place keys) → now ≤ start + digits new * sum_by length keys
cost_places_end first new keys place now start same end bound = cost_digits first new (sum_by length keys) (sum_by length (take place keys)) now start same (ap (sum_by length) (take_all place keys end)) bound

-- a step more for each key is no less
pub cost_slack : (cost sum now start : ℕ) → now ≤ start + cost * sum → now ≤ start + (cost + 1) * sum
cost_slack cost sum now start bound = let more : (cost + 1) * sum ≡ cost * sum + 1 * sum = add-mul cost 1 sum in omega (arith, bound, more)
