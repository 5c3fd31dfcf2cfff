-- A list from which what does not pass is taken, from the front to the end.
use Rattle.std.proofs.Common.{◌≡◌, ℕ, zero, suc, ◌+◌, ◌≤◌, Bool, true, false, ◌||◌, cond, List, [], ◌∷◌, length, remove, slice_get, Option, Some, None, is_some, option_map, is_ok, refl, sym, ap, subst, ◌∙◌, add-one, arith}
use Rattle.std.specs.List.{filter, find, list_any}
use Rattle.xf_access.specs.declared.stock_rounding.StockRounding.{StockRounding}
use Rattle.xf_engine.proofs.FreeId.{taken-held}
use Rattle.xf_engine.specs.Refusals.{dimension_id, no_group, unless_none}
use Rattle.xf_engine.specs.State.{LiveGroup, group_has_id, group_ids, is_taken}
use Rattle.xf_engine.specs.declared.ids.GroupId.{GroupId}
use Rattle.xf_reduce.specs.declared.stock_reducer.StockReducer.{StockReducer}
use Rattle.xf_session.specs.State.{Name}

-- those before a place pass
abbrev pub PassTo : {X : Type 0} → (X → Bool) → List X → ℕ → Type 0
PassTo test [] zero = Unit {0}
PassTo test [] (suc place) = Unit {0}
PassTo test (x ∷ xs) zero = Unit {0}
PassTo test (x ∷ xs) (suc place) = (test x ≡ true) × PassTo test xs place

pub pass-to-none : {X : Type 0} (test : X → Bool) (xs : List X) → PassTo test xs 0
pass-to-none test [] = tt
pass-to-none test (x ∷ xs) = tt

pub pass-to-more : {X : Type 0} (test : X → Bool) (xs : List X) (place : ℕ) (x : X) → PassTo test xs place → slice_get xs place ≡ Some x → test x ≡ true → PassTo test xs (suc place)
pass-to-more test [] zero x all at passes = tt
pass-to-more test [] (suc place) x all at passes = tt
pass-to-more test (y ∷ xs) zero x all at passes = let same : y ≡ x = cc in (ap test same ∙ passes, pass-to-none test xs)
pass-to-more test (y ∷ xs) (suc place) x all at passes = (all.0, pass-to-more test xs place x all.1 at passes)

pub pass-to-next : {X : Type 0} (test : X → Bool) (xs : List X) (place : ℕ) (x : X) → PassTo test xs place → slice_get xs place ≡ Some x → test x ≡ true → PassTo test xs (place + 1)
pass-to-next test xs place x all at passes = subst (PassTo test xs) (sym (add-one place)) (pass-to-more test xs place x all at passes)

pub pass-to-remove : {X : Type 0} (test : X → Bool) (xs : List X) (place : ℕ) → PassTo test xs place → PassTo test (remove xs place) place
pass-to-remove test [] zero all = tt
pass-to-remove test [] (suc place) all = tt
pass-to-remove test (x ∷ xs) zero all = pass-to-none test xs
pass-to-remove test (x ∷ xs) (suc place) all = (all.0, pass-to-remove test xs place all.1)

-- where all pass nothing is taken
pub all-pass : {X : Type 0} (test : X → Bool) (xs : List X) (place : ℕ) → PassTo test xs place → length xs ≤ place → filter test xs ≡ xs
all-pass test [] place all within = refl
all-pass test (x ∷ xs) zero all within = absurd (omega (arith, within))
all-pass test (x ∷ xs) (suc place) all within =
    ap (λ b. cond b (x ∷ filter test xs) (filter test xs)) all.0 ∙ ap (λ rest. x ∷ rest) (all-pass test xs place all.1 (omega (arith, within)))

-- one that does not pass goes
pub sifted-remove : {X : Type 0} (test : X → Bool) (xs : List X) (place : ℕ) (x : X) → slice_get xs place ≡ Some x → test x ≡ false → filter test (remove xs place) ≡ filter test xs
sifted-remove test [] zero x at fails = refl
sifted-remove test [] (suc place) x at fails = refl
sifted-remove test (y ∷ xs) zero x at fails = let same : y ≡ x = cc in sym (ap (λ b. cond b (y ∷ filter test xs) (filter test xs)) (ap test same ∙ fails))
sifted-remove test (y ∷ xs) (suc place) x at fails = ap (λ rest. cond (test y) (y ∷ rest) rest) (sifted-remove test xs place x at fails)

-- a group is live where its dimension is told
found-any : {X : Type 0} (test : X → Bool) (xs : List X) → is_some (find test xs) ≡ list_any test xs
found-any test [] = refl
found-any test (x ∷ xs) = elim (test x) as (λ b. is_some (cond b (Some x) (find test xs)) ≡ (b || list_any test xs)) [ true ↦ refl | false ↦ found-any test xs ]

told-ok : (id : ℕ) (found : Option (LiveGroup StockRounding StockReducer)) → is_ok (unless_none (no_group id) (option_map dimension_id found)) ≡ is_some found
told-ok id None = refl
told-ok id (Some group) = refl

pub live-told : (groups : List (LiveGroup StockRounding StockReducer)) (id : ℕ) → is_ok (unless_none (no_group id) (option_map dimension_id (find (group_has_id id) groups))) ≡ is_taken (group_ids groups) id
live-told groups id = told-ok id (find (group_has_id id) groups) ∙ found-any (group_has_id id) groups ∙ sym (taken-held (λ group. group.id) id groups)

-- what is told of the entry at a place
pub told-live : (at : Option (Name × GroupId)) (groups : List (LiveGroup StockRounding StockReducer)) (entry : Name × GroupId) (id : ℕ) (told : Bool)
    → at ≡ Some entry → Some id ≡ option_map (λ (e : Name × GroupId). e.1.0) at → told ≡ is_ok (unless_none (no_group id) (option_map dimension_id (find (group_has_id id) groups))) → told ≡ is_taken (group_ids groups) entry.1.0
told-live at groups entry id told stands same is =
    let own : Some id ≡ Some entry.1.0 = same ∙ ap (option_map (λ (e : Name × GroupId). e.1.0)) stands in
    let known : id ≡ entry.1.0 = cc in
    is ∙ live-told groups id ∙ ap (is_taken (group_ids groups)) known
