-- Reading elements one after another: those that are left, beside those before them, give what all give.
use Rattle.std.proofs.Common.{◌≡◌, ◌∙◌, ◌++◌, ◌∷◌, ◌+◌, ◌<◌, ◌≤◌, [], ℕ, List, Ok, Err, length, map, drop, get_or, sym, ap, subst}
use Rattle.std.proofs.lemmas.List.{drop_all, drop_more, drop-map}
use Rattle.serde_json.specs.Data.{Data}
use Rattle.serde_json.specs.View.{view}
use Rattle.serde_json.specs.declared.value.Value.{Value}
use Rattle.xf_members.specs.Reading.{Answers, Read, ◌>>=◌, Refuses, each, element}
use Rattle.xf_members.specs.declared.board_refusal.BoardRefusal.{BoardRefusal}
use Rattle.xf_members.specs.declared.board_refusal.BoardRefusal.TheVariants as refusal

-- a refusal of what is read first is that of the whole
pub refuses-first : {A B : Type 0} (e : BoardRefusal) (r : Read A) (f : A → Read B) → Refuses e r → Refuses e (r >>= f)
refuses-first refusal.Syntax r f is = ap (λ x. x >>= f) is
refuses-first (refusal.Version found) r f is = ap (λ x. x >>= f) is
refuses-first (refusal.Unknown path) r f is = ap (λ x. x >>= f) is
refuses-first (refusal.Field path) r f is = ap (λ x. x >>= f) is
refuses-first (refusal.Name path name) r f is = ap (λ x. x >>= f) is
refuses-first (refusal.Limit path limit) r f is = ap (λ x. x >>= f) is
refuses-first refusal.OutOfMemory r f is = tt

abbrev pub EachFrom : {A : Type 0} → (List A → List ℕ → Data → Read A) → List ℕ → List A → List Value → ℕ → Type 0
EachFrom walk path before values i = each walk path before (drop i (map view values)) ≡ each walk path [] (map view values)

left : (values : List Value) (i : ℕ) (value : Value) → i < length values → get_or values i value ≡ value
    → drop i (map view values) ≡ view value ∷ drop (i + 1) (map view values)
left values i value within is =
    drop-map view i values ∙ ap (map view) (drop_more values i value within) ∙ ap (λ v. view v ∷ map view (drop (i + 1) values)) is
    ∙ ap (λ vs. view value ∷ vs) (sym (drop-map view (i + 1) values))

step : {A : Type 0} (walk : List A → List ℕ → Data → Read A) (path : List ℕ) (before : List A) (values : List Value) (i : ℕ) (value : Value) → i < length values
    → get_or values i value ≡ value → EachFrom walk path before values i
    → (walk before (element path (length before)) (view value) >>= (λ x. each walk path (before ++ x ∷ []) (drop (i + 1) (map view values))))
    ≡ each walk path [] (map view values)
step walk path before values i value within is so = sym (ap (each walk path before) (left values i value within is)) ∙ so

-- the refusal of the next is that of all; what it was read with is what stands before it, and its path
pub each-refused : {A : Type 0} (walk : List A → List ℕ → Data → Read A) (path : List ℕ) (before : List A) (values : List Value) (i : ℕ) (value : Value)
    (with_before : List A) (with_path : List ℕ) (e : BoardRefusal) (result : Read (List A)) → i < length values → get_or values i value ≡ value
    → EachFrom walk path before values i → with_before ≡ before → with_path ≡ element path (length before) → Refuses e (walk with_before with_path (view value))
    → result ≡ Err e → Answers result (each walk path [] (map view values))
each-refused walk path before values i value with_before with_path e result within is so same place refused err =
    let first : Refuses e (walk before with_path (view value)) = subst (λ xs. Refuses e (walk xs with_path (view value))) same refused in
    let here : Refuses e (walk before (element path (length before)) (view value)) = subst (λ p. Refuses e (walk before p (view value))) place first in
    let all : Refuses e (each walk path [] (map view values)) =
    subst (λ r. Refuses e r) (step walk path before values i value within is so)
    (refuses-first e (walk before (element path (length before)) (view value)) (λ x. each walk path (before ++ x ∷ []) (drop (i + 1) (map view values))) here) in
    subst (λ r. Answers r (each walk path [] (map view values))) (sym err) all

-- what the next is read as goes behind those before it
pub each-next : {A : Type 0} (walk : List A → List ℕ → Data → Read A) (path : List ℕ) (before : List A) (values : List Value) (i : ℕ) (value : Value)
    (with_before : List A) (with_path : List ℕ) (x : A) (after : List A) → i < length values → get_or values i value ≡ value
    → EachFrom walk path before values i → with_before ≡ before → with_path ≡ element path (length before) → walk with_before with_path (view value) ≡ Ok x
    → after ≡ before ++ x ∷ [] → EachFrom walk path after values (i + 1)
each-next walk path before values i value with_before with_path x after within is so same place ok pushed =
    let here : walk before (element path (length before)) (view value) ≡ Ok x =
    ap (λ p. walk before p (view value)) (sym place) ∙ ap (λ xs. walk xs with_path (view value)) (sym same) ∙ ok in
    ap (λ xs. each walk path xs (drop (i + 1) (map view values))) pushed
    ∙ sym (ap (λ r. r >>= (λ y. each walk path (before ++ y ∷ []) (drop (i + 1) (map view values)))) here) ∙ step walk path before values i value within is so

-- with none left they are all
pub each-done : {A : Type 0} (walk : List A → List ℕ → Data → Read A) (path : List ℕ) (before : List A) (values : List Value) (i : ℕ) → length values ≤ i
    → EachFrom walk path before values i → each walk path [] (map view values) ≡ Ok before
each-done walk path before values i past so = sym so ∙ ap (each walk path before) (drop-map view i values ∙ ap (map view) (drop_all i values past))
