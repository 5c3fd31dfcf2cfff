-- Elements that are each read as the item that they were printed for are read as the list.
use Rattle.std.proofs.Common.{◌≡◌, ◌∙◌, ◌+◌, ◌≤◌, ◌∷◌, ◌++◌, [], ℕ, List, Ok, false, length, map, nat_lt, sym, ap, arith, append-nil, append_assoc}
use Rattle.std.specs.List.{AllByRecursion}
use Rattle.std.proofs.lemmas.Bool.Decides.{nat_tests}
use Rattle.std.proofs.lemmas.List.{length-map}
use Rattle.serde_json.specs.Data.{Data}
use Rattle.xf_board.specs.Board.{AllAfter}
use Rattle.xf_members.specs.Reading.{Read, ◌>>=◌, each, element}

pub each-again : {A : Type 0} (walk : List A → List ℕ → Data → Read A) (printed : A → Data) (path : List ℕ) (Keeps : List A → A → Type 0)
    → ((before : List A) (place : List ℕ) (x : A) → Keeps before x → walk before place (printed x) ≡ Ok x) → (before xs : List A) → AllAfter Keeps before xs
    → each walk path before (map printed xs) ≡ Ok (before ++ xs)
each-again walk printed path Keeps again before [] all = ap Ok (sym (append-nil before))
each-again walk printed path Keeps again before (x ∷ xs) all =
    ap (λ r. r >>= (λ y. each walk path (before ++ y ∷ []) (map printed xs))) (again before (element path (length before)) x all.0)
    ∙ each-again walk printed path Keeps again (before ++ x ∷ []) xs all.1 ∙ ap Ok (append_assoc before (x ∷ []) xs)

-- what each keeps by itself
pub after-each : {A : Type 0} (P : A → Type 0) (before xs : List A) → AllByRecursion P xs → AllAfter (λ (ys : List A) (x : A). P x) before xs
after-each P before [] all = tt
after-each P before (x ∷ xs) all = (all.0, after-each P (before ++ x ∷ []) xs all.1)

-- and beside those before it
pub after-both : {A : Type 0} (Keeps : List A → A → Type 0) (P : A → Type 0) (before xs : List A) → AllAfter Keeps before xs → AllByRecursion P xs
    → AllAfter (λ (ys : List A) (x : A). Keeps ys x × P x) before xs
after-both Keeps P before [] all own = tt
after-both Keeps P before (x ∷ xs) all own = ((all.0, own.0), after-both Keeps P (before ++ x ∷ []) xs all.1 own.1)

pub all-both : {A : Type 0} (P Q : A → Type 0) (xs : List A) → AllByRecursion P xs → AllByRecursion Q xs → AllByRecursion (λ (x : A). P x × Q x) xs
all-both P Q [] one other = tt
all-both P Q (x ∷ xs) one other = ((one.0, other.0), all-both P Q xs one.1 other.1)

-- no more elements than items
pub few-again : {A : Type 0} (printed : A → Data) (limit : ℕ) (xs : List A) → length xs ≤ limit → nat_lt limit (length (map printed xs)) ≡ false
few-again printed limit xs few =
    let long = length-map xs printed in
    grind (arith, nat_tests)

pub few-more : {A : Type 0} (printed : A → Data) (limit more : ℕ) (xs : List A) → more + length xs ≤ limit → nat_lt limit (more + length (map printed xs)) ≡ false
few-more printed limit more xs few =
    let long = length-map xs printed in
    grind (arith, nat_tests)
