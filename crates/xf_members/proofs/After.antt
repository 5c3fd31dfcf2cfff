-- One item more keeps its fact beside those before it.
use Rattle.std.proofs.Common.{◌≡◌, ◌∙◌, ◌+◌, ◌++◌, ◌∷◌, [], List, ℕ, length, sym, ap, subst, append_assoc, append-nil}
use Rattle.std.specs.List.{AllByRecursion}
use Rattle.std.proofs.lemmas.List.{length_push}
use Rattle.xf_members.specs.Reading.{AllAfter}

after-more : {A : Type 0} (P : List A → A → Type 0) (before xs : List A) (x : A) → AllAfter P before xs → P (before ++ xs) x → AllAfter P before (xs ++ x ∷ [])
after-more P before [] x all one = (subst (λ ys. P ys x) (append-nil before) one, tt)
after-more P before (y ∷ ys) x all one =
    (all.0, after-more P (before ++ y ∷ []) ys x all.1 (subst (λ zs. P zs x) (sym (append_assoc before (y ∷ []) ys)) one))

pub after-push : {A : Type 0} (P : List A → A → Type 0) (xs : List A) (x : A) (with_before all : List A) → AllAfter P [] xs → with_before ≡ xs → P with_before x
    → all ≡ xs ++ x ∷ [] → AllAfter P [] all
after-push P xs x with_before all so same one pushed =
    subst (λ ys. AllAfter P [] ys) (sym pushed) (after-more P [] xs x so (subst (λ ys. P ys x) same one))

-- of items that keep a fact whatever stands before them, each keeps it
pub all-from_after : {A : Type 0} (P : A → Type 0) (before xs : List A) → AllAfter (λ ys x. P x) before xs → AllByRecursion P xs
all-from_after P before [] all = tt
all-from_after P before (x ∷ xs) all = (all.0, all-from_after P (before ++ x ∷ []) xs all.1)

-- what items keep gives less, too
pub after-weaker : {A : Type 0} (P Q : List A → A → Type 0) → ((ys : List A) (x : A) → P ys x → Q ys x) → (before xs : List A) → AllAfter P before xs → AllAfter Q before xs
after-weaker P Q gives before [] all = tt
after-weaker P Q gives before (x ∷ xs) all = (gives before x all.0, after-weaker P Q gives (before ++ x ∷ []) xs all.1)

-- one more than those so far
pub count-push : {A : Type 0} (xs : List A) (x : A) (all : List A) (n : ℕ) → length xs ≡ n → all ≡ xs ++ x ∷ [] → length all ≡ n + 1
count-push xs x all n so pushed = ap length pushed ∙ length_push xs x ∙ ap (λ k. k + 1) so
