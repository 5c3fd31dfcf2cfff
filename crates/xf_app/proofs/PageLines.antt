-- The lines of a list, one item after the other.
use Rattle.std.proofs.Common.{◌≡◌, ℕ, zero, suc, ◌+◌, List, [], ◌∷◌, ◌++◌, take, add-one, append_assoc, refl, sym, ap, ◌∙◌}
use Rattle.std.proofs.lemmas.List.{append-nil}
use Rattle.std.specs.List.{flat_map, slice_get}
use Rattle.xf_app.specs.Page.{lines_at}

lines-taken : {X : Type 0} (lines_of : X → List ℕ) (xs : List X) (i : ℕ) → flat_map lines_of (take (suc i) xs) ≡ flat_map lines_of (take i xs) ++ lines_at lines_of (slice_get xs i)
lines-taken lines_of [] zero = refl
lines-taken lines_of [] (suc i) = refl
lines-taken lines_of (x ∷ xs) zero = append-nil (lines_of x)
lines-taken lines_of (x ∷ xs) (suc i) =
    ap (λ text. lines_of x ++ text) (lines-taken lines_of xs i) ∙ sym (append_assoc (lines_of x) (flat_map lines_of (take i xs)) (lines_at lines_of (slice_get xs i)))

-- the lines of one item more
pub lines-next : {X : Type 0} (lines_of : X → List ℕ) (xs : List X) (i : ℕ) (first before after : List ℕ) → before ≡ first ++ flat_map lines_of (take i xs)
    → after ≡ before ++ lines_at lines_of (slice_get xs i) → after ≡ first ++ flat_map lines_of (take (i + 1) xs)
lines-next lines_of xs i first before after so_far more =
    more ∙ ap (λ text. text ++ lines_at lines_of (slice_get xs i)) so_far ∙ append_assoc first (flat_map lines_of (take i xs)) (lines_at lines_of (slice_get xs i))
    ∙ ap (λ text. first ++ text) (sym (lines-taken lines_of xs i)) ∙ rw add-one refl
