-- The ranks of entries, one after another.
use Rattle.std.proofs.Common.{◌≡◌, ℕ, ℤ, ◌+◌, ◌<◌, List, [], ◌∷◌, ◌++◌, length, get_or, take, map, sym, ap, ◌∙◌, arith}
use Rattle.std.proofs.lemmas.List.{length-take-le, map-append, take_more}
use Rattle.std.specs.List.{enumerate_from}
use Rattle.std.specs.declared.cmp.Reverse.{Reverse}
use Rattle.xf_group.specs.Ranks.{ranks_at}
use Rattle.xf_group.specs.declared.entry.Entry.{Entry}

enumerate_push : {X : Type 0} (n : ℕ) (xs : List X) (y : X) → enumerate_from n (xs ++ y ∷ []) ≡ enumerate_from n xs ++ (n + length xs, y) ∷ []
enumerate_push n [] y = let here : n ≡ n + 0 = omega arith in ap (λ m. (m, y) ∷ []) here
enumerate_push n (x ∷ xs) y =
    let there : n + 1 + length xs ≡ n + length (x ∷ xs) = omega arith in
    ap (λ rest. (n, x) ∷ rest) (enumerate_push (n + 1) xs y ∙ ap (λ m. enumerate_from (n + 1) xs ++ (m, y) ∷ []) there)

-- a rank as it is sorted, and its position
abbrev pub plain_rank : Reverse ℤ × ℕ → ℤ × ℕ
plain_rank at = (at.0.0, at.1)

pub ranks_more : {V : Type 0} (rank : V → ℤ) (entries : List (Entry V)) (p : ℕ) (d : Entry V) (old new : List (Reverse ℤ × ℕ)) (one : Reverse ℤ × ℕ) → p < length entries → map plain_rank old ≡ ranks_at rank (take p entries)
    → new ≡ old ++ one ∷ [] → one.0.0 ≡ rank (get_or entries p d).value → one.1 ≡ p → map plain_rank new ≡ ranks_at rank (take (p + 1) entries)
ranks_more {V} rank entries p d old new one inside made pushed first second =
    let one_rank : ℕ × Entry V → ℤ × ℕ = λ at. (rank at.1.value, at.0) in
    let many : 0 + length (take p entries) ≡ p = omega (arith, length-take-le p entries (omega (arith, inside))) in
    let here : plain_rank one ≡ one_rank (p, get_or entries p d) = ap (λ r. (r, one.1)) first ∙ ap (λ n. (rank (get_or entries p d).value, n)) second in
    ap (map plain_rank) pushed
    ∙ map-append plain_rank old (one ∷ [])
    ∙ ap (λ done. done ++ plain_rank one ∷ []) made
    ∙ ap (λ (at : ℤ × ℕ). ranks_at rank (take p entries) ++ at ∷ []) here
    ∙ ap (λ n. ranks_at rank (take p entries) ++ one_rank (n, get_or entries p d) ∷ []) (sym many)
    ∙ sym (map-append one_rank (enumerate_from 0 (take p entries)) ((0 + length (take p entries), get_or entries p d) ∷ []))
    ∙ sym (ap (map one_rank) (enumerate_push 0 (take p entries) (get_or entries p d)))
    ∙ sym (ap (ranks_at rank) (take_more entries p d inside))
