-- Keys of more rows that are taken back.
use Rattle.std.proofs.Common.{◌≡◌, ℕ, zero, suc, ◌<◌, List, [], ◌∷◌, ◌++◌, length, map, take, get_or, set, ap, ◌∙◌, arith}
use Rattle.std.proofs.Math.Seq.{take-append_seam, take-length}
use Rattle.std.specs.List.{AllByRecursion}
use Rattle.xf_base.specs.declared.cell.Cell.{Cell}
use Rattle.xf_base.specs.declared.key.Key.{Key}
use Rattle.xf_engine.specs.Held.{HoldEach, kept_keys, with_keys_of}
use Rattle.xf_engine.proofs.Swept.{swept, swept_at, swept_set_back}
use Rattle.xf_engine.specs.declared.dimension.Dimension.{Dimension}

-- where the first keys are as they were, they are what is kept
pub kept-one : {A P : Type 0} (count : ℕ) (old : Dimension A P) (keys : List (List Key)) → length old.keys ≡ count → take (length old.keys) keys ≡ old.keys → kept_keys count (record old { keys = keys }) ≡ old
kept-one count old keys e same = ap (λ kept. record old { keys = kept }) (ap (λ n. take n keys) (let back : count ≡ length old.keys = omega (arith, e) in back) ∙ same)

-- so the keys of more rows are taken back, and where none came all is as it was
pub kept-takes_back : {A P : Type 0} (keys_of : A → List Cell → List Key) (rows : List (List Cell)) (count : ℕ) (held : List (Dimension A P)) → HoldEach count held → AllByRecursion (λ dimension. (kept_keys count (with_keys_of keys_of rows dimension) ≡ dimension) × (kept_keys count dimension ≡ dimension)) held
kept-takes_back keys_of rows count [] each = tt
kept-takes_back keys_of rows count (dimension ∷ held) each = (
  (
    kept-one count dimension (dimension.keys ++ map (keys_of dimension.accessor) rows) each.0 (take-append_seam dimension.keys (map (keys_of dimension.accessor) rows)),
    kept-one count dimension dimension.keys each.0 (take-length dimension.keys),
  ),
  kept-takes_back keys_of rows count held each.1,
)

-- a dimension among those that hold so many rows' keys
pub held_length : {A P : Type 0} (count : ℕ) (held : List (Dimension A P)) (i : ℕ) (d : Dimension A P) → HoldEach count held → i < length held → length (get_or held i d).keys ≡ count
held_length count [] i d each e = absurd (omega (arith, e))
held_length count (dimension ∷ held) zero d each e = each.0
held_length count (dimension ∷ held) (suc i) d each e = held_length count held i d each.1 (omega (arith, e))

-- also where only some came in one of the dimensions
pub kept-partial : {A P : Type 0} (keys_of : A → List Cell → List Key) (rows : List (List Cell)) (count : ℕ) (held done : List (Dimension A P)) (i : ℕ) (d : Dimension A P) (keys : List (List Key)) → HoldEach count held → done ≡ swept (with_keys_of keys_of rows) i held → i < length held → take (length (get_or done i d).keys) keys ≡ (get_or done i d).keys → map (kept_keys count) (set done i (record (get_or done i d) { keys = keys })) ≡ held
kept-partial keys_of rows count held done i d keys each same e first =
    let at : get_or done i d ≡ get_or held i d = ap (λ ds. get_or ds i d) same ∙ swept_at (with_keys_of keys_of rows) i held d in
    let one : kept_keys count (record (get_or done i d) { keys = keys }) ≡ get_or done i d = kept-one count (get_or done i d) keys (ap (λ x. length x.keys) at ∙ held_length count held i d each e) first in
    ap (λ ds. map (kept_keys count) (set ds i (record (get_or done i d) { keys = keys }))) same
    ∙ swept_set_back (with_keys_of keys_of rows) (kept_keys count) i held (record (get_or done i d) { keys = keys }) d (kept-takes_back keys_of rows count held each) e (one ∙ at)
