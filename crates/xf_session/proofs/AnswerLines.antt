-- The lines of an answer, one more at a time.
use Rattle.std.proofs.Common.{◌≡◌, ◌∙◌, ℕ, ◌+◌, ◌<◌, ◌≤◌, List, [], ◌∷◌, ◌++◌, flat_map, get_or, length, take, Option, Some, slice_get, unwrap_or, Result, Ok, Err, OnOk, IsUtf8, ap, append-nil, subst, sym}
use Rattle.std.specs.List.{AllByRecursion}
use Rattle.std.proofs.lemmas.Grind.{flat_map-append}
use Rattle.std.proofs.lemmas.List.{take_all, take_more}
use Rattle.std.proofs.lemmas.List.Folds.{flat_map-map}
use Rattle.std.proofs.lemmas.Option.{get_or_from_slice_get, slice_get_within}
use Rattle.xf_base.specs.Schema.{IsColumn}
use Rattle.xf_base.specs.declared.cell.Cell.{Cell}
use Rattle.xf_base.specs.declared.column.Column.{Column}
use Rattle.xf_reply.proofs.Puts.{puts_two}
use Rattle.xf_reply.specs.Answer as line
use Rattle.xf_reply.specs.Put.{Puts}
use Rattle.xf_session.specs.Command.{placed_at}
use Rattle.xf_session.specs.Outcome.{record_lines}

-- the line of the row at a place
abbrev pub line_at : List Column → List (List Cell) → ℕ → List ℕ
line_at columns rows place = line.record_line columns place (unwrap_or (slice_get rows place) [])

-- it is put
pub puts-row : {old new : List ℕ} (columns : List Column) (rows : List (List Cell)) (place : ℕ) (row : List Cell) → Some row ≡ slice_get rows place → AllByRecursion IsColumn columns
    → new ≡ old ++ line.record_line columns place row → (AllByRecursion IsColumn columns → IsUtf8 (line.record_line columns place row)) → Puts old new (line_at columns rows place)
puts-row {old = old} {new = new} columns rows place row is sound appended utf8 =
    subst (λ (found : Option (List Cell)). Puts old new (line.record_line columns place (unwrap_or found []))) is (record { appended = appended; utf8 = utf8 sound })

-- the lines of the items of a list, and of one item more
pub puts-next : {X : Type 0} {old mid new : List ℕ} (f : X → List ℕ) (xs : List X) (i : ℕ) (d x : X) → i < length xs → get_or xs i d ≡ x
    → Puts old mid (flat_map f (take i xs)) → Puts mid new (f x) → Puts old new (flat_map f (take (i + 1) xs))
puts-next {X = X} {old = old} {new = new} f xs i d x below is front next =
    let one : take (i + 1) xs ≡ take i xs ++ x ∷ [] = take_more xs i d below ∙ ap (λ (x : X). take i xs ++ x ∷ []) is in
    let all : flat_map f (take (i + 1) xs) ≡ flat_map f (take i xs) ++ f x =
    ap (flat_map f) one ∙ flat_map-append f (take i xs) (x ∷ []) ∙ ap (λ (back : List ℕ). flat_map f (take i xs) ++ back) (append-nil (f x)) in
    subst (Puts old new) (sym all) (puts_two front next)

-- the same, where the item is told by its place
pub puts-at : {X : Type 0} {old mid new : List ℕ} (f : X → List ℕ) (xs : List X) (i : ℕ) (x : X) → slice_get xs i ≡ Some x
    → Puts old mid (flat_map f (take i xs)) → Puts mid new (f x) → Puts old new (flat_map f (take (i + 1) xs))
puts-at f xs i x at front next = puts-next f xs i x x (slice_get_within xs i x at) (get_or_from_slice_get xs i x x at) front next

-- those of all items
pub puts-all : {X : Type 0} {old new : List ℕ} (f : X → List ℕ) (xs : List X) (i : ℕ) → length xs ≤ i → Puts old new (flat_map f (take i xs)) → Puts old new (flat_map f xs)
puts-all {X = X} {old = old} {new = new} f xs i past front = subst (λ (items : List X). Puts old new (flat_map f items)) (take_all i xs past) front

-- the lines of the rows at places
pub lines-placed : (columns : List Column) (rows : List (List Cell)) (places : List ℕ) → flat_map (line_at columns rows) places ≡ record_lines columns (placed_at rows places)
lines-placed columns rows places = sym (flat_map-map (λ (at : ℕ × List Cell). line.record_line columns at.0 at.1) (λ place. (place, unwrap_or (slice_get rows place) [])) places)

-- a text that a call puts unless it fails, as one that it equals
pub puts-ok : {X E : Type 0} (old new : List ℕ) (result : Result X E) (text told : List ℕ) → text ≡ told
    → OnOk result (new ≡ old ++ text) → OnOk result (IsUtf8 text) → OnOk result (Puts old new told)
puts-ok old new (Ok value) text told same appended utf8 = subst (Puts old new) same (record { appended = appended; utf8 = utf8 })
puts-ok old new (Err error) text told same appended utf8 = tt
