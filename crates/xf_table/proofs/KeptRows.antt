-- What is true of the rows that are kept, and how much text the others have.
use Rattle.std.proofs.Common.{◌≡◌, ℕ, ◌+◌, ◌-◌, ◌^◌, ◌<◌, ◌≤◌, Bool, true, false, min, List, [], ◌∷◌, length, get_or, drop, sum_by, ap, arith}
use Rattle.std.proofs.lemmas.List.Sums.{sum_by-cons, sum_by-drop_more, sum_by-take-drop}
use Rattle.std.specs.List.{AllByRecursion}
use Rattle.xf_base.proofs.KeptItems.{kept-next, kept-past}
use Rattle.xf_base.specs.Bounds.{Bounds}
use Rattle.xf_base.specs.Cell.{row_bytes}
use Rattle.xf_base.specs.Gone.{kept}
use Rattle.xf_base.specs.Schema.{IsRowOf}
use Rattle.xf_base.specs.declared.cell.Cell.{Cell}
use Rattle.xf_base.specs.declared.column.Column.{Column}
use Rattle.xf_table.specs.Table.{IsTable}

-- what is kept is no longer, holds no more, and is as all are
pub kept-length : {X : Type 0} (marks : List Bool) (items : List X) → length (kept marks items) ≤ length items
kept-length [] items = omega arith
kept-length (gone ∷ marks) [] = omega arith
kept-length (true ∷ marks) (item ∷ items) = omega (arith, kept-length marks items)
kept-length (false ∷ marks) (item ∷ items) = omega (arith, kept-length marks items)

pub kept-sum : {X : Type 0} (size : X → ℕ) (marks : List Bool) (items : List X) → sum_by size (kept marks items) ≤ sum_by size items
kept-sum size [] items = omega arith
kept-sum size (gone ∷ marks) [] = omega arith
kept-sum size (true ∷ marks) (item ∷ items) = omega (arith, kept-sum size marks items, sum_by-cons size item items)
kept-sum size (false ∷ marks) (item ∷ items) = omega (arith, kept-sum size marks items, sum_by-cons size item items, sum_by-cons size item (kept marks items))

pub kept-all : {X : Type 0} (P : X → Type 0) (marks : List Bool) (items : List X) → AllByRecursion P items → AllByRecursion P (kept marks items)
kept-all P [] items all = tt
kept-all P (gone ∷ marks) [] all = tt
kept-all P (true ∷ marks) (item ∷ items) all = kept-all P marks items all.1
kept-all P (false ∷ marks) (item ∷ items) all = (all.0, kept-all P marks items all.1)

-- a table that keeps some of its rows
pub IsTable-kept : (columns : List Column) (limits : Bounds) (marks : List Bool) (rows : List (List Cell)) (text removed : ℕ) → limits.text_bytes < 2 ^ 64 - 1 → IsTable columns limits rows text → removed + sum_by row_bytes (kept marks rows) ≡ sum_by row_bytes rows → IsTable columns limits (kept marks rows) (text - removed)
IsTable-kept columns limits marks rows text removed low is e = record {
  of_schema = kept-all (IsRowOf columns) marks rows is.of_schema;
  few = omega (arith, kept-length marks rows, is.few);
  small = omega (arith, is.small);
  counted = omega (arith, is.small, is.counted, e);
}

-- how the text of the rows that are removed goes on at a row that is removed, and at one that stays
abbrev pub IsRemoved : List Bool → List (List Cell) → ℕ → ℕ → Type 0
IsRemoved marks rows place removed = removed + sum_by row_bytes (kept marks rows) + sum_by row_bytes (drop place rows) ≡ sum_by row_bytes rows + sum_by row_bytes (kept (drop place marks) (drop place rows))

pub removed-row : (marks : List Bool) (rows : List (List Cell)) (place removed bytes : ℕ) (row : List Cell) → place < length marks → place < length rows → row ≡ get_or rows place row → get_or marks place true ≡ true → bytes ≡ min (row_bytes row) (2 ^ 64 - 1) → sum_by row_bytes rows < 2 ^ 64 → IsRemoved marks rows place removed → IsRemoved marks rows (place + 1) (removed + bytes) × (removed + bytes < 2 ^ 64)
removed-row marks rows place removed bytes row m x at gone b few so =
    let rest : sum_by row_bytes (kept (drop place marks) (drop place rows)) ≡ sum_by row_bytes (kept (drop (place + 1) marks) (drop (place + 1) rows)) = ap (sum_by row_bytes) (kept-past marks rows place m x gone) in
    let own : row_bytes row ≡ row_bytes (get_or rows place row) = ap row_bytes at in
    let next = sum_by-drop_more row_bytes rows place row x in
    let part = sum_by-take-drop row_bytes rows place in
    let less = kept-sum row_bytes (drop (place + 1) marks) (drop (place + 1) rows) in
    let exact : bytes ≡ row_bytes row = omega arith in
    (omega arith, omega arith)

pub kept-row : (marks : List Bool) (rows : List (List Cell)) (place removed : ℕ) (row : List Cell) → place < length marks → place < length rows → get_or marks place true ≡ false → IsRemoved marks rows place removed → IsRemoved marks rows (place + 1) removed
kept-row marks rows place removed row m x stays so =
    let rest = ap (sum_by row_bytes) (kept-next marks rows place row m x stays) in
    let own = sum_by-cons row_bytes (get_or rows place row) (kept (drop (place + 1) marks) (drop (place + 1) rows)) in
    let next = sum_by-drop_more row_bytes rows place row x in
    omega arith
