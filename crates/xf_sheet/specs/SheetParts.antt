-- What a sheet is seen as.
use Rattle.std.specs.Prelude.{◌≡◌, ℕ, ◌*◌, ◌≤◌, false, List, [], ◌∷◌, length, map}
use Rattle.std.specs.List.{AllByRecursion, list_any}
use Rattle.std.specs.Str.{bytes_eq}
use Rattle.xf_base.specs.Schema.{IsRowOf}
use Rattle.xf_base.specs.declared.cell.Cell.{Cell}
use Rattle.xf_base.specs.declared.column.Column.{Column}
use Rattle.xf_base.specs.declared.column.ColumnKind.TheVariants as kind
use Rattle.xf_base.specs.declared.limits.TheConstants.Limits.{DIMENSIONS, ENTRIES, ROWS}

-- a column of whole numbers
abbrev pub IsInt : Column → Type 0
IsInt column = column.kind ≡ kind.Int

-- no name stands twice: none is among those after it
abbrev pub AreDistinctNames : List (List ℕ) → Type 0
AreDistinctNames [] = Unit {0}
AreDistinctNames (name ∷ names) = (list_any (bytes_eq name) names ≡ false) × AreDistinctNames names

abbrev pub column_names : List Column → List (List ℕ)
column_names columns = map (λ column. column.name) columns

-- the columns, and the rows of the records
pub record SheetParts : Type 0 where
  pub columns : List Column
  pub rows : List (List Cell)

-- what a sheet keeps, whatever limits it was read within: few columns of whole numbers, whose names differ, and few rows of
-- these columns
pub record IsSheet (columns : List Column) (rows : List (List Cell)) : Type 0 where
  pub few : length columns ≤ DIMENSIONS
  pub all_int : AllByRecursion IsInt columns
  pub distinct : AreDistinctNames (column_names columns)
  pub fits : length rows ≤ ROWS
  pub entries : length rows * length columns ≤ ENTRIES
  pub of_schema : AllByRecursion (IsRowOf columns) rows
