-- What a reducer of the stock means: one part, or two.
use Rattle.std.specs.Prelude.{ℕ, ◌+◌, ◌*◌, ◌-◌, ◌==◌, nat_lt, ℤ, Bool, ◌&&◌, List, Option, Some, None, if◌then◌else◌, slice_get}
use Rattle.xf_base.specs.declared.cell.Cell.{Cell}
use Rattle.xf_base.specs.declared.column.Column.{Column}
use Rattle.xf_base.specs.declared.column.ColumnKind.{ColumnKind}
use Rattle.xf_base.specs.declared.column.ColumnKind.TheVariants as kind
use Rattle.xf_model.specs.Group.{Reducer}
use Rattle.xf_reduce.specs.Pairs.{both_field, both_less, both_of}
use Rattle.xf_reduce.specs.Simple.{nothing, simple_field, simple_field_count, simple_fits, simple_less, simple_of}
use Rattle.xf_reduce.specs.SimpleReady.{IsSimpleReady, simple_meaning}
use Rattle.xf_reduce.specs.declared.simple.Simple.{Simple}
use Rattle.xf_reduce.specs.declared.simple.Simple.TheVariants as simple
use Rattle.xf_reduce.specs.declared.simple.SimpleMeaning.{SimpleMeaning}
use Rattle.xf_reduce.specs.declared.simple.SimpleValue.{SimpleValue}
use Rattle.xf_reduce.specs.declared.stock_reducer.StockReducer.{StockReducer}
use Rattle.xf_reduce.specs.declared.stock_reducer.StockReducer.TheVariants as stock

-- what is kept: two parts, of which a reducer of one part changes the first alone
abbrev pub stock_meaning : SimpleValue × SimpleValue → SimpleMeaning × SimpleMeaning
stock_meaning value = (simple_meaning value.0, simple_meaning value.1)

-- a reducer of two parts is both of them
abbrev pub stock_step : StockReducer → SimpleMeaning × SimpleMeaning → List Cell → SimpleMeaning × SimpleMeaning
stock_step (stock.One part) kept row = ((simple_of part).step kept.0 row, kept.1)
stock_step (stock.Two first second) kept row = (both_of (simple_of first) (simple_of second)).step kept row

abbrev pub stock_of : StockReducer → Reducer (List Cell) (SimpleMeaning × SimpleMeaning)
stock_of reducer = record { initial = (nothing, nothing); step = stock_step reducer }

abbrev pub stock_less : StockReducer → SimpleMeaning × SimpleMeaning → List Cell → SimpleMeaning × SimpleMeaning
stock_less (stock.One part) kept row = (simple_less part kept.0 row, kept.1)
stock_less (stock.Two first second) kept row = both_less (simple_less first) (simple_less second) kept row

-- the fields of the first part, then those of the second
abbrev pub stock_field : StockReducer → SimpleMeaning × SimpleMeaning → ℕ → ℤ
stock_field (stock.One part) kept field = simple_field part kept.0 field
stock_field (stock.Two first second) kept field = both_field (simple_field_count first) (simple_field first) (simple_field second) kept field

abbrev pub stock_field_count : StockReducer → ℕ
stock_field_count (stock.One part) = simple_field_count part
stock_field_count (stock.Two first second) = simple_field_count first + simple_field_count second

abbrev pub stock_fits : StockReducer → List Column → Bool
stock_fits (stock.One part) columns = simple_fits part columns
stock_fits (stock.Two first second) columns = simple_fits first columns && simple_fits second columns

abbrev pub IsStockReady : StockReducer → SimpleValue × SimpleValue → List Cell → Type 0
IsStockReady (stock.One part) value row = IsSimpleReady part value.0 row
IsStockReady (stock.Two first second) value row = IsSimpleReady first value.0 row × IsSimpleReady second value.1 row

-- ---- decimals

-- the decimals of a column of this kind
abbrev pub kind_decimals : ColumnKind → ℕ
kind_decimals kind.Int = 0
kind_decimals (kind.Fixed decimals) = decimals
kind_decimals kind.Date = 0
kind_decimals kind.Text = 0
kind_decimals (kind.Tags separator) = 0

-- the decimals of the column at a place
abbrev pub column_decimals : Option Column → ℕ
column_decimals None = 0
column_decimals (Some column) = kind_decimals column.kind

-- the decimals of a field: counts have none, squares twice those of the column
abbrev pub simple_decimals : Simple → List Column → ℕ → ℕ
simple_decimals simple.Count columns field = 0
simple_decimals (simple.Sum place) columns field = column_decimals (slice_get columns place)
simple_decimals (simple.SumCount place) columns field = if field == 1 then 0 else column_decimals (slice_get columns place)
simple_decimals (simple.SumSquares place) columns field =
    if field == 0 then 2 * column_decimals (slice_get columns place) else if field == 1 then column_decimals (slice_get columns place) else 0
simple_decimals (simple.Spread place) columns field = if field == 0 then 0 else column_decimals (slice_get columns place)

abbrev pub stock_decimals : StockReducer → List Column → ℕ → ℕ
stock_decimals (stock.One part) columns field = simple_decimals part columns field
stock_decimals (stock.Two first second) columns field =
    if nat_lt field (simple_field_count first) then simple_decimals first columns field else simple_decimals second columns (field - simple_field_count first)
