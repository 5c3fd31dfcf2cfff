-- What any part of the stock means.
use Rattle.std.specs.Prelude.{ℕ, ℤ, pos, Bool, true, List}
use Rattle.xf_base.specs.declared.cell.Cell.{Cell}
use Rattle.xf_base.specs.declared.column.Column.{Column}
use Rattle.xf_model.specs.Group.{Reducer, count}
use Rattle.xf_reduce.specs.Number.{fits_at}
use Rattle.xf_reduce.specs.Stock.{count_less, numbers_field, numbers_less, numbers_of, squares_field, squares_less, squares_of, sum_less, sum_of, totals_field, totals_less, totals_of}
use Rattle.xf_reduce.specs.declared.simple.Simple.{Simple}
use Rattle.xf_reduce.specs.declared.simple.Simple.TheVariants.{Count, Sum, SumCount, SumSquares, Spread}
use Rattle.xf_reduce.specs.declared.simple.SimpleMeaning.{SimpleMeaning}
use Rattle.xf_reduce.specs.declared.sum_count.Totals.{Totals}

-- what is kept of no rows, whichever part it is
abbrev pub nothing : SimpleMeaning
nothing = record { squares = (squares_of 0).initial; numbers = (numbers_of 0).initial }

-- a meaning with other totals
abbrev pub with_totals : SimpleMeaning → Totals → SimpleMeaning
with_totals kept totals = record kept { squares = record kept.squares { totals = totals } }

-- each part changes what it keeps
abbrev pub simple_step : Simple → SimpleMeaning → List Cell → SimpleMeaning
simple_step Count kept row = with_totals kept (record kept.squares.totals { count = count.step kept.squares.totals.count row })
simple_step (Sum place) kept row = with_totals kept (record kept.squares.totals { sum = (sum_of place).step kept.squares.totals.sum row })
simple_step (SumCount place) kept row = with_totals kept ((totals_of place).step kept.squares.totals row)
simple_step (SumSquares place) kept row = record kept { squares = (squares_of place).step kept.squares row }
simple_step (Spread place) kept row = record kept { numbers = (numbers_of place).step kept.numbers row }

abbrev pub simple_of : Simple → Reducer (List Cell) SimpleMeaning
simple_of simple = record { initial = nothing; step = simple_step simple }

abbrev pub simple_less : Simple → SimpleMeaning → List Cell → SimpleMeaning
simple_less Count kept row = with_totals kept (record kept.squares.totals { count = count_less kept.squares.totals.count row })
simple_less (Sum place) kept row = with_totals kept (record kept.squares.totals { sum = sum_less place kept.squares.totals.sum row })
simple_less (SumCount place) kept row = with_totals kept (totals_less place kept.squares.totals row)
simple_less (SumSquares place) kept row = record kept { squares = squares_less place kept.squares row }
simple_less (Spread place) kept row = record kept { numbers = numbers_less place kept.numbers row }

abbrev pub simple_field : Simple → SimpleMeaning → ℕ → ℤ
simple_field Count kept field = pos kept.squares.totals.count
simple_field (Sum place) kept field = kept.squares.totals.sum
simple_field (SumCount place) kept field = totals_field kept.squares.totals field
simple_field (SumSquares place) kept field = squares_field kept.squares field
simple_field (Spread place) kept field = numbers_field kept.numbers field

abbrev pub simple_field_count : Simple → ℕ
simple_field_count Count = 1
simple_field_count (Sum place) = 1
simple_field_count (SumCount place) = 3
simple_field_count (SumSquares place) = 3
simple_field_count (Spread place) = 4

abbrev pub simple_fits : Simple → List Column → Bool
simple_fits Count columns = true
simple_fits (Sum place) columns = fits_at place columns
simple_fits (SumCount place) columns = fits_at place columns
simple_fits (SumSquares place) columns = fits_at place columns
simple_fits (Spread place) columns = fits_at place columns
