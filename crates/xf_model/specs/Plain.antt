-- Rows of numbers as rows, and columns with ranges as dimensions.
use Rattle.std.specs.Prelude.{ℕ, ℤ, List, [], Option, Some, None, slice_get}
use Rattle.std.specs.Option.{option_to_list}
use Rattle.std.specs.Ordering.{int_cmp}
use Rattle.xf_model.specs.declared.dimension.PlainRange.{PlainRange}
use Rattle.xf_model.specs.declared.dimension.PlainDimension.{PlainDimension}
use Rattle.xf_model.specs.declared.group.PlainEntry.{PlainEntry}
use Rattle.xf_model.specs.Dimension.{Filter, Dimension, all, range}

-- the number in a column, or no key where the row is too short
abbrev pub column_keys : ℕ → List ℤ → List ℤ
column_keys column row = option_to_list (slice_get row column)

-- no range is no filter
abbrev pub plain_filter : Option PlainRange → Filter ℤ
plain_filter None = all
plain_filter (Some ends) = range int_cmp ends.low ends.high

abbrev pub plain_dimension : PlainDimension → Dimension (List ℤ) ℤ
plain_dimension dimension = record { keys = column_keys dimension.column; chosen = plain_filter dimension.range }

-- the keys of the dimension at a place, if one stands there
abbrev pub keys_of : Option PlainDimension → List ℤ → List ℤ
keys_of None row = []
keys_of (Some dimension) row = column_keys dimension.column row

abbrev pub key_and_number : PlainEntry → ℤ × ℕ
key_and_number entry = (entry.key, entry.number)
