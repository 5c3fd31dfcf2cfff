-- The ranges and defaults of the numbers of a board.
use Rattle.std.specs.Prelude.{ℕ}

-- ---- charts, in pixels

abbrev pub least_width : ℕ
least_width = 100

abbrev pub least_height : ℕ
least_height = 60

-- of a width and of a height
abbrev pub greatest_side : ℕ
greatest_side = 4000

abbrev pub usual_width : ℕ
usual_width = 300

abbrev pub usual_height : ℕ
usual_height = 200

-- ---- rows, records, columns and colours

-- a chart of rows is capped at 1 row at least
abbrev pub greatest_cap : ℕ
greatest_cap = 9999

-- a table has 1 record at least
abbrev pub greatest_table : ℕ
greatest_table = 10000

abbrev pub usual_table : ℕ
usual_table = 25

abbrev pub most_table_columns : ℕ
most_table_columns = 64

abbrev pub most_colours : ℕ
most_colours = 64

-- ---- the whole board

-- a text with more commas and beginnings of arrays and objects, outside of its texts, is not read
abbrev pub most_openers : ℕ
most_openers = 100000
