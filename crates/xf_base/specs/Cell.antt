-- How much text cells and rows hold.
use Rattle.std.specs.Prelude.{ℕ, List, length, sum_by}
use Rattle.xf_base.specs.declared.cell.Cell.{Cell}
use Rattle.xf_base.specs.declared.cell.Cell.TheVariants.{Num, Text, Tags}

-- how many bytes of text a cell holds
abbrev pub cell_bytes : Cell → ℕ
cell_bytes (Num number) = 0
cell_bytes (Text text) = length text
cell_bytes (Tags tags) = sum_by length tags

-- how many bytes of text a row holds
abbrev pub row_bytes : List Cell → ℕ
row_bytes row = sum_by cell_bytes row
