-- The numbers of `Limits`.
use Rattle.std.specs.Prelude.{◌≡◌, ℕ, ◌≤◌}
use Rattle.xf_base.specs.declared.limits.TheConstants.Limits.{DIMENSIONS, GROUPS, COLUMNS, ROWS, ENTRIES, CELL_VALUES, CELL_BYTES, TEXT_BYTES, FILE_BYTES, LINE_BYTES, CHARTS, MARKS}

pub record Bounds : Type 0 where
  pub dimensions : ℕ
  pub groups : ℕ
  pub columns : ℕ
  pub rows : ℕ
  pub entries : ℕ
  pub cell_values : ℕ
  pub cell_bytes : ℕ
  pub text_bytes : ℕ
  pub file_bytes : ℕ
  pub line_bytes : ℕ
  pub charts : ℕ
  pub marks : ℕ

-- the limits that stand where nobody lowers any
abbrev pub standard : Bounds
standard = record {
  dimensions = DIMENSIONS;
  groups = GROUPS;
  columns = COLUMNS;
  rows = ROWS;
  entries = ENTRIES;
  cell_values = CELL_VALUES;
  cell_bytes = CELL_BYTES;
  text_bytes = TEXT_BYTES;
  file_bytes = FILE_BYTES;
  line_bytes = LINE_BYTES;
  charts = CHARTS;
  marks = MARKS;
}

-- no number is above its standard, and only some may be lower
pub record AreLimits (bounds : Bounds) : Type 0 where
  pub dimensions : bounds.dimensions ≤ DIMENSIONS
  pub groups : bounds.groups ≤ GROUPS
  pub columns : bounds.columns ≡ COLUMNS
  pub rows : bounds.rows ≤ ROWS
  pub entries : bounds.entries ≤ ENTRIES
  pub cell_values : bounds.cell_values ≡ CELL_VALUES
  pub cell_bytes : bounds.cell_bytes ≡ CELL_BYTES
  pub text_bytes : bounds.text_bytes ≤ TEXT_BYTES
  pub file_bytes : bounds.file_bytes ≤ FILE_BYTES
  pub line_bytes : bounds.line_bytes ≡ LINE_BYTES
  pub charts : bounds.charts ≡ CHARTS
  pub marks : bounds.marks ≡ MARKS
