-- Only the model of `Limits` and proofs need this file: its fields as its numbers, and back.
use Rattle.xf_base.specs.Bounds.{Bounds}
use Rattle.xf_base.specs.declared.limits.Limits.TheInside.{Inside}

-- what contracts see
abbrev pub bounds_of : Inside → Bounds
bounds_of limits = record {
  dimensions = limits.dimensions;
  groups = limits.groups;
  columns = limits.columns;
  rows = limits.rows;
  entries = limits.entries;
  cell_values = limits.cell_values;
  cell_bytes = limits.cell_bytes;
  text_bytes = limits.text_bytes;
  file_bytes = limits.file_bytes;
  line_bytes = limits.line_bytes;
  charts = limits.charts;
  marks = limits.marks;
}

-- the fields that hold the numbers
abbrev pub fields_of : Bounds → Inside
fields_of bounds = record {
  dimensions = bounds.dimensions;
  groups = bounds.groups;
  columns = bounds.columns;
  rows = bounds.rows;
  entries = bounds.entries;
  cell_values = bounds.cell_values;
  cell_bytes = bounds.cell_bytes;
  text_bytes = bounds.text_bytes;
  file_bytes = bounds.file_bytes;
  line_bytes = bounds.line_bytes;
  charts = bounds.charts;
  marks = bounds.marks;
}
