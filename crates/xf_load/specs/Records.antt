-- The records of a CSV file.
use Rattle.std.specs.Prelude.{ℕ, List}
use Rattle.csv.specs.Reading.{default_config, records, strip_bom}

-- the records of a file, each the list of its fields: commas, double quotes, a line's end or a carriage return after
-- each record, empty lines skipped, and one byte order mark in front dropped
abbrev pub records_of : List ℕ → List (List (List ℕ))
records_of bytes = records default_config (strip_bom bytes)
