-- The lines of a session.
use Rattle.std.specs.Prelude.{ℕ, List}
use Rattle.std.specs.Str.Lines.{lines}
use Rattle.csv.specs.Reading.{strip_bom}

-- one byte order mark in front is dropped, the rest is cut at each line feed, a carriage return before one is dropped, and
-- bytes after the last are a line
abbrev pub lines_of : List ℕ → List (List ℕ)
lines_of session = lines (strip_bom session)
