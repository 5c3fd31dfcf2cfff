-- What rows do that come, by a file or by words.
use Rattle.std.specs.Prelude.{List, [], ◌∷◌, length, Result, Ok, Err}
use Rattle.xf_base.specs.declared.cell.Cell.{Cell}
use Rattle.xf_load.specs.declared.load.LoadRefusal.{LoadRefusal}
use Rattle.xf_model.specs.Replay.{refused}
use Rattle.xf_session.specs.Command.{added, as_refusal, too_much, unless, with_rows}
use Rattle.xf_session.specs.Outcome.{Outcome}
use Rattle.xf_session.specs.State.{Session}

-- rows of the schema are added, if they are not too many or too much
abbrev pub rows_outcome : Session → List (List Cell) → Outcome
rows_outcome s rows = unless (too_much s rows) (with_rows s rows) (added (length rows))

-- and where they were not read, they are refused
abbrev pub read_outcome : Session → Result (List (List Cell)) LoadRefusal → Outcome
read_outcome s (Ok rows) = rows_outcome s rows
read_outcome s (Err cause) = refused (as_refusal s.cross.columns cause)

-- one row alone
abbrev pub row_outcome : Session → Result (List Cell) LoadRefusal → Outcome
row_outcome s (Ok row) = rows_outcome s (row ∷ [])
row_outcome s (Err cause) = refused (as_refusal s.cross.columns cause)
