-- What a run owes for its words and the files that its depot tells: how it ends, and what it puts, where nothing fails.
use Rattle.std.specs.Prelude.{ℕ, ◌==◌, nat_lt, if◌then◌else◌, codes, decimal, List, [], ◌∷◌, ◌++◌, length, Option, Some, None, Result, Ok, Err}
use Rattle.std.specs.FinMap.{get}
use Rattle.xf_app.specs.Page.{data_view}
use Rattle.xf_app.specs.Lines.{lines_of}
use Rattle.xf_app.specs.Start.{start_in, start_words}
use Rattle.xf_app.specs.Words.{names_of}
use Rattle.xf_app.specs.declared.start.StartRefusal.{StartRefusal}
use Rattle.xf_app.specs.declared.status.Status.{Status}
use Rattle.xf_app.specs.declared.status.Status.TheVariants as status
use Rattle.xf_base.specs.Word.{word_text}
use Rattle.xf_base.specs.declared.limits.TheConstants.Limits.{FILE_BYTES}
use Rattle.xf_model.specs.Replay.{Progress, replay}
use Rattle.xf_outside.specs.Account.{Files}
use Rattle.xf_session.specs.Command.{command}
use Rattle.xf_session.specs.Outcome.{written}
use Rattle.xf_session.specs.State.{Session}

-- the status that a run ends with, and the text that it puts
pub record Due : Type 0 where
  pub status : Status
  pub text : List ℕ

-- ---- the one line that stands in place of a session's text

abbrev pub usage_line : List ℕ
usage_line = codes "usage: xf [--view page|data] [--demo N] BOARD SESSION\n"

abbrev pub absent_line : List ℕ → List ℕ
absent_line name = codes "absent " ++ word_text name ++ 10 ∷ []

abbrev pub too_long_line : List ℕ → List ℕ
too_long_line name = codes "too long " ++ word_text name ++ 32 ∷ decimal FILE_BYTES ++ 10 ∷ []

abbrev pub refused_line : StartRefusal → List ℕ
refused_line cause = codes "board refused " ++ start_words cause ++ 10 ∷ []

-- ---- the session

-- a session, line by line, where the files are these
abbrev pub session_of : Files → Session → List ℕ → Progress Session
session_of files start session = replay (command files) (written data_view) start (lines_of session)

-- what is due for lines that have brought a session so far
abbrev pub progress_due : Progress Session → Due
progress_due progress = record {
  status = if progress.refusals == 0 then status.Done else status.DoneWithRefusals;
  text = progress.text;
}

-- ---- the whole run

abbrev pub usage_due : Due
usage_due = record { status = status.Usage; text = usage_line }

abbrev pub absent_due : List ℕ → Due
absent_due name = record { status = status.Absent; text = absent_line name }

abbrev pub too_long_due : List ℕ → Due
too_long_due name = record { status = status.TooLong; text = too_long_line name }

abbrev pub refused_due : StartRefusal → Due
refused_due cause = record { status = status.BoardRefused; text = refused_line cause }

-- what is due for the file of a name: it is not there, it is too long, or its bytes say
abbrev pub file_due : List ℕ → Option (List ℕ) → (List ℕ → Due) → Due
file_due name None given = absent_due name
file_due name (Some bytes) given = if nat_lt FILE_BYTES (length bytes) then too_long_due name else given bytes

-- what is due for a board: it is refused, or its session says
abbrev pub board_due : Result Session StartRefusal → (Session → Due) → Due
board_due (Err cause) given = refused_due cause
board_due (Ok start) given = given start

-- what is due for the names of a board and a session: first the board's file, then the board, then the session's file
abbrev pub files_due : List ℕ → List ℕ → Files → Due
files_due board_name session_name files =
    file_due board_name (get files board_name) (λ bytes.
    board_due (start_in board_name bytes) (λ start.
    file_due session_name (get files session_name) (λ session. progress_due (session_of files start session))))

-- what is due for words that were read as names, and for the files that are told, if they are
abbrev pub names_due : Option (List ℕ × List ℕ) → Option Files → Option Due
names_due None files = Some usage_due
names_due (Some names) None = None
names_due (Some names) (Some files) = Some (files_due names.0 names.1 files)

abbrev pub due_of : List (List ℕ) → Option Files → Option Due
due_of words files = names_due (names_of words) files
