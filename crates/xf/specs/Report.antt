-- What a person is told on standard error.
use Rattle.std.specs.Prelude.{ℕ, Bool, true, false, List, [], ◌∷◌, ◌++◌, codes, Option, Some, None}
use Rattle.xf_app.specs.declared.status.Status.{Status}
use Rattle.xf_app.specs.declared.status.Status.TheVariants as status
use Rattle.xf_base.specs.Word.{word_text}

-- the name of the file that was not fetched, where memory held it; that of the board where each file was fetched
abbrev pub unfetched_name : List ℕ → Option (Option (List ℕ)) → List ℕ
unfetched_name board None = board
unfetched_name board (Some None) = codes "file"
unfetched_name board (Some (Some name)) = name

-- the name of the file at which a run ended, by the fetch that gave no bytes, if there was one
abbrev pub reported_name : Status → List ℕ → Option (Option (List ℕ)) → List ℕ
reported_name status.Done board fetch = unfetched_name board fetch
reported_name status.DoneWithRefusals board fetch = unfetched_name board fetch
reported_name status.Usage board fetch = unfetched_name board fetch
reported_name status.BoardRefused board fetch = board
reported_name status.ReadFault board fetch = unfetched_name board fetch
reported_name status.WriteFault board fetch = unfetched_name board fetch
reported_name status.Memory board fetch = unfetched_name board fetch
reported_name status.Absent board fetch = unfetched_name board fetch
reported_name status.TooLong board fetch = unfetched_name board fetch

-- the name of a file, and what came of it
abbrev pub caused_line : List ℕ → List ℕ → List ℕ
caused_line name cause = codes "xf: " ++ word_text name ++ codes ": " ++ cause ++ 10 ∷ []

-- the line for a run that ended with a status, of a file with a name and for a cause, which is the system's own words;
-- nothing where the run ended well, or where the person has seen the line of standard output, which says it
abbrev pub report_line : Status → Bool → List ℕ → List ℕ → List ℕ
report_line status.Done seen name cause = []
report_line status.DoneWithRefusals seen name cause = []
report_line status.Usage true name cause = codes "xf: BOARD is a board file, or a CSV file whose name ends in .csv\n"
report_line status.Usage false name cause = codes "xf: usage: xf [--view page|data] [--demo N] BOARD SESSION, where BOARD is a board file, or a CSV file whose name ends in .csv\n"
report_line status.BoardRefused true name cause = []
report_line status.BoardRefused false name cause = caused_line name (codes "board refused; standard output says why")
report_line status.ReadFault seen name cause = codes "xf: cannot read " ++ word_text name ++ codes ": " ++ cause ++ 10 ∷ []
report_line status.WriteFault seen name cause = codes "xf: cannot write: " ++ cause ++ 10 ∷ []
report_line status.Memory seen name cause = codes "xf: out of memory\n"
report_line status.Absent true name cause = []
report_line status.Absent false name cause = caused_line name (codes "no such file")
report_line status.TooLong true name cause = []
report_line status.TooLong false name cause = caused_line name cause
