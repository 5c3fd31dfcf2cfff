-- The session with which a board's file begins, or why it has none.
use Rattle.std.specs.Prelude.{ℕ, nat_eq, Bool, if◌then◌else◌, codes, List, Result}
use Rattle.std.specs.List.{ends_with}
use Rattle.std.specs.Result.{result_map_both}
use Rattle.xf_app.specs.declared.start.StartRefusal.{StartRefusal}
use Rattle.xf_app.specs.declared.start.StartRefusal.TheVariants as start
use Rattle.xf_base.specs.Bounds.{standard}
use Rattle.xf_members.specs.Printed as board
use Rattle.xf_board.specs.Walk.{board_in}
use Rattle.xf_reply.specs.Refused as reply
use Rattle.xf_session.specs.Start.{board_session, csv_session}
use Rattle.xf_session.specs.State.{Session}

-- the file of a name is data: the name ends in `.csv`
abbrev pub is_data : List ℕ → Bool
is_data name = ends_with nat_eq name (codes ".csv")

-- the session of data, which make a board of their own
abbrev pub data_start : List ℕ → Result Session StartRefusal
data_start bytes = result_map_both (λ session. session) (λ cause. start.Data cause) (csv_session standard bytes)

-- the session of a board file
abbrev pub board_start : List ℕ → Result Session StartRefusal
board_start bytes = result_map_both (board_session standard) (λ cause. start.Board cause) (board_in bytes)

-- the session with which the file of a name begins
abbrev pub start_in : List ℕ → List ℕ → Result Session StartRefusal
start_in name bytes = if is_data name then data_start bytes else board_start bytes

-- why it has none, in words; memory that was refused is no cause
abbrev pub start_words : StartRefusal → List ℕ
start_words (start.Data cause) = reply.refusal_words cause
start_words (start.Board cause) = board.refusal_words cause
start_words start.OutOfMemory = codes "out of memory"
