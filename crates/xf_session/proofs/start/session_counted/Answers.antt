-- the board of a sheet's columns is within the limits, and the rows of the sheet are not refused
use Rattle.std.proofs.Common.{◌≡◌, ◌∙◌, ap}
use Rattle.xf_board.specs.Board.{BoardParts, is_within}
use Rattle.xf_session.proofs.StandardBoard.{standard-within}
use Rattle.xf_session.proofs.StartRows.{rows-taken}
use Rattle.xf_session.specs.Start.{board_session, standard_board}
use Rattle.xf_session.proofs.start.session_counted.Goals as goal

pub of_board-requires : goal.of_board-requires
of_board-requires g c = record { within = ap (λ (board : BoardParts). is_within board c.args.limits) c.in_ok-board.ensures ∙ standard-within c.sheet.inside.schema c.args.limits c.sheet.invariant.few c.requires.dimensions c.requires.groups }

pub put_rows-requires : goal.put_rows-requires
put_rows-requires g c =
    let sheet = c.sheet.invariant in
    rows-taken c.sheet.inside.schema c.args.limits c.sheet.inside.rows c.in_ok-session.session (c.in_ok-session.ensures ∙ ap (board_session c.args.limits) c.in_ok-board.ensures) sheet.all_int sheet.of_schema
    (rw (← c.sheet.view_is) at c.requires.rows) (rw (← c.sheet.view_is) at c.requires.entries)
