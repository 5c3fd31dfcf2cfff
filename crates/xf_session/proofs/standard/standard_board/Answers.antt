-- the parts of the standard board fit each other
use Rattle.std.proofs.Common.{◌≡◌, ◌∷◌, [], refl, sym, subst}
use Rattle.xf_board.specs.Board.{BoardParts, IsBoard}
use Rattle.xf_session.proofs.StandardBoard.{standard-sound}
use Rattle.xf_session.specs.Start.{standard_board}
use Rattle.xf_session.proofs.standard.standard_board.Goals as goal

pub new-requires : goal.new-requires
new-requires c =
    let sound : IsBoard (standard_board c.args.schema) = standard-sound c.args.schema c.requires.few c.requires.ints c.requires.distinct in
    rw (c.in_ok-title.ensures, c.in_ok-dimensions.ensures, c.in_ok-groups.ensures, c.in_ok-wholes.ensures, c.new-charts.ensures, c.in_ok-colours.ensures) sound
