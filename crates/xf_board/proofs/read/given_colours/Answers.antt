use Rattle.std.proofs.Common.{length}
use Rattle.xf_board.specs.Board.{IsColour}
use Rattle.xf_board.specs.Ranges.{most_colours}
use Rattle.xf_board.proofs.Kept.{kept-some}
use Rattle.xf_board.proofs.read.given_colours.Goals as goal

pub returns-clause-sound : goal.returns-clause-sound
returns-clause-sound c =
    kept-some IsColour most_colours (length c.in_ok-elements.elements.now) c.elements_of.result c.in_ok-elements.ensures.filled
    c.in_ok-few.ensures.within c.elements_of.ensures.kept c.elements_of.ensures.all
