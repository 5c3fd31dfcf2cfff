use Rattle.std.proofs.Common.{length}
use Rattle.xf_base.specs.declared.limits.TheConstants.Limits.{CHARTS}
use Rattle.xf_board.specs.Board.{IsChart}
use Rattle.xf_board.proofs.Kept.{kept-all}
use Rattle.xf_board.proofs.read.charts_at.Goals as goal

pub returns-clause-sound : goal.returns-clause-sound
returns-clause-sound c =
    kept-all (IsChart c.args.schema.now c.args.dimensions.now c.args.groups.now c.args.wholes.now) CHARTS (length c.in_ok-elements.elements.now) c.elements_of.result
    c.in_ok-few.ensures.within c.elements_of.ensures.kept c.elements_of.ensures.all
