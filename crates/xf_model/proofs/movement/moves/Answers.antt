-- What the two tests say tells whether the key moves.
use Rattle.std.proofs.Common.{rules}
use Rattle.xf_model.specs.Plain.{plain_filter}
use Rattle.xf_model.proofs.Plain.{moved_one}
use Rattle.xf_model.proofs.movement.moves.Goals as goal

pub returns : goal.returns
returns c = moved_one c.holds.result c.holds-2.result (plain_filter c.args.old) (plain_filter c.args.new) c.args.key (search rules) (search rules)
