-- Each clause is a lemma on what moves.
use Rattle.xf_model.proofs.MovedKeys.{moved-same, moved-swap, moved-to_all}
use Rattle.xf_model.proofs.laws.moved_keys.Goals as goal

pub returns-clause-same : goal.returns-clause-same
returns-clause-same g c = λ keys chosen rows. moved-same keys chosen rows

pub returns-clause-swapped : goal.returns-clause-swapped
returns-clause-swapped g c = λ keys one other rows. moved-swap keys one other rows

pub returns-clause-taken_away : goal.returns-clause-taken_away
returns-clause-taken_away g c = λ keys chosen rows some. moved-to_all keys chosen rows some
