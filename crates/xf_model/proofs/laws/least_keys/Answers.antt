-- Each clause is a lemma on pairs of keys and places.
use Rattle.xf_model.proofs.BottomPairs.{sorted-bottom, Contains-bottom, bottom-from_members}
use Rattle.xf_model.proofs.laws.least_keys.Goals as goal

pub returns-clause-sorted : goal.returns-clause-sorted
returns-clause-sorted g c = λ cmp dimensions own rows order. sorted-bottom order dimensions own rows

pub returns-clause-members : goal.returns-clause-members
returns-clause-members g c = λ cmp dimensions own rows pair order exact. Contains-bottom order exact dimensions own rows pair

pub returns-clause-only : goal.returns-clause-only
returns-clause-only g c = λ cmp dimensions own rows found order exact sorted same. bottom-from_members order exact dimensions own rows found sorted same
