-- Each clause is a lemma on the values of groups.
use Rattle.std.proofs.Common.{None, map}
use Rattle.xf_model.specs.Dimension.{selected}
use Rattle.xf_model.proofs.AscendingKeys.{sorted-distinct_keys, rounded_keys-same}
use Rattle.xf_model.proofs.GroupValues.{fold_of-count, keys-group_entries, group_entries-insert}
use Rattle.xf_model.proofs.laws.group_values.Goals as goal

pub returns-clause-counted : goal.returns-clause-counted
returns-clause-counted g c = λ rows. fold_of-count rows

pub returns-clause-whole_counted : goal.returns-clause-whole_counted
returns-clause-whole_counted g c = λ dimensions rows. fold_of-count (selected dimensions None rows)

pub returns-clause-keys_stand : goal.returns-clause-keys_stand
returns-clause-keys_stand g c = λ cmp keys reducer dimensions own rows. keys-group_entries cmp keys reducer dimensions own rows

pub returns-clause-own_unseen : goal.returns-clause-own_unseen
returns-clause-own_unseen g c = λ cmp keys reducer dimensions own one other rows within. group_entries-insert cmp keys reducer dimensions own one other rows within

pub returns-clause-unrounded : goal.returns-clause-unrounded
returns-clause-unrounded g c = λ cmp keys row sorted. rounded_keys-same cmp keys row sorted

pub returns-clause-rounded : goal.returns-clause-rounded
returns-clause-rounded g c = λ cmp round keys row order. sorted-distinct_keys order (map round (keys row))
