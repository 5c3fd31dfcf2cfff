-- Each clause is a lemma on ascending keys.
use Rattle.std.proofs.Common.{sym, ◌∙◌}
use Rattle.xf_model.specs.Group.{distinct_keys}
use Rattle.xf_model.proofs.AscendingKeys.{sorted-distinct_keys, ties-distinct_keys, Contains-distinct_keys, same_from_ties, distinct_keys-sorted, distinct_keys-IsPermutation, distinct_keys-append, distinct_keys-map}
use Rattle.xf_model.proofs.laws.ascending_keys.Goals as goal

pub returns-clause-sorted : goal.returns-clause-sorted
returns-clause-sorted g c = λ cmp keys order. sorted-distinct_keys order keys

pub returns-clause-ties : goal.returns-clause-ties
returns-clause-ties g c = λ cmp keys key order. ties-distinct_keys order key keys

pub returns-clause-members : goal.returns-clause-members
returns-clause-members g c = λ cmp keys. Contains-distinct_keys cmp keys

pub returns-clause-only : goal.returns-clause-only
returns-clause-only g c = λ cmp keys found order exact sorted same.
    same_from_ties order exact found (distinct_keys cmp keys) sorted (sorted-distinct_keys order keys) (λ key. same key ∙ sym (ties-distinct_keys order key keys))

pub returns-clause-settled : goal.returns-clause-settled
returns-clause-settled g c = λ cmp keys sorted. distinct_keys-sorted cmp keys sorted

pub returns-clause-order_free : goal.returns-clause-order_free
returns-clause-order_free g c = λ cmp keys others order exact moved. distinct_keys-IsPermutation order exact keys others moved

pub returns-clause-joined : goal.returns-clause-joined
returns-clause-joined g c = λ cmp xs ys order exact. distinct_keys-append order exact xs ys

pub returns-clause-embedded : goal.returns-clause-embedded
returns-clause-embedded g c = λ cmp other f keys embeds. distinct_keys-map cmp other f embeds keys
