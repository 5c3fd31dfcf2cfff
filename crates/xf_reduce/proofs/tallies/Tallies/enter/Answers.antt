-- A number that is new comes in 0 times, which changes no number.
use Rattle.std.proofs.Common.{◌≡◌, false, map, is_some, int_cmp, is_eq, to_z, of_z, to_z-of_z, w64, ap, sym, subst, ◌∙◌, rules}
use Rattle.std.specs.Map.{lookup}
use Rattle.std.specs.List.Sorted.{IsStrictlySortedBy}
use Rattle.xf_reduce.specs.Tallies.{AreTallies, HasTally, StaysEntered, numbers_in}
use Rattle.xf_reduce.proofs.CountedTallies.{AreTallies-entered, none_found, numbers_in-entered, stays_entered, uncounted}
use Rattle.xf_reduce.proofs.tallies.Tallies.enter.Goals as goal

pub invariant_of-self : goal.invariant_of-self
invariant_of-self c =
    let number = to_z w64 (of_z w64 c.args.number) in
    let found = lookup (λ own. is_eq (int_cmp number own)) c.self.inside.counts.entries in
    let missing : is_some found ≡ false = sym c.contains_key.ensures ∙ search rules in
    let placed = uncounted c.self.inside.counts.entries number (none_found found missing) in
    let entries = c.in_ok-insert.ensures.entries in
    subst (λ tallies. AreTallies tallies c.self.inside.distinct c.self.inside.total) (sym entries)
    (AreTallies-entered placed (subst (λ tallies. IsStrictlySortedBy int_cmp (map (λ tally. tally.0) tallies)) entries c.insert.ensures.ordered) c.self.invariant)

pub returns-in_ok-insert-clause-entered : goal.returns-in_ok-insert-clause-entered
returns-in_ok-insert-clause-entered c =
    subst (HasTally c.insert.new.self.entries) (to_z-of_z c.ranges.number) (ap is_some c.in_ok-insert.ensures.updates.1)

pub returns-in_ok-insert-clause-numbers : goal.returns-in_ok-insert-clause-numbers
returns-in_ok-insert-clause-numbers c =
    let number = to_z w64 (of_z w64 c.args.number) in
    let found = lookup (λ own. is_eq (int_cmp number own)) c.self.inside.counts.entries in
    let missing : is_some found ≡ false = sym c.contains_key.ensures ∙ search rules in
    let placed = uncounted c.self.inside.counts.entries number (none_found found missing) in
    ap numbers_in c.in_ok-insert.ensures.entries ∙ numbers_in-entered placed ∙ ap numbers_in c.self.view_is

pub returns-in_ok-insert-clause-kept : goal.returns-in_ok-insert-clause-kept
returns-in_ok-insert-clause-kept c =
    subst (λ tallies. StaysEntered tallies c.insert.new.self.entries) c.self.view_is
    (stays_entered c.self.inside.counts.entries c.insert.new.self.entries (to_z w64 (of_z w64 c.args.number)) 0 c.in_ok-insert.ensures.updates.0)

pub returns-else-not-contains_key-clause-entered : goal.returns-else-not-contains_key-clause-entered
returns-else-not-contains_key-clause-entered c =
    subst (HasTally c.args.self.now) (to_z-of_z c.ranges.number)
    (subst (λ tallies. HasTally tallies (to_z w64 (of_z w64 c.args.number))) c.self.view_is (sym c.contains_key.ensures ∙ search rules))
