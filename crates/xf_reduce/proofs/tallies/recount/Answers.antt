-- Memory is refused only for a number that is new.
use Rattle.std.proofs.Common.{sym, ap, subst, ◌∙◌, is_some, int_cmp, to_z, of_z, to_z-of_z, w64, true≢false}
use Rattle.std.specs.BTreeMap.{insert_entry}
use Rattle.xf_reduce.specs.Tallies.{HasTally}
use Rattle.xf_reduce.proofs.CountedTallies.{only_ok, stays_entered}
use Rattle.xf_reduce.proofs.tallies.recount.Goals as goal

pub returns-clause-entries : goal.returns-clause-entries
returns-clause-entries c =
    let same = to_z-of_z c.ranges.number in
    let entered = subst (HasTally c.args.counts.now.entries) (sym same) c.requires in
    only_ok c.insert-old.result c.insert-old.ensures.entries c.insert-old.ensures.absent (λ absent. true≢false (sym entered ∙ ap is_some absent))
    ∙ ap (λ number. insert_entry int_cmp c.args.counts.now.entries number c.args.count) same

pub returns-clause-kept : goal.returns-clause-kept
returns-clause-kept c =
    let same = to_z-of_z c.ranges.number in
    let entered = subst (HasTally c.args.counts.now.entries) (sym same) c.requires in
    let updates = only_ok c.insert-old.result c.insert-old.ensures.updates c.insert-old.ensures.absent (λ absent. true≢false (sym entered ∙ ap is_some absent)) in
    stays_entered c.args.counts.now.entries c.insert-old.new.self.entries (to_z w64 (of_z w64 c.args.number)) c.args.count updates.0
