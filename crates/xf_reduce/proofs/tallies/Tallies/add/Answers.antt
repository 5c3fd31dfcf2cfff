-- One more of the count of a number is a number more.
use Rattle.std.proofs.Common.{◌≡◌, ℕ, ◌+◌, ◌<◌, ◌^◌, ◌==◌, not, cond, length, to_z, of_z, to_z-of_z, w64, ap, sym, subst, ◌∙◌, arith}
use Rattle.xf_reduce.specs.Stock.{with_number}
use Rattle.xf_reduce.specs.Tallies.{AreTallies, numbers_in}
use Rattle.xf_reduce.proofs.CountedTallies.{AreTallies-changed, counted, distinct_in-le, length_now, numbers_in-more, one_where_some}
use Rattle.xf_reduce.proofs.tallies.Tallies.add.Goals as goal

pub overflow_add-count : goal.overflow_add-count
overflow_add-count c =
    let placed = counted c.self.inside.counts.entries (to_z w64 (of_z w64 c.args.number)) c.count_of-count.result c.self.invariant.ascend c.count_of-count.ensures in
    let long = length_now placed in
    let few = subst (λ tallies. length (numbers_in tallies) < 2 ^ 63) (sym c.self.view_is) c.requires.few in
    omega arith

pub overflow_add-self-then-count-eq0 : goal.overflow_add-self-then-count-eq0
overflow_add-self-then-count-eq0 c =
    let few = subst (λ tallies. length (numbers_in tallies) < 2 ^ 63) (sym c.self.view_is) c.requires.few in
    let differ = distinct_in-le c.self.inside.counts.entries in
    let is = c.self.invariant.distinct in
    omega arith

pub invariant_of-self : goal.invariant_of-self
invariant_of-self c =
    let placed = counted c.self.inside.counts.entries (to_z w64 (of_z w64 c.args.number)) c.count_of-count.result c.self.invariant.ascend c.count_of-count.ensures in
    let count = c.count_of-count.result in
    let none = c.if-count-eq0.true in
    let light : cond {A = ℕ} (not (count == 0)) 1 0 ≡ 0 = ap (λ many. cond {A = ℕ} (not (many == 0)) 1 0) none in
    let heavy : cond {A = ℕ} (not (count + 1 == 0)) 1 0 ≡ 1 = one_where_some (count + 1) (omega arith) in
    let differ = c.self.invariant.distinct in
    let long = c.self.invariant.total in
    subst (λ tallies. AreTallies tallies (c.self.inside.distinct + 1) (c.self.inside.total + 1)) (sym c.recount.ensures.entries)
    (AreTallies-changed placed (count + 1) (c.self.inside.distinct + 1) (c.self.inside.total + 1) c.self.invariant.ascend (omega arith) (omega arith))

pub invariant_of-self-else-count-eq0 : goal.invariant_of-self-else-count-eq0
invariant_of-self-else-count-eq0 c =
    let placed = counted c.self.inside.counts.entries (to_z w64 (of_z w64 c.args.number)) c.count_of-count.result c.self.invariant.ascend c.count_of-count.ensures in
    let count = c.count_of-count.result in
    let some = c.if-count-eq0.false in
    let light : cond {A = ℕ} (not (count == 0)) 1 0 ≡ 1 = one_where_some count (omega arith) in
    let heavy : cond {A = ℕ} (not (count + 1 == 0)) 1 0 ≡ 1 = one_where_some (count + 1) (omega arith) in
    let differ = c.self.invariant.distinct in
    let long = c.self.invariant.total in
    subst (λ tallies. AreTallies tallies c.self.inside.distinct (c.self.inside.total + 1)) (sym c.recount.ensures.entries)
    (AreTallies-changed placed (count + 1) c.self.inside.distinct (c.self.inside.total + 1) c.self.invariant.ascend (omega arith) (omega arith))

pub returns-then-count-eq0-clause-numbers : goal.returns-then-count-eq0-clause-numbers
returns-then-count-eq0-clause-numbers c =
    let placed = counted c.self.inside.counts.entries (to_z w64 (of_z w64 c.args.number)) c.count_of-count.result c.self.invariant.ascend c.count_of-count.ensures in
    ap numbers_in c.recount.ensures.entries ∙ numbers_in-more placed ∙ ap (λ tallies. with_number (to_z w64 (of_z w64 c.args.number)) (numbers_in tallies)) c.self.view_is
    ∙ ap (λ number. with_number number (numbers_in c.args.self.now)) (to_z-of_z c.ranges.number)

pub returns-else-count-eq0-clause-numbers : goal.returns-else-count-eq0-clause-numbers
returns-else-count-eq0-clause-numbers c =
    let placed = counted c.self.inside.counts.entries (to_z w64 (of_z w64 c.args.number)) c.count_of-count.result c.self.invariant.ascend c.count_of-count.ensures in
    ap numbers_in c.recount.ensures.entries ∙ numbers_in-more placed ∙ ap (λ tallies. with_number (to_z w64 (of_z w64 c.args.number)) (numbers_in tallies)) c.self.view_is
    ∙ ap (λ number. with_number number (numbers_in c.args.self.now)) (to_z-of_z c.ranges.number)
