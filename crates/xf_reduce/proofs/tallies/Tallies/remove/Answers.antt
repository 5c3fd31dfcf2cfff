-- One less of the count of a number is a number less.
use Rattle.std.proofs.Common.{◌≡◌, ℕ, ◌-◌, ◌==◌, not, cond, to_z, of_z, to_z-of_z, w64, ap, sym, subst, ◌∙◌, arith}
use Rattle.xf_reduce.specs.Stock.{without_number}
use Rattle.xf_reduce.specs.Tallies.{AreTallies, numbers_in}
use Rattle.xf_reduce.proofs.CountedTallies.{AreTallies-changed, counted, distinct_now, length_now, numbers_in-fewer, numbers_in-none, one_where_some}
use Rattle.xf_reduce.proofs.tallies.Tallies.remove.Goals as goal

pub returns-then-count-eq0-clause-numbers : goal.returns-then-count-eq0-clause-numbers
returns-then-count-eq0-clause-numbers c =
    let placed = counted c.self.inside.counts.entries (to_z w64 (of_z w64 c.args.number)) c.count_of-count.result c.self.invariant.ascend c.count_of-count.ensures in
    subst (λ tallies. numbers_in tallies ≡ without_number c.args.number (numbers_in tallies)) c.self.view_is (numbers_in-none placed c.if-count-eq0.true ∙ ap (λ number. without_number number (numbers_in c.self.inside.counts.entries)) (to_z-of_z c.ranges.number))

pub overflow_sub-self : goal.overflow_sub-self
overflow_sub-self c =
    let placed = counted c.self.inside.counts.entries (to_z w64 (of_z w64 c.args.number)) c.count_of-count.result c.self.invariant.ascend c.count_of-count.ensures in
    let some = c.if-count-eq0.false in
    let long = c.self.invariant.total in
    let now = length_now placed in
    omega arith

pub overflow_sub-self-then-count-eq1 : goal.overflow_sub-self-then-count-eq1
overflow_sub-self-then-count-eq1 c =
    let placed = counted c.self.inside.counts.entries (to_z w64 (of_z w64 c.args.number)) c.count_of-count.result c.self.invariant.ascend c.count_of-count.ensures in
    let differ = c.self.invariant.distinct in
    let now = distinct_now placed in
    let one = c.if-count-eq1.true in
    let heavy : cond {A = ℕ} (not (c.count_of-count.result == 0)) 1 0 ≡ 1 = one_where_some c.count_of-count.result (omega arith) in
    omega arith

pub invariant_of-self : goal.invariant_of-self
invariant_of-self c =
    let placed = counted c.self.inside.counts.entries (to_z w64 (of_z w64 c.args.number)) c.count_of-count.result c.self.invariant.ascend c.count_of-count.ensures in
    let count = c.count_of-count.result in
    let one = c.if-count-eq1.true in
    let heavy : cond {A = ℕ} (not (count == 0)) 1 0 ≡ 1 = one_where_some count (omega arith) in
    let light : cond {A = ℕ} (not (count - 1 == 0)) 1 0 ≡ 0 = ap (λ many. cond {A = ℕ} (not (many - 1 == 0)) 1 0) one in
    let differ = c.self.invariant.distinct in
    let long = c.self.invariant.total in
    let differ_now = distinct_now placed in
    let long_now = length_now placed in
    subst (λ tallies. AreTallies tallies (c.self.inside.distinct - 1) (c.self.inside.total - 1)) (sym c.recount.ensures.entries)
    (AreTallies-changed placed (count - 1) (c.self.inside.distinct - 1) (c.self.inside.total - 1) c.self.invariant.ascend (omega arith) (omega arith))

pub invariant_of-self-else-count-eq1 : goal.invariant_of-self-else-count-eq1
invariant_of-self-else-count-eq1 c =
    let placed = counted c.self.inside.counts.entries (to_z w64 (of_z w64 c.args.number)) c.count_of-count.result c.self.invariant.ascend c.count_of-count.ensures in
    let count = c.count_of-count.result in
    let some = c.if-count-eq0.false in
    let more = c.if-count-eq1.false in
    let heavy : cond {A = ℕ} (not (count == 0)) 1 0 ≡ 1 = one_where_some count (omega arith) in
    let still : cond {A = ℕ} (not (count - 1 == 0)) 1 0 ≡ 1 = one_where_some (count - 1) (omega arith) in
    let differ = c.self.invariant.distinct in
    let long = c.self.invariant.total in
    let long_now = length_now placed in
    subst (λ tallies. AreTallies tallies c.self.inside.distinct (c.self.inside.total - 1)) (sym c.recount.ensures.entries)
    (AreTallies-changed placed (count - 1) c.self.inside.distinct (c.self.inside.total - 1) c.self.invariant.ascend (omega arith) (omega arith))

pub returns-then-count-eq1-clause-numbers : goal.returns-then-count-eq1-clause-numbers
returns-then-count-eq1-clause-numbers c =
    let placed = counted c.self.inside.counts.entries (to_z w64 (of_z w64 c.args.number)) c.count_of-count.result c.self.invariant.ascend c.count_of-count.ensures in
    let some = c.if-count-eq0.false in
    ap numbers_in c.recount.ensures.entries
    ∙ numbers_in-fewer placed (c.count_of-count.result - 1) (omega arith)
    ∙ ap (λ tallies. without_number (to_z w64 (of_z w64 c.args.number)) (numbers_in tallies)) c.self.view_is
    ∙ ap (λ number. without_number number (numbers_in c.args.self.now)) (to_z-of_z c.ranges.number)

pub returns-else-count-eq1-clause-numbers : goal.returns-else-count-eq1-clause-numbers
returns-else-count-eq1-clause-numbers c =
    let placed = counted c.self.inside.counts.entries (to_z w64 (of_z w64 c.args.number)) c.count_of-count.result c.self.invariant.ascend c.count_of-count.ensures in
    let some = c.if-count-eq0.false in
    ap numbers_in c.recount.ensures.entries
    ∙ numbers_in-fewer placed (c.count_of-count.result - 1) (omega arith)
    ∙ ap (λ tallies. without_number (to_z w64 (of_z w64 c.args.number)) (numbers_in tallies)) c.self.view_is
    ∙ ap (λ number. without_number number (numbers_in c.args.self.now)) (to_z-of_z c.ranges.number)
