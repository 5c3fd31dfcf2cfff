-- The next key stands as many places on as fresh keys are passed.
use Rattle.std.proofs.Common.{◌<◌, length, ap, sym, ◌∙◌, arith}
use Rattle.std.proofs.lemmas.List.{get_or-map, length-map, take_rest}
use Rattle.xf_group.specs.Held.{keys_of}
use Rattle.xf_group.specs.declared.entry.Entry.{Entry}
use Rattle.xf_group.proofs.AdmitFresh.{next_position}
use Rattle.xf_group.proofs.admit.new_positions.Goals as goal

pub loop-position-preserved : goal.loop-position-preserved
loop-position-preserved g c =
    let entry = c.index-entries-position.result in
    let within : c.loop-position.position < length (keys_of c.args.entries.now) = omega (arith, c.loop-position-test.true, length-map c.args.entries.now (λ one. one.key)) in
    let here = ap (λ (one : Entry g.row.V.Denot). one.key) c.index-entries-position.is ∙ sym (get_or-map (λ one. one.key) c.args.entries.now c.loop-position.position entry entry.key c.loop-position-test.true) in
    let step = next_position (λ key. key.now) (keys_of c.args.entries.now) c.args.fresh.now c.loop-position.order.items c.push.new.self.items c.loop-position.position c.loop-position.before c.count_below-before.result entry.key _
    c.requires.sorted c.requires.ascend (take_rest c.args.fresh.now c.loop-position.before) within here c.loop-position.invariant.within c.loop-position.invariant.order c.loop-position.invariant.passed c.count_below-before.ensures.within c.count_below-before.ensures.below c.in_ok-push.ensures.items in
    record { order = step.0; within = step.1; passed = step.2 }
