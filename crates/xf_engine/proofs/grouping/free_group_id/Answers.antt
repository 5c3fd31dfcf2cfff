-- An id is tried only while each lower one is taken, so the first that is not is the least that is free.
use Rattle.std.proofs.Common.{rules, ◌≡◌, true, sym, ap, ◌∙◌, arith, is_some}
use Rattle.std.proofs.lemmas.List.{length-map}
use Rattle.xf_engine.specs.Held.{held_group_ids}
use Rattle.xf_engine.specs.State.{is_taken}
use Rattle.xf_engine.proofs.FreeId.{taken_group, taken-few-next, taken-next}
use Rattle.xf_engine.proofs.grouping.free_group_id.Goals as goal

pub loop-id-preserved : goal.loop-id-preserved
loop-id-preserved g c =
    let taken : is_taken (held_group_ids c.args.groups.now) c.loop-id.id ≡ true = sym (taken_group c.loop-id.id c.args.groups.now) ∙ sym (ap is_some c.group_place.ensures) ∙ search rules in
    taken-next c.loop-id.id (held_group_ids c.args.groups.now) c.loop-id.invariant taken

pub overflow_add-id : goal.overflow_add-id
overflow_add-id g c =
    let taken : is_taken (held_group_ids c.args.groups.now) c.loop-id.id ≡ true = sym (taken_group c.loop-id.id c.args.groups.now) ∙ sym (ap is_some c.group_place.ensures) ∙ search rules in
    let few = taken-few-next c.loop-id.id (held_group_ids c.args.groups.now) c.loop-id.invariant taken in
    omega (arith, few, c.requires, length-map c.args.groups.now (λ x. x.id.0))

pub loop-id-smaller : goal.loop-id-smaller
loop-id-smaller g c =
    let taken : is_taken (held_group_ids c.args.groups.now) c.loop-id.id ≡ true = sym (taken_group c.loop-id.id c.args.groups.now) ∙ sym (ap is_some c.group_place.ensures) ∙ search rules in
    let few = taken-few-next c.loop-id.id (held_group_ids c.args.groups.now) c.loop-id.invariant taken in
    omega (arith, few, length-map c.args.groups.now (λ x. x.id.0))

pub returns : goal.returns
returns g c =
    record {
      free = sym (taken_group c.loop-id.id c.args.groups.now) ∙ sym (ap is_some c.group_place.ensures) ∙ search rules;
      least = c.loop-id.invariant;
    }
