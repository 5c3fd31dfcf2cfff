use Rattle.std.proofs.Common.{◌≡◌, ◌<◌, ◌∙◌, sym, refl, length, get_or, slice_get, Some, [], arith}
use Rattle.std.proofs.lemmas.Option.{slice_get-get_or}
use Rattle.xf_engine.specs.State.{group_ids, is_taken}
use Rattle.xf_engine.specs.declared.ids.GroupId.{GroupId}
use Rattle.xf_session.specs.State.{Name}
use Rattle.xf_session.proofs.Sifted.{all-pass, pass-to-next, pass-to-none, pass-to-remove, sifted-remove}
use Rattle.xf_session.proofs.things.drop_names.Goals as goal

no_group : Name × GroupId
no_group = ([], record { 0 = 0 })

pub loop-place-init : goal.loop-place-init
loop-place-init c = record { same = refl; pass = pass-to-none (λ entry. is_taken (group_ids c.args.cross.now.groups) entry.1.0) c.args.groups.now }

pub loop-place-preserved-then-is_live_at : goal.loop-place-preserved-then-is_live_at
loop-place-preserved-then-is_live_at c =
    let within : c.loop-place.place < length c.loop-place.groups = omega arith in
    let at : slice_get c.loop-place.groups c.loop-place.place ≡ Some (get_or c.loop-place.groups c.loop-place.place no_group) = slice_get-get_or c.loop-place.groups c.loop-place.place no_group within in
    record {
      same = c.loop-place.invariant.same;
      pass = pass-to-next (λ entry. is_taken (group_ids c.args.cross.now.groups) entry.1.0) c.loop-place.groups c.loop-place.place (get_or c.loop-place.groups c.loop-place.place no_group) c.loop-place.invariant.pass at
          (sym (c.is_live_at.ensures (get_or c.loop-place.groups c.loop-place.place no_group) at) ∙ c.if-is_live_at.true);
    }

pub loop-place-preserved : goal.loop-place-preserved
loop-place-preserved c =
    let within : c.loop-place.place < length c.loop-place.groups = omega arith in
    let at : slice_get c.loop-place.groups c.loop-place.place ≡ Some (get_or c.loop-place.groups c.loop-place.place no_group) = slice_get-get_or c.loop-place.groups c.loop-place.place no_group within in
    rw c.remove_at.ensures (record {
      same = sifted-remove (λ entry. is_taken (group_ids c.args.cross.now.groups) entry.1.0) c.loop-place.groups c.loop-place.place (get_or c.loop-place.groups c.loop-place.place no_group) at
          (sym (c.is_live_at.ensures (get_or c.loop-place.groups c.loop-place.place no_group) at) ∙ c.if-is_live_at.false) ∙ c.loop-place.invariant.same;
      pass = pass-to-remove (λ entry. is_taken (group_ids c.args.cross.now.groups) entry.1.0) c.loop-place.groups c.loop-place.place c.loop-place.invariant.pass;
    })

pub returns : goal.returns
returns c = sym (all-pass (λ entry. is_taken (group_ids c.args.cross.now.groups) entry.1.0) c.loop-place.groups c.loop-place.place c.loop-place.invariant.pass (omega arith)) ∙ c.loop-place.invariant.same
