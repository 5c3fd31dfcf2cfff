-- What goes is of the dimension, and what stays is of another.
use Rattle.std.proofs.Common.{rules, ◌≡◌, ◌<◌, ◌≤◌, true, false, length, get_or, sym, ap, ◌∙◌, arith}
use Rattle.std.proofs.lemmas.List.{take_all}
use Rattle.std.proofs.lemmas.List.Edits.{length-remove}
use Rattle.std.specs.List.{list_all}
use Rattle.xf_engine.specs.Held.{is_elsewhere}
use Rattle.xf_engine.proofs.DroppedGroups.{elsewhere-not, filter-remove, filter-whole, take-remove}
use Rattle.xf_engine.proofs.grouping.drop_groups_of.Goals as goal

pub loop-place-preserved-then-index-dimension : goal.loop-place-preserved-then-index-dimension
loop-place-preserved-then-index-dimension g c =
    let within : c.loop-place.place < length c.loop-place.groups.items = search rules in
    let here : is_elsewhere c.args.dimension.0 c.index.result.now ≡ false = elsewhere-not c.index.result.now.dimension.0 c.args.dimension.0 c.if-index-dimension.true in
    let gone : is_elsewhere c.args.dimension.0 (get_or c.loop-place.groups.items c.loop-place.place c.index.result.now) ≡ false = sym (ap (is_elsewhere c.args.dimension.0) c.index.ensures) ∙ here in
    rw c.remove.ensures.items (record {
      same = filter-remove (is_elsewhere c.args.dimension.0) c.loop-place.groups.items c.loop-place.place c.index.result.now within gone ∙ c.loop-place.invariant.same;
      seen = ap (list_all (is_elsewhere c.args.dimension.0)) (take-remove c.loop-place.groups.items c.loop-place.place) ∙ c.loop-place.invariant.seen;
      within = omega (arith, within, length-remove c.loop-place.groups.items c.loop-place.place within);
    })

pub returns : goal.returns
returns g c =
    let past : length c.loop-place.groups.items ≤ c.loop-place.place = search rules in
    let all : list_all (is_elsewhere c.args.dimension.0) c.loop-place.groups.items ≡ true = sym (ap (list_all (is_elsewhere c.args.dimension.0)) (take_all c.loop-place.place c.loop-place.groups.items past)) ∙ c.loop-place.invariant.seen in
    sym (filter-whole (is_elsewhere c.args.dimension.0) c.loop-place.groups.items all) ∙ c.loop-place.invariant.same
