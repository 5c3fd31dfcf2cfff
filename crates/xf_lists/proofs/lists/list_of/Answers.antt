-- The list lies between its start and its end.
use Rattle.std.proofs.Common.{rules, length, refl}
use Rattle.xf_lists.proofs.CutAt.{bounds-whole, row-whole}
use Rattle.xf_lists.proofs.lists.list_of.Goals as goal

pub offset_bounds-items-start : goal.offset_bounds-items-start
offset_bounds-items-start g c =
    let lies = bounds-whole c.args.ends.now (length c.args.items.now) c.args.place _ _ c.requires.ends c.requires.place c.start_of-start.ensures refl in
    search (rules, lies.0, lies.1)

pub slice_bounds-result-count : goal.slice_bounds-result-count
slice_bounds-result-count g c = (bounds-whole c.args.ends.now (length c.args.items.now) c.args.place _ _ c.requires.ends c.requires.place c.start_of-start.ensures refl).0

pub slice_bounds-result-start : goal.slice_bounds-result-start
slice_bounds-result-start g c =
    let lies = bounds-whole c.args.ends.now (length c.args.items.now) c.args.place _ _ c.requires.ends c.requires.place c.start_of-start.ensures refl in
    search (rules, lies)

pub slice_bounds-result-end : goal.slice_bounds-result-end
slice_bounds-result-end g c =
    let lies = bounds-whole c.args.ends.now (length c.args.items.now) c.args.place _ _ c.requires.ends c.requires.place c.start_of-start.ensures refl in
    search (rules, lies)

pub returns : goal.returns
returns g c = let h = row-whole c.args.ends.now c.args.items.now c.args.place _ _ c.requires.place c.start_of-start.ensures refl in search (rules, h)
