-- The lists are cut of the renumbered items as they were of the items.
use Rattle.std.proofs.Common.{◌≡◌, ◌<◌, length, slice_index, map, rules, sym, subst, ap, ◌∙◌}
use Rattle.std.proofs.lemmas.List.{with_items_is}
use Rattle.std.specs.List.{AllByRecursion}
use Rattle.std.specs.Vec.{with_items}
use Rattle.xf_lists.proofs.Renumbered.{all-cut, cut_at-map}
use Rattle.xf_lists.specs.Lists.{cut_at}
use Rattle.xf_lists.proofs.lists.Lists+usize.renumber.Goals as goal

pub renumber_items-requires : goal.renumber_items-requires
renumber_items-requires c =
    let lists = c.self.inside in
    let all : AllByRecursion (AllByRecursion (λ item. item < length c.args.numbers.now)) (cut_at 0 lists.ends.items lists.items.items) = subst (AllByRecursion (AllByRecursion (λ item. item < length c.args.numbers.now))) (sym c.self.view_is) c.requires in
    rw c.as_mut_slice.ensures.value (all-cut (λ item. item < length c.args.numbers.now) 0 lists.ends.items lists.items.items c.self.invariant.0 all)

pub returns : goal.returns
returns c =
    let lists = c.self.inside in
    let numbered = slice_index c.args.numbers.now in
    let long : length c.renumber_items.new.items ≡ lists.items.len = search rules in
    let items : (with_items lists.items c.renumber_items.new.items).items ≡ map numbered lists.items.items = with_items_is lists.items c.renumber_items.new.items long ∙ c.renumber_items.ensures ∙ ap (map numbered) c.as_mut_slice.ensures.value in
    ap (cut_at 0 lists.ends.items) items ∙ cut_at-map numbered 0 lists.ends.items lists.items.items ∙ ap (map (map numbered)) c.self.view_is
