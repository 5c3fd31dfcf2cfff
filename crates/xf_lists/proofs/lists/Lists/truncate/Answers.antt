-- The first lists end where the next one would begin.
use Rattle.std.proofs.Common.{rules, ◌≡◌, ◌<◌, ◌≤◌, length, sym, arith}
use Rattle.std.proofs.lemmas.List.{length-take, take_all}
use Rattle.xf_lists.proofs.CutAt.{cut_length, take-whole, ends-whole}
use Rattle.xf_lists.specs.Lists.{start_of}
use Rattle.xf_lists.proofs.lists.Lists.truncate.Goals as goal

pub invariant_of-self : goal.invariant_of-self
invariant_of-self g c =
    let few : c.args.count < length c.self.inside.ends.items = search rules in
    let end : c.start_of-end.result ≡ start_of c.self.inside.ends.items c.args.count = search rules in
    rw (c.truncate.ensures.items, c.truncate-then-count-len.ensures.items) (
      ends-whole c.self.inside.ends.items c.self.inside.items.items c.args.count _ c.self.invariant.0 few end,
      omega (arith, length-take c.start_of-end.result c.self.inside.items.items, c.self.invariant.1),
    )

pub returns-then-count-len : goal.returns-then-count-len
returns-then-count-len g c =
    let few : c.args.count < length c.self.inside.ends.items = search rules in
    let end : c.start_of-end.result ≡ start_of c.self.inside.ends.items c.args.count = search rules in
    rw (c.truncate.ensures.items, c.truncate-then-count-len.ensures.items, ← c.self.view_is) (take-whole c.self.inside.ends.items c.self.inside.items.items c.args.count _ c.self.invariant.0 few end)

pub returns-else-count-len : goal.returns-else-count-len
returns-else-count-len g c =
    let all : length c.args.self.now ≤ c.args.count = rw (← c.self.view_is, cut_length 0 c.self.inside.ends.items c.self.inside.items.items) (search rules) in
    sym (take_all c.args.count c.args.self.now all)
