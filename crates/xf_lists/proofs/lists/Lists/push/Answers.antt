-- The list's items stand behind the others, and its end behind theirs.
use Rattle.std.proofs.Common.{rules, ◌≡◌, ◌+◌, [], ◌∷◌, ◌++◌, length, arith, length-append}
use Rattle.xf_lists.proofs.CutAt.{cut_at-push, ends-push}
use Rattle.xf_lists.proofs.lists.Lists.push.Goals as goal

pub invariant_of-self-else-is_err : goal.invariant_of-self-else-is_err
invariant_of-self-else-is_err g c =
    let items : c.append.new.self.items ≡ c.self.inside.items.items ++ c.args.list.now.items = search rules in
    let ends : c.push.new.self.items ≡ c.self.inside.ends.items ++ (c.len-held.result + c.len-more.result) ∷ [] = search rules in
    let next : c.len-held.result + c.len-more.result ≡ length c.self.inside.items.items + length c.args.list.now.items = search rules in
    rw (items, ends, length-append c.self.inside.items.items c.args.list.now.items, next) (
      ends-push 0 c.self.inside.ends.items (length c.self.inside.items.items) (length c.self.inside.items.items + length c.args.list.now.items) c.self.invariant.0 (omega arith),
      omega (arith, next),
    )

pub returns-clause-ok : goal.returns-clause-ok
returns-clause-ok g c =
    let items : c.append.new.self.items ≡ c.self.inside.items.items ++ c.args.list.now.items = search rules in
    let ends : c.push.new.self.items ≡ c.self.inside.ends.items ++ (c.len-held.result + c.len-more.result) ∷ [] = search rules in
    let next : c.len-held.result + c.len-more.result ≡ length c.self.inside.items.items + length c.args.list.now.items = search rules in
    rw (items, ends, ← c.self.view_is) (cut_at-push 0 c.self.inside.ends.items c.self.inside.items.items c.args.list.now.items _ c.self.invariant.0 next)
