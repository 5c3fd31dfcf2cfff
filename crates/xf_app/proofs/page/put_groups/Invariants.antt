use Rattle.std.proofs.Common.{◌≡◌, ◌++◌, take}
use Rattle.std.specs.List.{flat_map}
use Rattle.xf_app.specs.Page.{lines_of_group}
use Rattle.xf_app.proofs.page.put_groups.Given as goal

-- the lines of the groups so far
abbrev pub invariant-loop-place : goal.invariant-loop-place
invariant-loop-place g l =
    l.out.items ≡ l.initial.out.items ++ flat_map (lines_of_group l.session) (take l.place l.session.groups)
