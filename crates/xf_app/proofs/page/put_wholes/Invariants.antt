use Rattle.std.proofs.Common.{◌≡◌, ◌++◌, take}
use Rattle.std.specs.List.{flat_map}
use Rattle.xf_app.specs.Page.{whole_line}
use Rattle.xf_app.proofs.page.put_wholes.Given as goal

-- the lines of the wholes so far
abbrev pub invariant-loop-place : goal.invariant-loop-place
invariant-loop-place l = l.out.items ≡ l.initial.out.items ++ flat_map (whole_line l.session) (take l.place l.session.wholes)
