-- what is declared next is taken beside what was
use Rattle.std.proofs.Common.{◌≡◌, ◌+◌, ◌∙◌, ap, take}
use Rattle.xf_board.specs.Board.{BoardParts}
use Rattle.xf_session.proofs.Phases.{groups-phase, from-first, from-own, still-inside, still-within}
use Rattle.xf_session.specs.Start.{with_groups}
use Rattle.xf_session.specs.State.{Session}
use Rattle.xf_session.proofs.session.Session.declare_groups.Goals as goal

pub declare_group_at-requires-clause-within : goal.declare_group_at-requires-clause-within
declare_group_at-requires-clause-within g c =
    still-within with_groups groups-phase c.args.self.now.cross.limits c.args.self.now.board (take c.loop-place.place c.args.self.now.board.groups) c.loop-place.self c.loop-place.invariant c.requires.within

pub declare_group_at-requires-clause-before : goal.declare_group_at-requires-clause-before
declare_group_at-requires-clause-before g c =
    from-own with_groups groups-phase (λ (board : BoardParts). board.groups) c.args.self.now.cross.limits c.args.self.now.board c.loop-place.place c.loop-place.self c.loop-place.invariant

pub declare_group_at-requires-clause-inside : goal.declare_group_at-requires-clause-inside
declare_group_at-requires-clause-inside g c =
    let parts : c.groups-place-end.result.now ≡ c.args.self.now.board.groups = c.groups-place-end.ensures ∙ ap (λ (s : Session). s.board.groups) c.self.view_is in
    still-inside with_groups groups-phase (λ (board : BoardParts). board.groups) c.args.self.now.cross.limits c.args.self.now.board (take c.loop-place.place c.args.self.now.board.groups) c.loop-place.place c.loop-place.self c.loop-place.invariant
    (rw parts at c.loop-place-test.true)

pub loop-place-preserved : goal.loop-place-preserved
loop-place-preserved g c =
    from-first with_groups groups-phase (λ (board : BoardParts). board.groups) c.args.self.now.cross.limits c.args.self.now.board c.loop-place.place (c.loop-place.place + 1) c.loop-place.self c.declare_group_at.new.self
    c.loop-place.invariant c.in_ok-declare_group_at.ensures
