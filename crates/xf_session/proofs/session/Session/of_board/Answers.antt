-- all that the board declares, phase by phase
use Rattle.std.proofs.Common.{◌≡◌}
use Rattle.xf_board.specs.Board.{BoardParts}
use Rattle.xf_session.proofs.Phases.{after-bare, after-dimensions, after-groups, dimensions-phase, groups-phase, own-dimensions, own-groups, still-within}
use Rattle.xf_session.specs.Start.{with_dimensions, with_groups}
use Rattle.xf_session.proofs.session.Session.of_board.Goals as goal

pub declare_groups-requires-clause-within : goal.declare_groups-requires-clause-within
declare_groups-requires-clause-within g c =
    let first = after-bare c.args.limits c.args.board c.in_ok-session.session c.declare_dimensions.new.self c.in_ok-session.ensures c.in_ok-declare_dimensions.ensures in
    still-within with_dimensions dimensions-phase c.args.limits c.args.board c.args.board.dimensions c.declare_dimensions.new.self first c.requires.within

pub declare_groups-requires-clause-before : goal.declare_groups-requires-clause-before
declare_groups-requires-clause-before g c =
    let first = after-bare c.args.limits c.args.board c.in_ok-session.session c.declare_dimensions.new.self c.in_ok-session.ensures c.in_ok-declare_dimensions.ensures in
    own-dimensions c.args.limits c.args.board c.declare_dimensions.new.self first

pub declare_wholes-requires-clause-within : goal.declare_wholes-requires-clause-within
declare_wholes-requires-clause-within g c =
    let first = after-bare c.args.limits c.args.board c.in_ok-session.session c.declare_dimensions.new.self c.in_ok-session.ensures c.in_ok-declare_dimensions.ensures in
    let second = after-dimensions c.args.limits c.args.board c.declare_dimensions.new.self c.declare_groups.new.self first c.in_ok-declare_groups.ensures in
    still-within with_groups groups-phase c.args.limits c.args.board c.args.board.groups c.declare_groups.new.self second c.requires.within

pub declare_wholes-requires-clause-before : goal.declare_wholes-requires-clause-before
declare_wholes-requires-clause-before g c =
    let first = after-bare c.args.limits c.args.board c.in_ok-session.session c.declare_dimensions.new.self c.in_ok-session.ensures c.in_ok-declare_dimensions.ensures in
    let second = after-dimensions c.args.limits c.args.board c.declare_dimensions.new.self c.declare_groups.new.self first c.in_ok-declare_groups.ensures in
    own-groups c.args.limits c.args.board c.declare_groups.new.self second

pub returns : goal.returns
returns g c =
    let first = after-bare c.args.limits c.args.board c.in_ok-session.session c.declare_dimensions.new.self c.in_ok-session.ensures c.in_ok-declare_dimensions.ensures in
    let second = after-dimensions c.args.limits c.args.board c.declare_dimensions.new.self c.declare_groups.new.self first c.in_ok-declare_groups.ensures in
    after-groups c.args.limits c.args.board c.declare_groups.new.self c.declare_wholes.new.self second c.in_ok-declare_wholes.ensures
