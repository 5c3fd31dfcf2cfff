-- the group of the board is new and over its columns, its dimension is there, and it is not refused
use Rattle.std.proofs.Common.{◌≡◌, ◌∙◌, [], None, Some, true, inl, inr, get_or, is_some, sym, ap, subst, take}
use Rattle.xf_board.specs.Board.{IsBoard}
use Rattle.xf_board.specs.declared.parts.GroupSpec.{GroupSpec}
use Rattle.xf_engine.specs.Refusals.{has_room_for_group}
use Rattle.xf_engine.specs.State.{dimension_named}
use Rattle.xf_reduce.specs.StockReducer.{stock_fits}
use Rattle.xf_session.proofs.Added.{group-there}
use Rattle.xf_session.proofs.Declared.{StandsAt, group-fits, group-new, groups-stand, room-told}
use Rattle.xf_session.specs.State.{Session, named}
use Rattle.xf_session.proofs.session.Session.declare_group_at.Goals as goal

pub unreachable-requires : goal.unreachable-requires
unreachable-requires g c =
    let s : Session = c.args.self.now in
    let d = c.index-groups-place.result in
    let sound : IsBoard s.board = subst IsBoard (ap (λ (t : Session). t.board) c.self.view_is) c.is_sound-sound.ensures.sound in
    let stands : StandsAt s.cross.limits s.board s.board.dimensions (take c.args.place s.board.groups) [] s = subst (StandsAt s.cross.limits s.board s.board.dimensions (take c.args.place s.board.groups) []) (sym c.requires.before) (groups-stand s.cross.limits s.board (take c.args.place s.board.groups)) in
    let own : d ≡ get_or s.board.groups c.args.place d = c.index-groups-place.is ∙ ap (λ xs. get_or xs c.args.place d) (c.groups.ensures ∙ ap (λ (t : Session). t.board.groups) c.self.view_is) in
    let there : is_some (named s.dimensions c.in_ok-of.of) ≡ true = ap (λ name. is_some (named s.dimensions name)) (c.in_ok-of.ensures ∙ ap (λ (x : GroupSpec). x.of) own) ∙ (group-new s.cross.limits s.board c.args.place d s sound c.requires.inside stands).2 in
    let gone : named s.dimensions c.in_ok-of.of ≡ None = sym c.naming.ensures ∙ c.in_default.is in
    absurd (cc (sym there ∙ ap is_some gone))

pub push_group-requires-clause-absent : goal.push_group-requires-clause-absent
push_group-requires-clause-absent g c =
    let s : Session = c.args.self.now in
    let d = c.index-groups-place.result in
    let sound : IsBoard s.board = subst IsBoard (ap (λ (t : Session). t.board) c.self.view_is) c.is_sound-sound.ensures.sound in
    let stands : StandsAt s.cross.limits s.board s.board.dimensions (take c.args.place s.board.groups) [] s = subst (StandsAt s.cross.limits s.board s.board.dimensions (take c.args.place s.board.groups) []) (sym c.requires.before) (groups-stand s.cross.limits s.board (take c.args.place s.board.groups)) in
    let own : d ≡ get_or s.board.groups c.args.place d = c.index-groups-place.is ∙ ap (λ xs. get_or xs c.args.place d) (c.groups.ensures ∙ ap (λ (t : Session). t.board.groups) c.self.view_is) in
    ap (named s.groups) (c.drop.view_is ∙ c.in_ok-name-inside.ensures ∙ ap (λ (x : GroupSpec). x.name) own) ∙ (group-new s.cross.limits s.board c.args.place d s sound c.requires.inside stands).0

pub push_group-requires-clause-fits : goal.push_group-requires-clause-fits
push_group-requires-clause-fits g c =
    let s : Session = c.args.self.now in
    let d = c.index-groups-place.result in
    let sound : IsBoard s.board = subst IsBoard (ap (λ (t : Session). t.board) c.self.view_is) c.is_sound-sound.ensures.sound in
    let stands : StandsAt s.cross.limits s.board s.board.dimensions (take c.args.place s.board.groups) [] s = subst (StandsAt s.cross.limits s.board s.board.dimensions (take c.args.place s.board.groups) []) (sym c.requires.before) (groups-stand s.cross.limits s.board (take c.args.place s.board.groups)) in
    let own : d ≡ get_or s.board.groups c.args.place d = c.index-groups-place.is ∙ ap (λ xs. get_or xs c.args.place d) (c.groups.ensures ∙ ap (λ (t : Session). t.board.groups) c.self.view_is) in
    ap (λ (x : GroupSpec). stock_fits x.reduce s.cross.columns) own ∙ (group-new s.cross.limits s.board c.args.place d s sound c.requires.inside stands).1

pub unreachable-requires-in-Err-NoDimension : goal.unreachable-requires-in-Err-NoDimension
unreachable-requires-in-Err-NoDimension g c =
    elim c.in-Err-NoDimension.ensures.refused [
      | inl memory ↦ absurd (cc (sym c.in-Err-NoDimension.field-0-is ∙ memory))
      | inr told ↦ group-there c.args.self.now c.in_ok-of.of c.in-Some.naming c.in-Err-NoDimension.field-0-0 c.is_sound-own.ensures.names c.is_sound-own.ensures.cross.distinct (sym c.in-Some.ensures)
          (told ∙ ap Some c.in-Err-NoDimension.field-0-is)
    ]

pub unreachable-requires-in-Err-TooManyGroups : goal.unreachable-requires-in-Err-TooManyGroups
unreachable-requires-in-Err-TooManyGroups g c =
    let s : Session = c.args.self.now in
    let d = c.index-groups-place.result in
    let sound : IsBoard s.board = subst IsBoard (ap (λ (t : Session). t.board) c.self.view_is) c.is_sound-sound.ensures.sound in
    let stands : StandsAt s.cross.limits s.board s.board.dimensions (take c.args.place s.board.groups) [] s = subst (StandsAt s.cross.limits s.board s.board.dimensions (take c.args.place s.board.groups) []) (sym c.requires.before) (groups-stand s.cross.limits s.board (take c.args.place s.board.groups)) in
    let own : d ≡ get_or s.board.groups c.args.place d = c.index-groups-place.is ∙ ap (λ xs. get_or xs c.args.place d) (c.groups.ensures ∙ ap (λ (t : Session). t.board.groups) c.self.view_is) in
    let room : has_room_for_group s.cross ≡ true = group-fits s.cross.limits s.board c.args.place s c.is_sound-own.ensures.names c.requires.within c.requires.inside stands in
    elim c.in-Err-TooManyGroups.ensures.refused [
      | inl memory ↦ absurd (cc (sym c.in-Err-TooManyGroups.field-0-is ∙ memory))
      | inr told ↦ room-told (is_some (dimension_named s.cross c.in-Some.naming.id.0)) (has_room_for_group s.cross) c.in-Some.naming.id.0 s.cross.limits.groups c.in-Err-TooManyGroups.field-0-0 room (told ∙ ap Some c.in-Err-TooManyGroups.field-0-is)
    ]
