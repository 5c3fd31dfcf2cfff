-- the whole of the board is new and over its columns, and is not refused
use Rattle.std.proofs.Common.{◌≡◌, ◌∙◌, None, Some, inl, inr, get_or, sym, ap, subst, take}
use Rattle.xf_board.specs.Board.{IsBoard}
use Rattle.xf_board.specs.declared.parts.WholeSpec.{WholeSpec}
use Rattle.xf_reduce.specs.StockReducer.{stock_fits}
use Rattle.xf_session.proofs.Declared.{StandsAt, whole-fits, whole-new, wholes-stand}
use Rattle.xf_session.specs.State.{Session, named}
use Rattle.xf_session.proofs.session.Session.declare_whole_at.Goals as goal

pub push_whole-requires-clause-absent : goal.push_whole-requires-clause-absent
push_whole-requires-clause-absent g c =
    let s : Session = c.args.self.now in
    let d = c.index-wholes-place.result in
    let sound : IsBoard s.board = subst IsBoard (ap (λ (t : Session). t.board) c.self.view_is) c.is_sound-sound.ensures.sound in
    let stands : StandsAt s.cross.limits s.board s.board.dimensions s.board.groups (take c.args.place s.board.wholes) s = subst (StandsAt s.cross.limits s.board s.board.dimensions s.board.groups (take c.args.place s.board.wholes)) (sym c.requires.before) (wholes-stand s.cross.limits s.board (take c.args.place s.board.wholes)) in
    let own : d ≡ get_or s.board.wholes c.args.place d = c.index-wholes-place.is ∙ ap (λ xs. get_or xs c.args.place d) (c.wholes.ensures ∙ ap (λ (t : Session). t.board.wholes) c.self.view_is) in
    ap (named s.wholes) (c.in_ok-name.ensures ∙ ap (λ (x : WholeSpec). x.name) own) ∙ (whole-new s.cross.limits s.board c.args.place d s sound c.requires.inside stands).0

pub push_whole-requires-clause-fits : goal.push_whole-requires-clause-fits
push_whole-requires-clause-fits g c =
    let s : Session = c.args.self.now in
    let d = c.index-wholes-place.result in
    let sound : IsBoard s.board = subst IsBoard (ap (λ (t : Session). t.board) c.self.view_is) c.is_sound-sound.ensures.sound in
    let stands : StandsAt s.cross.limits s.board s.board.dimensions s.board.groups (take c.args.place s.board.wholes) s = subst (StandsAt s.cross.limits s.board s.board.dimensions s.board.groups (take c.args.place s.board.wholes)) (sym c.requires.before) (wholes-stand s.cross.limits s.board (take c.args.place s.board.wholes)) in
    let own : d ≡ get_or s.board.wholes c.args.place d = c.index-wholes-place.is ∙ ap (λ xs. get_or xs c.args.place d) (c.wholes.ensures ∙ ap (λ (t : Session). t.board.wholes) c.self.view_is) in
    ap (λ (x : WholeSpec). stock_fits x.reduce s.cross.columns) own ∙ (whole-new s.cross.limits s.board c.args.place d s sound c.requires.inside stands).1

pub unreachable-requires : goal.unreachable-requires
unreachable-requires g c =
    let s : Session = c.args.self.now in
    let d = c.index-wholes-place.result in
    let sound : IsBoard s.board = subst IsBoard (ap (λ (t : Session). t.board) c.self.view_is) c.is_sound-sound.ensures.sound in
    let stands : StandsAt s.cross.limits s.board s.board.dimensions s.board.groups (take c.args.place s.board.wholes) s = subst (StandsAt s.cross.limits s.board s.board.dimensions s.board.groups (take c.args.place s.board.wholes)) (sym c.requires.before) (wholes-stand s.cross.limits s.board (take c.args.place s.board.wholes)) in
    let own : d ≡ get_or s.board.wholes c.args.place d = c.index-wholes-place.is ∙ ap (λ xs. get_or xs c.args.place d) (c.wholes.ensures ∙ ap (λ (t : Session). t.board.wholes) c.self.view_is) in
    elim c.in-Err-TooManyGroups.ensures.refused [
      | inl memory ↦ absurd (cc (sym c.in-Err-TooManyGroups.field-0-is ∙ memory))
      | inr told ↦ absurd (cc (sym (whole-fits s.cross.limits s.board c.args.place s c.is_sound-own.ensures.names c.requires.within c.requires.inside stands) ∙ told))
    ]
