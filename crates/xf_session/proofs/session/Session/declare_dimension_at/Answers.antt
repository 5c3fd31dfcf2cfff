-- the dimension of the board is new and over its columns, and is not refused
use Rattle.std.proofs.Common.{◌≡◌, ◌∙◌, [], None, Some, inl, inr, get_or, sym, ap, subst, take}
use Rattle.xf_access.specs.Stock.{fits_columns, keys_of_row}
use Rattle.xf_board.specs.Board.{IsBoard}
use Rattle.xf_board.specs.declared.parts.DimensionSpec.{DimensionSpec}
use Rattle.xf_engine.specs.Refusals.{dimension_refusal_of}
use Rattle.xf_session.proofs.Declared.{StandsAt, dimension-fits, dimension-new, dimensions-stand}
use Rattle.xf_session.specs.State.{Session, named}
use Rattle.xf_session.proofs.session.Session.declare_dimension_at.Goals as goal

pub push_dimension-requires-clause-fits : goal.push_dimension-requires-clause-fits
push_dimension-requires-clause-fits g c =
    let s : Session = c.args.self.now in
    let d = c.index-dimensions-place.result in
    let sound : IsBoard s.board = subst IsBoard (ap (λ (t : Session). t.board) c.self.view_is) c.is_sound-sound.ensures.sound in
    let stands : StandsAt s.cross.limits s.board (take c.args.place s.board.dimensions) [] [] s = subst (StandsAt s.cross.limits s.board (take c.args.place s.board.dimensions) [] []) (sym c.requires.before) (dimensions-stand s.cross.limits s.board (take c.args.place s.board.dimensions)) in
    let own : d ≡ get_or s.board.dimensions c.args.place d = c.index-dimensions-place.is ∙ ap (λ xs. get_or xs c.args.place d) (c.dimensions.ensures ∙ ap (λ (t : Session). t.board.dimensions) c.self.view_is) in
    ap (λ (x : DimensionSpec). fits_columns x.from s.cross.columns) own ∙ (dimension-new s.cross.limits s.board c.args.place d s sound c.requires.inside stands).1

pub push_dimension-requires-clause-absent : goal.push_dimension-requires-clause-absent
push_dimension-requires-clause-absent g c =
    let s : Session = c.args.self.now in
    let d = c.index-dimensions-place.result in
    let sound : IsBoard s.board = subst IsBoard (ap (λ (t : Session). t.board) c.self.view_is) c.is_sound-sound.ensures.sound in
    let stands : StandsAt s.cross.limits s.board (take c.args.place s.board.dimensions) [] [] s = subst (StandsAt s.cross.limits s.board (take c.args.place s.board.dimensions) [] []) (sym c.requires.before) (dimensions-stand s.cross.limits s.board (take c.args.place s.board.dimensions)) in
    let own : d ≡ get_or s.board.dimensions c.args.place d = c.index-dimensions-place.is ∙ ap (λ xs. get_or xs c.args.place d) (c.dimensions.ensures ∙ ap (λ (t : Session). t.board.dimensions) c.self.view_is) in
    ap (named s.dimensions) (c.in_ok-name.ensures ∙ ap (λ (x : DimensionSpec). x.name) own) ∙ (dimension-new s.cross.limits s.board c.args.place d s sound c.requires.inside stands).0

pub unreachable-requires : goal.unreachable-requires
unreachable-requires g c =
    let s : Session = c.args.self.now in
    let d = c.index-dimensions-place.result in
    let sound : IsBoard s.board = subst IsBoard (ap (λ (t : Session). t.board) c.self.view_is) c.is_sound-sound.ensures.sound in
    let stands : StandsAt s.cross.limits s.board (take c.args.place s.board.dimensions) [] [] s = subst (StandsAt s.cross.limits s.board (take c.args.place s.board.dimensions) [] []) (sym c.requires.before) (dimensions-stand s.cross.limits s.board (take c.args.place s.board.dimensions)) in
    let own : d ≡ get_or s.board.dimensions c.args.place d = c.index-dimensions-place.is ∙ ap (λ xs. get_or xs c.args.place d) (c.dimensions.ensures ∙ ap (λ (t : Session). t.board.dimensions) c.self.view_is) in
    let none : dimension_refusal_of keys_of_row s.cross d.from ≡ None = ap (λ (x : DimensionSpec). dimension_refusal_of keys_of_row s.cross x.from) own ∙ dimension-fits s.cross.limits s.board c.args.place d s c.is_sound-own.ensures.names c.requires.within c.requires.inside stands in
    elim c.in-Err-TooManyDimensions.ensures.refused [
      | inl memory ↦ absurd (cc (sym c.in-Err-TooManyDimensions.field-0-is ∙ memory))
      | inr told ↦ absurd (cc (sym none ∙ told))
    ]

pub unreachable-requires-in-Err-TooManyEntries : goal.unreachable-requires-in-Err-TooManyEntries
unreachable-requires-in-Err-TooManyEntries g c =
    let s : Session = c.args.self.now in
    let d = c.index-dimensions-place.result in
    let sound : IsBoard s.board = subst IsBoard (ap (λ (t : Session). t.board) c.self.view_is) c.is_sound-sound.ensures.sound in
    let stands : StandsAt s.cross.limits s.board (take c.args.place s.board.dimensions) [] [] s = subst (StandsAt s.cross.limits s.board (take c.args.place s.board.dimensions) [] []) (sym c.requires.before) (dimensions-stand s.cross.limits s.board (take c.args.place s.board.dimensions)) in
    let own : d ≡ get_or s.board.dimensions c.args.place d = c.index-dimensions-place.is ∙ ap (λ xs. get_or xs c.args.place d) (c.dimensions.ensures ∙ ap (λ (t : Session). t.board.dimensions) c.self.view_is) in
    let none : dimension_refusal_of keys_of_row s.cross d.from ≡ None = ap (λ (x : DimensionSpec). dimension_refusal_of keys_of_row s.cross x.from) own ∙ dimension-fits s.cross.limits s.board c.args.place d s c.is_sound-own.ensures.names c.requires.within c.requires.inside stands in
    elim c.in-Err-TooManyEntries.ensures.refused [
      | inl memory ↦ absurd (cc (sym c.in-Err-TooManyEntries.field-0-is ∙ memory))
      | inr told ↦ absurd (cc (sym none ∙ told))
    ]
