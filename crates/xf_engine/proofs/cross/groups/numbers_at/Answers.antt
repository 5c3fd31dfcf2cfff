use Rattle.std.proofs.Common.{◌<◌, ◌∷◌, [], ◌++◌, length, get_or, sym, ap, ◌∙◌, rules}
use Rattle.std.proofs.lemmas.Option.{slice_get-get_or}
use Rattle.xf_engine.proofs.Lookups.{next-number}
use Rattle.xf_engine.proofs.cross.groups.numbers_at.Goals as goal

pub loop-position-preserved : goal.loop-position-preserved
loop-position-preserved g c =
    let positions = c.args.positions.now in
    let i = c.loop-position.position-index in
    let own = c.in_ok-number_at.field-0 in
    let within : i < length positions = search rules in
    c.in_ok-push.ensures.items
    ∙ ap (λ front. front ++ own ∷ []) c.loop-position.invariant
    ∙ sym (next-number (λ value. g.R.Reducer.rank_of c.args.group.now.reducer (g.R.Reducer.meaning_of value) c.args.field) c.args.group.now.entries positions i (get_or positions i 0) own (slice_get-get_or positions i 0 within) c.in_ok-number_at.ensures)
