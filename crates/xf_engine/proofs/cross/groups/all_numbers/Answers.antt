use Rattle.std.proofs.Common.{◌∷◌, [], ◌++◌, sym, ap, ◌∙◌}
use Rattle.xf_engine.specs.Folding.{entry_numbers}
use Rattle.xf_engine.proofs.Lookups.{next-taken}
use Rattle.xf_engine.proofs.cross.groups.all_numbers.Goals as goal

pub loop-position-preserved : goal.loop-position-preserved
loop-position-preserved g c =
    let numbers = entry_numbers (λ value. g.R.Reducer.rank_of c.args.group.now.reducer (g.R.Reducer.meaning_of value) c.args.field) c.args.group.now.entries in
    c.in_ok-push.ensures.items
    ∙ ap (λ front. front ++ c.in_ok-number_at.field-0 ∷ []) c.loop-position.invariant
    ∙ sym (next-taken numbers c.loop-position.position c.in_ok-number_at.field-0 c.in_ok-number_at.ensures)
