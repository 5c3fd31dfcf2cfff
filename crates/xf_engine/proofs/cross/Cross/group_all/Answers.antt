use Rattle.std.proofs.Common.{Some, sym, ap, ◌∙◌}
use Rattle.xf_engine.proofs.EntryAnswers.{all-answer}
use Rattle.xf_engine.proofs.cross.Cross.group_all.Goals as goal

pub returns-clause-entries : goal.returns-clause-entries
returns-clause-entries g c =
    let group = c.in-Ok.group.now in
    all-answer g.A.Accessor.keys_of g.P.Predicate.says_to g.G.Rounding.rounded g.R.Reducer.meaning_of g.R.Reducer.folding g.R.Reducer.rank_of c.args.self.now c.args.id.0 c.args.field group.reducer group.entries c.in-Ok.ensures.reducer c.in-Ok.ensures.meanings
    ∙ ap Some (sym c.in_ok-all_numbers.ensures)
