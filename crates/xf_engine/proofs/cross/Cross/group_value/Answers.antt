use Rattle.std.proofs.Common.{option_map, sym, ap, ◌∙◌}
use Rattle.xf_engine.specs.Answers.{entries_of}
use Rattle.xf_engine.specs.State.{group_named}
use Rattle.xf_group.specs.Group.{meanings}
use Rattle.xf_engine.proofs.EntryAnswers.{value-answer}
use Rattle.xf_engine.proofs.Lookups.{copied-meaning, found-live}
use Rattle.xf_engine.proofs.cross.Cross.group_value.Goals as goal

pub returns-clause-value : goal.returns-clause-value
returns-clause-value g c =
    copied-meaning g.R.Reducer.meaning_of c.value.result
    ∙ ap (option_map g.R.Reducer.meaning_of) c.value.ensures.value
    ∙ sym (value-answer g.A.Accessor.keys_of g.P.Predicate.says_to g.G.Rounding.rounded g.R.Reducer.meaning_of g.R.Reducer.folding c.args.self.now c.args.id.0 c.in_ok-group_of.field-0.now.entries c.args.key.now c.in_ok-group_of.ensures.meanings)

pub returns-clause-live : goal.returns-clause-live
returns-clause-live g c =
    found-live (λ own. entries_of g.A.Accessor.keys_of g.P.Predicate.says_to g.G.Rounding.rounded g.R.Reducer.folding c.args.self.now own) (group_named c.args.self.now c.args.id.0) (meanings g.R.Reducer.meaning_of c.in_ok-group_of.field-0.now.entries) c.in_ok-group_of.ensures.meanings
