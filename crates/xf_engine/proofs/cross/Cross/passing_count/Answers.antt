use Rattle.std.proofs.Common.{ap, ◌∙◌}
use Rattle.xf_engine.specs.Answers.{passing_in}
use Rattle.xf_engine.specs.Held.{live_dimensions}
use Rattle.xf_engine.proofs.cross.Cross.passing_count.Goals as goal

pub returns : goal.returns
returns g c = rw (← c.self.view_is) (
    c.passing_count.ensures
    ∙ ap (λ held. passing_in g.A.Accessor.keys_of g.P.Predicate.says_to (live_dimensions held) c.as_slice-2.result.now) c.as_slice.ensures.value
    ∙ ap (λ rows. passing_in g.A.Accessor.keys_of g.P.Predicate.says_to (live_dimensions c.self.inside.dimensions.items) rows) (c.as_slice-2.ensures ∙ c.rows.ensures.rows)
    )
