use Rattle.std.proofs.Common.{◌<◌, ◌==◌, length, option_map, sym, ap, ◌∙◌, arith}
use Rattle.xf_session.proofs.NamedIds.{found-first, found-none, none-before-more}
use Rattle.xf_session.specs.Command.{form_named}
use Rattle.xf_session.proofs.session.Session.form.Goals as goal

pub loop-place-preserved : goal.loop-place-preserved
loop-place-preserved c =
    let within : c.loop-place.place < length c.self.inside.dimensions = omega arith in
    none-before-more (λ entry. entry.1.id.0 == c.args.id.0) c.self.inside.dimensions c.loop-place.place (c.in_ok-naming.field-0-0.now, c.in_ok-naming.naming.now)
    c.loop-place.invariant within (sym c.in_ok-naming.ensures) (sym c.eq.ensures ∙ c.if-eq.false)

pub returns : goal.returns
returns c =
    sym (ap (option_map (λ entry. entry.1.form)) (found-none (λ entry. entry.1.id.0 == c.args.id.0) c.self.inside.dimensions c.loop-place.place c.loop-place.invariant (omega arith)))
    ∙ ap (λ s. form_named s c.args.id.0) c.self.view_is

pub returns-then-eq : goal.returns-then-eq
returns-then-eq c =
    let within : c.loop-place.place < length c.self.inside.dimensions = omega arith in
    sym (ap (option_map (λ entry. entry.1.form)) (found-first (λ entry. entry.1.id.0 == c.args.id.0) c.self.inside.dimensions c.loop-place.place (c.in_ok-naming.field-0-0.now, c.in_ok-naming.naming.now)
    c.loop-place.invariant within (sym c.in_ok-naming.ensures) (sym c.eq.ensures ∙ c.if-eq.true)))
    ∙ ap (λ s. form_named s c.args.id.0) c.self.view_is
