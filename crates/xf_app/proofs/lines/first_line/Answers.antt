-- where the first line feed stands, and what the text's first line is then
use Rattle.std.proofs.Common.{rules, tests, ◌≡◌, ◌==◌, Some, None, sym, ◌∙◌}
use Rattle.std.proofs.lemmas.Iterator.{YieldsList-from_slice}
use Rattle.std.proofs.lemmas.Iterator.Search.{position_from_yields_List}
use Rattle.xf_app.proofs.LineFacts.{feed_of, lines-by_feed, take-rest}
use Rattle.xf_app.proofs.lines.first_line.Goals as goal

pub returns-in-None-clause-first : goal.returns-in-None-clause-first
returns-in-None-clause-first c =
    let found : c.position.result ≡ feed_of c.args.text.now =
    position_from_yields_List (λ b. b == 10) _ _ c.position.result c.position.ensures.ran (YieldsList-from_slice c.args.text.now cc) (λ x b q k. search (rules, tests)) in
    lines-by_feed c.args.text.now None (sym c.in-None.is ∙ found) c.requires

pub returns-in-Some-clause-first : goal.returns-in-Some-clause-first
returns-in-Some-clause-first c =
    let found : c.position.result ≡ feed_of c.args.text.now =
    position_from_yields_List (λ b. b == 10) _ _ c.position.result c.position.ensures.ran (YieldsList-from_slice c.args.text.now cc) (λ x b q k. search (rules, tests)) in
    let first = lines-by_feed c.args.text.now (Some c.in-Some.end) (sym c.in-Some.is ∙ found) c.requires in
    rw (take-rest, c.without_return.ensures) first
