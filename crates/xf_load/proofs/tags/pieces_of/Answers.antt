-- The split gives the parts, and the filter leaves the empty ones out.
use Rattle.std.proofs.Common.{◌∙◌, ◌==◌, not, length, rules, tests}
use Rattle.std.proofs.lemmas.Iterator.Consumers.{YieldsList-at, YieldsList-from_filter, map_from_collect}
use Rattle.std.proofs.lemmas.Iterator.Splits.{YieldsList-from_str_split}
use Rattle.std.proofs.lemmas.Result.{IfOk-at_ok}
use Rattle.xf_load.proofs.tags.pieces_of.Goals as goal

pub returns : goal.returns
returns c =
    let parts = YieldsList-from_str_split c.args.separator c.args.text.now c.requires c.split.ensures.text c.split.ensures.has_more (c.split.ensures.pattern ∙ c.from.ensures) in
    IfOk-at_ok _ c.in_ok-collect.was (map_from_collect c.collect.result c.collect.ensures.ran (YieldsList-from_filter _ (λ piece. not (length piece == 0)) (YieldsList-at c.filter.ensures.source parts) c.filter.ensures.closure (λ x b q k. search (rules, tests))))
