use Rattle.std.proofs.Common.{◌≡◌, false, sym, ◌∙◌}
use Rattle.xf_engine.proofs.Passes.{passes_at-keys}
use Rattle.xf_filter.specs.Filter.{filter_of}
use Rattle.xf_engine.proofs.dimension.passes.Goals as goal

pub returns-else-is_all : goal.returns-else-is_all
returns-else-is_all g c =
    let set : (filter_of g.P.Predicate.says_to c.args.dimension.now.filter).is_all ≡ false = sym c.is_all.ensures ∙ c.if-is_all.false in
    c.holds_any.ensures ∙ passes_at-keys g.P.Predicate.says_to c.args.dimension.now c.args.place c.list.result.now set c.list.ensures
