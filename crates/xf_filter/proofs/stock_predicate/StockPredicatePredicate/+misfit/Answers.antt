use Rattle.std.proofs.Common.{◌≡◌, ap, ap₂, sym, ◌∙◌, ◌++◌, Option}
use Rattle.std.specs.Option.{option_or}
use Rattle.xf_base.specs.declared.kind.KeyKind.{KeyKind}
use Rattle.xf_filter.specs.Filter.{first_other}
use Rattle.xf_filter.specs.Stock.{stock_keys}
use Rattle.xf_filter.specs.declared.stock_predicate.StockPredicate.{StockPredicate}
use Rattle.xf_filter.proofs.Misfits.{first_other_append, keys_of_and, keys_of_or}
use Rattle.xf_filter.proofs.stock_predicate.StockPredicatePredicate.+misfit.Goals as goal

pub returns-in-And : goal.returns-in-And
returns-in-And t c =
    c.or.ensures
    ∙ ap₂ option_or (c.misfit-in-And.ensures ∙ ap of c.get-in-And.ensures) (c.misfit-in-And-2.ensures ∙ ap of c.get-in-And-2.ensures)
    ∙ sym (first_other_append c.args.kind.now (stock_keys c.in-And.first) (stock_keys c.in-And.second)) ∙ ap (first_other c.args.kind.now) joined
  where
    joined : stock_keys c.in-And.first ++ stock_keys c.in-And.second ≡ stock_keys c.args.self.now
    joined = sym (ap stock_keys c.in-And.is ∙ keys_of_and c.in-And.first c.in-And.second)

    of : StockPredicate → Option KeyKind
    of predicate = first_other c.args.kind.now (stock_keys predicate)

pub returns-in-Or : goal.returns-in-Or
returns-in-Or t c =
    c.or-in-Or.ensures
    ∙ ap₂ option_or (c.misfit-in-Or.ensures ∙ ap of c.get-in-Or.ensures) (c.misfit-in-Or-2.ensures ∙ ap of c.get-in-Or-2.ensures)
    ∙ sym (first_other_append c.args.kind.now (stock_keys c.in-Or.first) (stock_keys c.in-Or.second)) ∙ ap (first_other c.args.kind.now) joined
  where
    joined : stock_keys c.in-Or.first ++ stock_keys c.in-Or.second ≡ stock_keys c.args.self.now
    joined = sym (ap stock_keys c.in-Or.is ∙ keys_of_or c.in-Or.first c.in-Or.second)

    of : StockPredicate → Option KeyKind
    of predicate = first_other c.args.kind.now (stock_keys predicate)
