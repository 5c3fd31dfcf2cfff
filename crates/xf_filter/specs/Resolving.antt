-- Which filter a raw filter names where keys are written in a form.
use Rattle.std.specs.Prelude.{map}
use Rattle.xf_base.specs.Form.{key_of_word}
use Rattle.xf_base.specs.declared.form.KeyForm.{KeyForm}
use Rattle.xf_filter.specs.declared.filter.Filter.{Filter}
use Rattle.xf_filter.specs.declared.filter.Filter.TheVariants as filter
use Rattle.xf_filter.specs.declared.item.Item.{Item}
use Rattle.xf_filter.specs.declared.item.Item.TheVariants as item
use Rattle.xf_filter.specs.declared.raw_filter.RawFilterParts.{RawFilterParts}
use Rattle.xf_filter.specs.declared.raw_filter.RawFilterParts.TheVariants as form
use Rattle.xf_filter.specs.declared.raw_filter.RawItemParts.{RawItemParts}
use Rattle.xf_filter.specs.declared.raw_filter.RawItemParts.TheVariants as named
use Rattle.xf_filter.specs.declared.raw_filter.RawPredicate.{RawPredicate, fold-RawPredicate}
use Rattle.xf_filter.specs.declared.raw_filter.RawPredicate.TheOpen.{RawPredicate-F}
use Rattle.xf_filter.specs.declared.stock_predicate.StockPredicate.{StockPredicate}
use Rattle.xf_filter.specs.declared.stock_predicate.StockPredicate.TheVariants as stock

abbrev pub resolved_item : KeyForm → RawItemParts → Item
resolved_item keys (named.Exact key) = item.Exact (key_of_word keys key)
resolved_item keys (named.Range low high) = item.Range (key_of_word keys low) (key_of_word keys high)

-- a prefix stays a text
abbrev pub resolved_by : KeyForm → RawPredicate-F StockPredicate → StockPredicate
resolved_by keys (RawPredicate-F.OneOf items) = stock.OneOf (map (resolved_item keys) items)
resolved_by keys (RawPredicate-F.Prefix text) = stock.Prefix text
resolved_by keys (RawPredicate-F.Modulo divisor remainder) = stock.Modulo divisor remainder
resolved_by keys (RawPredicate-F.Not inner) = stock.Not inner
resolved_by keys (RawPredicate-F.And first second) = stock.And first second
resolved_by keys (RawPredicate-F.Or first second) = stock.Or first second

abbrev pub resolved_predicate : KeyForm → RawPredicate → StockPredicate
resolved_predicate keys = fold-RawPredicate StockPredicate (resolved_by keys)

abbrev pub resolved : KeyForm → RawFilterParts → Filter StockPredicate
resolved keys form.All = filter.All
resolved keys (form.Exact key) = filter.Exact (key_of_word keys key)
resolved keys (form.Range low high) = filter.Range (key_of_word keys low) (key_of_word keys high)
resolved keys (form.Func predicate) = filter.Func (resolved_predicate keys predicate)
