-- What toggling an item makes of a filter.
use Rattle.std.specs.Prelude.{ℕ, Bool, false, ◌&&◌, List, [], ◌∷◌, ◌++◌, Option, Some, None, remove}
use Rattle.std.specs.List.{position}
use Rattle.std.specs.Ordering.{is_eq}
use Rattle.xf_base.specs.Key.{key_cmp}
use Rattle.xf_filter.specs.declared.filter.Filter.{Filter}
use Rattle.xf_filter.specs.declared.filter.Filter.TheVariants as filter
use Rattle.xf_filter.specs.declared.item.Item.{Item}
use Rattle.xf_filter.specs.declared.item.Item.TheVariants as item
use Rattle.xf_filter.specs.declared.stock_predicate.StockPredicate.{StockPredicate, out-StockPredicate}
use Rattle.xf_filter.specs.declared.stock_predicate.StockPredicate.TheOpen.{StockPredicate-F}
use Rattle.xf_filter.specs.declared.stock_predicate.StockPredicate.TheVariants as predicate

-- the items of a predicate that is a list of them
abbrev pub items_by : StockPredicate-F StockPredicate → List Item
items_by (StockPredicate-F.OneOf items) = items
items_by (StockPredicate-F.Prefix text) = []
items_by (StockPredicate-F.Modulo divisor remainder) = []
items_by (StockPredicate-F.Not inner) = []
items_by (StockPredicate-F.And first second) = []
items_by (StockPredicate-F.Or first second) = []

-- the items that a filter lists
abbrev pub listed : Filter StockPredicate → List Item
listed filter.All = []
listed (filter.Exact value) = item.Exact value ∷ []
listed (filter.Range low high) = item.Range low high ∷ []
listed (filter.Func predicate) = items_by (out-StockPredicate predicate)

-- the filter of a list of items
abbrev pub filter_of_items : List Item → Filter StockPredicate
filter_of_items [] = filter.All
filter_of_items (item.Exact value ∷ []) = filter.Exact value
filter_of_items (item.Range low high ∷ []) = filter.Range low high
filter_of_items (first ∷ second ∷ rest) = filter.Func (predicate.OneOf (first ∷ second ∷ rest))

-- one key is never the same as a range
abbrev pub is_same_item : Item → Item → Bool
is_same_item (item.Exact x) (item.Exact y) = is_eq (key_cmp x y)
is_same_item (item.Exact x) (item.Range low high) = false
is_same_item (item.Range low high) (item.Exact y) = false
is_same_item (item.Range low high) (item.Range from below) = is_eq (key_cmp low from) && is_eq (key_cmp high below)

-- items without the one at a place, or with one more at the end
abbrev pub without_or_with : Option ℕ → Item → List Item → List Item
without_or_with (Some place) item items = remove items place
without_or_with None item items = items ++ item ∷ []

-- items without the first that is the same, or with one more at the end where none is
abbrev pub toggled_items : Item → List Item → List Item
toggled_items item items = without_or_with (position (is_same_item item) items) item items

abbrev pub toggled : Filter StockPredicate → Item → Filter StockPredicate
toggled old item = filter_of_items (toggled_items item (listed old))
