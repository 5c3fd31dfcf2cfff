-- What the stock predicates mean.
use Rattle.std.specs.Prelude.{ℕ, ℤ, pos, int_le, nat_eq, Bool, false, ◌&&◌, ◌||◌, not, List, [], ◌++◌, flat_map}
use Rattle.std.specs.Int.{int_rem_euclid}
use Rattle.std.specs.List.{list_any, starts_with}
use Rattle.std.specs.Ordering.{int_eq}
use Rattle.xf_base.specs.declared.key.Key.{Key}
use Rattle.xf_base.specs.declared.key.Key.TheVariants as key
use Rattle.xf_filter.specs.Filter.{item_holds, item_keys}
use Rattle.xf_filter.specs.declared.stock_predicate.StockPredicate.{StockPredicate, fold-StockPredicate}
use Rattle.xf_filter.specs.declared.stock_predicate.StockPredicate.TheOpen.{StockPredicate-F}

-- a text that begins with another
abbrev pub begins_with : List ℕ → Key → Bool
begins_with text (key.Num number) = false
begins_with text (key.Text own) = starts_with nat_eq own text
begins_with text (key.Pair first second) = false

-- a number whose remainder by a divisor, from 0 on, is this one; a divisor is 1 or more
abbrev pub is_remainder : ℤ → ℤ → Key → Bool
is_remainder divisor remainder (key.Num number) = int_le (pos 1) divisor && int_eq (int_rem_euclid number divisor) remainder
is_remainder divisor remainder (key.Text text) = false
is_remainder divisor remainder (key.Pair first second) = false

-- what a predicate says, by what those inside it say
abbrev pub says_by : StockPredicate-F (Key → Bool) → Key → Bool
says_by (StockPredicate-F.OneOf items) key = list_any (λ item. item_holds item key) items
says_by (StockPredicate-F.Prefix text) key = begins_with text key
says_by (StockPredicate-F.Modulo divisor remainder) key = is_remainder divisor remainder key
says_by (StockPredicate-F.Not says) key = not (says key)
says_by (StockPredicate-F.And first second) key = first key && second key
says_by (StockPredicate-F.Or first second) key = first key || second key

abbrev pub stock_says : StockPredicate → Key → Bool
stock_says = fold-StockPredicate (Key → Bool) says_by

-- the keys inside a predicate are those of its items, from left to right
abbrev pub keys_by : StockPredicate-F (List Key) → List Key
keys_by (StockPredicate-F.OneOf items) = flat_map item_keys items
keys_by (StockPredicate-F.Prefix text) = []
keys_by (StockPredicate-F.Modulo divisor remainder) = []
keys_by (StockPredicate-F.Not keys) = keys
keys_by (StockPredicate-F.And first second) = first ++ second
keys_by (StockPredicate-F.Or first second) = first ++ second

abbrev pub stock_keys : StockPredicate → List Key
stock_keys = fold-StockPredicate (List Key) keys_by
