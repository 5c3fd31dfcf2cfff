-- The first key of another kind in joined lists.
use Rattle.std.proofs.Common.{◌≡◌, sym, ℕ, zero, suc, ◌<◌, List, [], ◌∷◌, ◌++◌, drop, get_or, length, flat_map, map, not, ap, ◌∙◌, arith}
use Rattle.std.proofs.lemmas.List.{map-append}
use Rattle.std.proofs.lemmas.List.Folds.{find-append}
use Rattle.std.specs.List.{find}
use Rattle.std.specs.Option.{option_or}
use Rattle.xf_base.specs.Kind.{is_same_kind, kind_of_key}
use Rattle.xf_base.specs.declared.key.Key.{Key}
use Rattle.xf_base.specs.declared.kind.KeyKind.{KeyKind}
use Rattle.xf_filter.specs.Filter.{first_other, item_keys}
use Rattle.xf_filter.specs.Stock.{keys_by, stock_keys}
use Rattle.xf_filter.specs.declared.item.Item.{Item}
use Rattle.xf_filter.specs.declared.stock_predicate.StockPredicate.{StockPredicate}
use Rattle.xf_filter.specs.declared.stock_predicate.StockPredicate.TheFolds.{fold-roll-StockPredicate}
use Rattle.xf_filter.specs.declared.stock_predicate.StockPredicate.TheOpen.{StockPredicate-F}
use Rattle.xf_filter.specs.declared.stock_predicate.StockPredicate.TheVariants as predicate
use Rattle.xf_filter.specs.declared.stock_predicate.StockPredicate.TheVariants.{rolls-And, rolls-Or}

-- it is the first list's, or else the second's
pub first_other_append : (kind : KeyKind) (xs ys : List Key) → first_other kind (xs ++ ys) ≡ option_or (first_other kind xs) (first_other kind ys)
first_other_append kind xs ys =
    ap (find (λ given. not (is_same_kind kind given))) (map-append kind_of_key xs ys) ∙ find-append (λ given. not (is_same_kind kind given)) (map kind_of_key xs) (map kind_of_key ys)

-- from one item on it is that item's, or else that of the items after it
pub first_other_from : (kind : KeyKind) (items : List Item) (i : ℕ) (d : Item) → i < length items
    → first_other kind (flat_map item_keys (drop i items)) ≡ option_or (first_other kind (item_keys (get_or items i d))) (first_other kind (flat_map item_keys (drop (suc i) items)))
first_other_from kind [] i d h = absurd (omega arith)
first_other_from kind (x ∷ xs) zero d h = first_other_append kind (item_keys x) (flat_map item_keys xs)
first_other_from kind (x ∷ xs) (suc i) d h = first_other_from kind xs i d (omega arith)

-- the keys of two predicates that are joined
pub keys_of_and : (first second : StockPredicate) → stock_keys (predicate.And first second) ≡ stock_keys first ++ stock_keys second
keys_of_and first second = ap stock_keys (sym (rolls-And first second)) ∙ fold-roll-StockPredicate (List Key) keys_by (StockPredicate-F.And first second)

pub keys_of_or : (first second : StockPredicate) → stock_keys (predicate.Or first second) ≡ stock_keys first ++ stock_keys second
keys_of_or first second = ap stock_keys (sym (rolls-Or first second)) ∙ fold-roll-StockPredicate (List Key) keys_by (StockPredicate-F.Or first second)
