-- What a filter means, and whether it fits the keys of a dimension.
use Rattle.std.specs.Prelude.{Bool, not, List, [], ◌∷◌, map, Option}
use Rattle.std.specs.List.{find}
use Rattle.xf_base.specs.Key.{key_cmp}
use Rattle.xf_base.specs.Kind.{is_same_kind, kind_of_key}
use Rattle.xf_base.specs.declared.key.Key.{Key}
use Rattle.xf_base.specs.declared.kind.KeyKind.{KeyKind}
use Rattle.xf_filter.specs.declared.filter.Filter.{Filter}
use Rattle.xf_filter.specs.declared.filter.Filter.TheVariants as filter
use Rattle.xf_filter.specs.declared.item.Item.{Item}
use Rattle.xf_filter.specs.declared.item.Item.TheVariants as item
use Rattle.xf_model.specs.Dimension.{Filter as Meaning, all, exactly, range, such_that}

-- the filter of the definitions that a filter is, by what its predicate says
abbrev pub filter_of : {P : Type 0} → (P → Key → Bool) → Filter P → Meaning Key
filter_of says filter.All = all
filter_of says (filter.Exact value) = exactly key_cmp value
filter_of says (filter.Range low high) = range key_cmp low high
filter_of says (filter.Func predicate) = such_that (says predicate)

-- the keys inside a filter, from left to right
abbrev pub filter_keys : {P : Type 0} → (P → List Key) → Filter P → List Key
filter_keys keys_in filter.All = []
filter_keys keys_in (filter.Exact value) = value ∷ []
filter_keys keys_in (filter.Range low high) = low ∷ high ∷ []
filter_keys keys_in (filter.Func predicate) = keys_in predicate

-- whether an item names a key
abbrev pub item_holds : Item → Key → Bool
item_holds (item.Exact value) key = (exactly key_cmp value).holds key
item_holds (item.Range low high) key = (range key_cmp low high).holds key

abbrev pub item_keys : Item → List Key
item_keys (item.Exact value) = value ∷ []
item_keys (item.Range low high) = low ∷ high ∷ []

-- the kind of the first of some keys that is of another kind
abbrev pub first_other : KeyKind → List Key → Option KeyKind
first_other kind keys = find (λ given. not (is_same_kind kind given)) (map kind_of_key keys)
