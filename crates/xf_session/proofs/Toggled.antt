-- An item that is toggled in a filter whose keys are of a kind: the new filter's keys are of it exactly where the item's are.
use Rattle.std.proofs.Common.{◌≡◌, ℕ, Bool, true, false, ◌&&◌, List, [], ◌∷◌, ◌++◌, map, flat_map, get_or, Option, Some, None, not, option_map, refl, sym, ap, ap₂, ◌∙◌}
use Rattle.std.proofs.lemmas.List.{map-append}
use Rattle.std.proofs.lemmas.List.Elements.{All-from_recursion}
use Rattle.std.proofs.lemmas.List.Folds.{find-append}
use Rattle.std.proofs.lemmas.List.Quantifiers.{position-Some}
use Rattle.std.specs.List.{AllByRecursion, find, position, remove}
use Rattle.std.specs.Option.{option_or}
use Rattle.std.specs.Ordering.{is_eq}
use Rattle.xf_base.proofs.EqualKeys.{eq_by_key_cmp-same}
use Rattle.xf_base.specs.Key.{key_cmp}
use Rattle.xf_base.specs.Kind.{is_same_kind, kind_of_key, kind_of_key_form}
use Rattle.xf_base.specs.declared.key.Key.{Key}
use Rattle.xf_base.specs.declared.kind.KeyKind.{KeyKind}
use Rattle.xf_engine.proofs.ById.{all-remove}
use Rattle.xf_filter.specs.Filter.{filter_keys, first_other, item_keys}
use Rattle.xf_filter.specs.Resolving.{resolved_item}
use Rattle.xf_filter.specs.Stock.{keys_by, stock_keys}
use Rattle.xf_filter.specs.Toggle.{filter_of_items, is_same_item, items_by, listed, toggled, toggled_items, without_or_with}
use Rattle.xf_filter.specs.declared.filter.Filter.TheVariants as filter
use Rattle.xf_filter.specs.declared.item.Item.{Item}
use Rattle.xf_filter.specs.declared.item.Item.TheVariants as item
use Rattle.xf_filter.specs.declared.raw_filter.RawItemParts.{RawItemParts}
use Rattle.xf_filter.specs.declared.stock_predicate.StockPredicate.{StockPredicate, out-StockPredicate}
use Rattle.xf_filter.specs.declared.stock_predicate.StockPredicate.TheFolds.{fold-roll-StockPredicate, fold_out-StockPredicate, map-StockPredicate}
use Rattle.xf_filter.specs.declared.stock_predicate.StockPredicate.TheOpen.{StockPredicate-F}
use Rattle.xf_filter.specs.declared.stock_predicate.StockPredicate.TheVariants.{rolls-OneOf}
use Rattle.xf_reply.specs.declared.refusal.Refusal.{Refusal}
use Rattle.xf_reply.specs.declared.refusal.Refusal.TheVariants as refusal
use Rattle.xf_script.specs.declared.command.CommandForm.TheVariants as form
use Rattle.xf_session.proofs.Filtered.{naming_is}
use Rattle.xf_session.specs.Command.{filter_on, moved, moving, no_dimension, unless, with_filter, wrong_kind}
use Rattle.xf_session.specs.Does.{outcome_within}
use Rattle.xf_session.specs.Filtering.{setting}
use Rattle.xf_session.specs.State.{Name, Session, StockFilter, named, naming_of}
use Rattle.xf_session.specs.declared.naming.Naming.{Naming}

-- ---- keys of joined lists

first_of_both : (kind : KeyKind) (xs ys : List Key) → first_other kind (xs ++ ys) ≡ option_or (first_other kind xs) (first_other kind ys)
first_of_both kind xs ys =
    ap (find (λ given. not (is_same_kind kind given))) (map-append kind_of_key xs ys) ∙ find-append (λ given. not (is_same_kind kind given)) (map kind_of_key xs) (map kind_of_key ys)

or_none : (a b : Option KeyKind) → option_or a b ≡ None → (a ≡ None) × (b ≡ None)
or_none None b e = (refl, e)
or_none (Some kind) b e = absurd cc

-- an item whose keys are of the kind
abbrev Fits : KeyKind → Item → Type 0
Fits kind one = first_other kind (item_keys one) ≡ None

fits_each : (kind : KeyKind) (items : List Item) → first_other kind (flat_map item_keys items) ≡ None → AllByRecursion (Fits kind) items
fits_each kind [] none = tt
fits_each kind (first ∷ items) none =
    let both = or_none (first_other kind (item_keys first)) (first_other kind (flat_map item_keys items)) (sym (first_of_both kind (item_keys first) (flat_map item_keys items)) ∙ none) in
    (both.0, fits_each kind items both.1)

fits_all : (kind : KeyKind) (items : List Item) → AllByRecursion (Fits kind) items → first_other kind (flat_map item_keys items) ≡ None
fits_all kind [] all = refl
fits_all kind (first ∷ items) all =
    first_of_both kind (item_keys first) (flat_map item_keys items)
    ∙ ap (λ own. option_or own (first_other kind (flat_map item_keys items))) all.0 ∙ fits_all kind items all.1

-- one more at the end
fits_more : (kind : KeyKind) (items : List Item) (one : Item) → AllByRecursion (Fits kind) items → first_other kind (flat_map item_keys (items ++ one ∷ [])) ≡ first_other kind (item_keys one)
fits_more kind [] (item.Exact value) all = refl
fits_more kind [] (item.Range low high) all = refl
fits_more kind (first ∷ items) one all =
    first_of_both kind (item_keys first) (flat_map item_keys (items ++ one ∷ []))
    ∙ ap (λ own. option_or own (first_other kind (flat_map item_keys (items ++ one ∷ [])))) all.0 ∙ fits_more kind items one all.1

-- ---- the items of a filter

-- the keys of a filter's items are among its own
fits_by : (kind : KeyKind) (layer : StockPredicate-F StockPredicate) (keys : List Key) → first_other kind keys ≡ None → ((items : List Item) → layer ≡ StockPredicate-F.OneOf items → keys ≡ flat_map item_keys items) → first_other kind (flat_map item_keys (items_by layer)) ≡ None
fits_by kind (StockPredicate-F.OneOf items) keys none same = ap (first_other kind) (sym (same items refl)) ∙ none
fits_by kind (StockPredicate-F.Prefix text) keys none same = refl
fits_by kind (StockPredicate-F.Modulo divisor remainder) keys none same = refl
fits_by kind (StockPredicate-F.Not inner) keys none same = refl
fits_by kind (StockPredicate-F.And first second) keys none same = refl
fits_by kind (StockPredicate-F.Or first second) keys none same = refl

listed_fits : (kind : KeyKind) (own : StockFilter) → first_other kind (filter_keys stock_keys own) ≡ None → first_other kind (flat_map item_keys (listed own)) ≡ None
listed_fits kind filter.All none = refl
listed_fits kind (filter.Exact value) none = none
listed_fits kind (filter.Range low high) none = none
listed_fits kind (filter.Func own) none = fits_by kind (out-StockPredicate own) (stock_keys own) none (λ items e. fold_out-StockPredicate (List Key) keys_by own ∙ ap (λ (layer : StockPredicate-F StockPredicate). keys_by (map-StockPredicate StockPredicate (List Key) stock_keys layer)) e)

-- the keys of the filter of a list of items are theirs
keys_of_items : (items : List Item) → filter_keys stock_keys (filter_of_items items) ≡ flat_map item_keys items
keys_of_items [] = refl
keys_of_items (item.Exact value ∷ []) = refl
keys_of_items (item.Range low high ∷ []) = refl
keys_of_items (first ∷ second ∷ rest) =
    ap stock_keys (sym (rolls-OneOf (first ∷ second ∷ rest))) ∙ fold-roll-StockPredicate (List Key) keys_by (StockPredicate-F.OneOf (first ∷ second ∷ rest))

-- ---- toggling

both_true : (a b : Bool) → (a && b) ≡ true → (a ≡ true) × (b ≡ true)
both_true true b e = (refl, e)
both_true false b e = absurd cc

same_key : (x y : Key) → is_eq (key_cmp x y) ≡ true → x ≡ y
same_key x y e = (eq_by_key_cmp-same x y).0 e

same_item : (x y : Item) → is_same_item x y ≡ true → x ≡ y
same_item (item.Exact x) (item.Exact y) e = ap item.Exact (same_key x y e)
same_item (item.Exact x) (item.Range low high) e = absurd cc
same_item (item.Range low high) (item.Exact y) e = absurd cc
same_item (item.Range low high) (item.Range from below) e =
    let both = both_true (is_eq (key_cmp low from)) (is_eq (key_cmp high below)) e in
    ap₂ item.Range (same_key low from both.0) (same_key high below both.1)

toggled_keys : (kind : KeyKind) (one : Item) (items : List Item) → AllByRecursion (Fits kind) items → first_other kind (flat_map item_keys (toggled_items one items)) ≡ first_other kind (item_keys one)
toggled_keys kind one items all = go (position (is_same_item one) items) refl
  where
    go : (at : Option ℕ) → position (is_same_item one) items ≡ at → first_other kind (flat_map item_keys (without_or_with at one items)) ≡ first_other kind (item_keys one)
    go None e = fits_more kind items one all
    go (Some place) e =
        let found = position-Some (is_same_item one) items place one e in
        let same : one ≡ get_or items place one = same_item one (get_or items place one) found.1 in
        let fits : first_other kind (item_keys (get_or items place one)) ≡ None = All-from_recursion (Fits kind) items all place one found.0 in
        fits_all kind (remove items place) (all-remove (Fits kind) items place all) ∙ sym (ap (λ own. first_other kind (item_keys own)) same ∙ fits)

toggled_fits : (kind : KeyKind) (own : StockFilter) (one : Item) → first_other kind (filter_keys stock_keys own) ≡ None → first_other kind (filter_keys stock_keys (toggled own one)) ≡ first_other kind (item_keys one)
toggled_fits kind own one none =
    ap (first_other kind) (keys_of_items (toggled_items one (listed own)))
    ∙ toggled_keys kind one (listed own) (fits_each kind (listed own) (listed_fits kind own none))

-- ---- the command

-- toggling is setting the filter with the item toggled
pub toggles : (s : Session) (name : Name) (naming : Naming) (words : RawItemParts) (own new : StockFilter) (one : Item) → named s.dimensions name ≡ Some naming → own ≡ filter_on s name
    → first_other (kind_of_key_form naming.form) (filter_keys stock_keys own) ≡ None → one ≡ resolved_item naming.form words → new ≡ toggled own one
    → setting s name new ≡ outcome_within s (form.Toggle name words)
toggles s name naming words own new one is set fits read made =
    let kind = kind_of_key_form naming.form in
    let form_is = naming_is s name naming is in
    let item_is : one ≡ resolved_item (naming_of s name).form words = read ∙ ap (λ (at : Naming). resolved_item at.form words) (sym form_is) in
    let new_is : new ≡ toggled (filter_on s name) one = made ∙ ap (λ (f : StockFilter). toggled f one) set in
    let other : first_other kind (filter_keys stock_keys (toggled (filter_on s name) one)) ≡ first_other kind (item_keys one) =
    ap (λ (f : StockFilter). first_other kind (filter_keys stock_keys (toggled f one))) (sym set) ∙ toggled_fits kind own one fits in
    let cause : wrong_kind s name (filter_keys stock_keys (toggled (filter_on s name) one)) ≡ wrong_kind s name (item_keys one) =
    ap (λ (at : Naming). option_map (refusal.WrongKind (kind_of_key_form at.form)) (first_other (kind_of_key_form at.form) (filter_keys stock_keys (toggled (filter_on s name) one)))) form_is
    ∙ ap (option_map (refusal.WrongKind kind)) other
    ∙ ap (λ (at : Naming). option_map (refusal.WrongKind (kind_of_key_form at.form)) (first_other (kind_of_key_form at.form) (item_keys one))) (sym form_is) in
    ap (setting s name) new_is
    ∙ ap (λ (why : Option Refusal). unless (no_dimension s name ∷ why ∷ []) (with_filter s name (toggled (filter_on s name) one)) (moving (moved s name (toggled (filter_on s name) one)))) cause
    ∙ ap (λ (given : Item). unless (no_dimension s name ∷ wrong_kind s name (item_keys given) ∷ []) (with_filter s name (toggled (filter_on s name) given)) (moving (moved s name (toggled (filter_on s name) given)))) item_is
