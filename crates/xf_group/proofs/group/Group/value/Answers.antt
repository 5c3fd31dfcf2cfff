-- What the search found is the value of the key.
use Rattle.std.proofs.Common.{◌≡◌, ℕ, Some, None, List, get_or, sym, ap, subst, ◌∙◌}
use Rattle.std.proofs.lemmas.List.Quantifiers.{position-Some}
use Rattle.std.proofs.lemmas.Option.{slice_get-get_or}
use Rattle.std.specs.List.{position}
use Rattle.std.specs.List.Sorted.{IsStrictlySortedBy}
use Rattle.std.specs.Option.{option_copied}
use Rattle.xf_base.specs.Key.{key_cmp}
use Rattle.xf_base.specs.declared.key.Key.{Key}
use Rattle.xf_group.specs.Group.{Grouped, is_entry_of, value_at}
use Rattle.xf_group.specs.Held.{grouped, keys_of}
use Rattle.xf_group.specs.declared.entry.Entry.{Entry}
use Rattle.xf_group.proofs.GroupHeld.{keys_sorted, value_found, value_none}
use Rattle.xf_group.proofs.group.Group.value.Goals as goal

-- what the search says of a key that is there, and of one that is not
found_value : {V : Type 0} (entries lent : List (Entry V)) (key : Key) (i : ℕ) (d : Entry V) → lent ≡ entries → Some i ≡ position (is_entry_of key) lent → Some (get_or lent i d).value ≡ value_at entries key
found_value {V} entries lent key i d same found =
    let said = position-Some (is_entry_of key) lent i d (sym found) in
    sym (value_found lent key i d (sym found) (slice_get-get_or lent i d said.0)) ∙ ap (λ es. value_at es key) same

no_value : {V : Type 0} (entries lent : List (Entry V)) (key : Key) → lent ≡ entries → None ≡ position (is_entry_of key) lent → None ≡ value_at entries key
no_value {V} entries lent key same found = sym (value_none lent key (sym found)) ∙ ap (λ es. value_at es key) same

pub find-requires : goal.find-requires
find-requires g c =
    subst (λ es. IsStrictlySortedBy key_cmp (keys_of es)) (sym c.as_slice.ensures.value) (keys_sorted c.self.inside.reducer c.self.inside.entries.items c.self.inside.places c.self.invariant.group)

pub returns-in_err-position-clause-value : goal.returns-in_err-position-clause-value
returns-in_err-position-clause-value g c =
    let view : grouped c.self.inside.reducer c.self.inside.entries.items c.self.inside.places ≡ c.args.self.now = c.self.view_is in
    ap option_copied c.from_residual.ensures
    ∙ no_value c.self.inside.entries.items c.as_slice.result.now c.args.key.now c.as_slice.ensures.value c.in_err-position.ensures.found
    ∙ ap (λ (group : Grouped g.row.R.Denot g.row.R-Value.Denot). value_at group.entries c.args.key.now) view

pub returns-clause-value : goal.returns-clause-value
returns-clause-value g c =
    let view : grouped c.self.inside.reducer c.self.inside.entries.items c.self.inside.places ≡ c.args.self.now = c.self.view_is in
    let same : c.as_slice-entries.result.now ≡ c.as_slice.result.now = c.as_slice-entries.ensures.value ∙ sym c.as_slice.ensures.value in
    ap (λ (es : List (Entry g.row.R-Value.Denot)). Some (get_or es c.in_ok-position.position c.index-entries-position.result).value) same
    ∙ found_value c.self.inside.entries.items c.as_slice.result.now c.args.key.now c.in_ok-position.position c.index-entries-position.result c.as_slice.ensures.value c.in_ok-position.ensures.found
    ∙ ap (λ (group : Grouped g.row.R.Denot g.row.R-Value.Denot). value_at group.entries c.args.key.now) view
