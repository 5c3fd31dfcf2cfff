-- The places of the rows that are added come after those of the rows that are held.
use Rattle.std.proofs.Common.{List, ◌++◌, drop, length, map, sym, ap, subst, ◌∙◌, arith}
use Rattle.std.proofs.lemmas.List.{length-drop}
use Rattle.std.specs.List.{AllByRecursion}
use Rattle.std.specs.List.Sorted.{IsStrictlySortedBy}
use Rattle.xf_base.specs.Key.{key_cmp}
use Rattle.xf_base.specs.KeyOrder.{key_cmp_total}
use Rattle.xf_base.specs.declared.key.Key.{Key}
use Rattle.xf_engine.proofs.FoldedGroup.{entered_nothing, suit_back}
use Rattle.xf_engine.proofs.FoldingEntries.{lists_of}
use Rattle.xf_engine.proofs.RoundedKeys.{rounded_lists-ascend, rounded_lists-length}
use Rattle.xf_engine.proofs.fold.enter_added.Goals as goal
use Rattle.xf_group.specs.Group.{keys_in}

pub admit-requires-clause-rows : goal.admit-requires-clause-rows
admit-requires-clause-rows g c = suit_back (g.R.Reducer.fits_to c.args.group.now.reducer) c.args.rows.now.held.now c.args.rows.now.added.now c.requires.rows

pub admit-requires-clause-each : goal.admit-requires-clause-each
admit-requires-clause-each g c =
    let later = drop c.len.result c.args.keys.now in
    let listed = ap length (c.as_slice.ensures.value ∙ c.in_ok-lists.ensures) ∙ rounded_lists-length key_cmp (g.G.Rounding.rounded c.args.rounding.now) later in
    omega (arith, listed, length-drop c.len.result c.args.keys.now, c.len.ensures, c.requires.keys)

pub admit-requires-clause-ascend : goal.admit-requires-clause-ascend
admit-requires-clause-ascend g c =
    subst (AllByRecursion (IsStrictlySortedBy key_cmp)) (sym (c.as_slice.ensures.value ∙ c.in_ok-lists.ensures)) (rounded_lists-ascend key_cmp_total (g.G.Rounding.rounded c.args.rounding.now) (drop c.len.result c.args.keys.now))

pub returns-clause-places : goal.returns-clause-places
returns-clause-places g c =
    let round = g.G.Rounding.rounded c.args.rounding.now in
    c.in_ok-admit.ensures.places
    ∙ ap (λ (more : List (List Key)). c.args.group.now.places ++ more) (c.as_slice.ensures.value ∙ c.in_ok-lists.ensures ∙ ap (λ n. lists_of round (drop n c.args.keys.now)) c.len.ensures)

pub returns-clause-none : goal.returns-clause-none
returns-clause-none g c =
    let folding = g.R.Reducer.folding in
    let old = c.args.group.now in
    let new = c.admit.new.self in
    entered_nothing g.R.Reducer.meaning_of (folding old.reducer).initial old.entries new.entries (keys_in old.places) new.places c.requires.none c.in_ok-admit.ensures.meanings
    ∙ ap (λ (reducer : g.row.R.Denot). map (λ (key : Key). (key, (folding reducer).initial)) (keys_in new.places)) (sym c.admit.ensures.reducer)
