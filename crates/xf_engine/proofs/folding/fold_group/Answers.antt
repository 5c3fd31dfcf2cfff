-- With the rows that are added the group has the places of all.
use Rattle.std.proofs.Common.{◌≡◌, ◌++◌, List, drop, length, map, slice_get, refl, sym, ap, subst, ◌∙◌}
use Rattle.std.proofs.lemmas.List.{length-append, length-map}
use Rattle.std.proofs.lemmas.Option.{slice_get_read}
use Rattle.std.proofs.lemmas.Result.{IfOk-weaker}
use Rattle.xf_base.specs.Key.{key_cmp}
use Rattle.xf_base.specs.declared.cell.Cell.{Cell}
use Rattle.xf_base.specs.declared.key.Key.{Key}
use Rattle.xf_engine.specs.Answers.{entries_at, keys_under}
use Rattle.xf_engine.specs.Folding.{dimensions_then, rows_then}
use Rattle.xf_engine.specs.Held.{live_dimensions, places_under}
use Rattle.xf_engine.specs.State.{dimensions_of}
use Rattle.xf_engine.proofs.FoldingEntries.{keys-long, keys-then, lists_of, places-joined, places-kept}
use Rattle.xf_engine.proofs.folding.fold_group.Goals as goal
use Rattle.xf_group.specs.Admitted.{SuitAll}
use Rattle.xf_group.specs.Group.{Grouped, meanings}
use Rattle.xf_model.specs.Group.{group_entries, rounded_keys}

pub enter_added-requires-clause-keys : goal.enter_added-requires-clause-keys
enter_added-requires-clause-keys g c =
    let there = slice_get_read c.args.dimensions.now (length c.args.dimensions.now) c.args.own c.index-dimensions-own.result refl c.requires.own c.index-dimensions-own.is in
    ap (λ dimension. length dimension.keys) (sym c.index-dimensions-own.is)
    ∙ keys-long g.A.Accessor.keys_of (c.args.rows.now.held.now ++ c.args.rows.now.added.now) c.args.dimensions.now c.args.own c.index-dimensions-own.result c.requires.keys there
    ∙ length-append c.args.rows.now.held.now c.args.rows.now.added.now

pub count_rows-requires-clause-places : goal.count_rows-requires-clause-places
count_rows-requires-clause-places g c =
    let rows = c.args.rows.now.held.now ++ c.args.rows.now.added.now in
    let round = g.G.Rounding.rounded c.args.rounding.now in
    let one = c.index-dimensions-own.result in
    let there = slice_get_read c.args.dimensions.now (length c.args.dimensions.now) c.args.own one refl c.requires.own c.index-dimensions-own.is in
    let all = c.in_ok-enter_added.ensures.places
    ∙ (λ i. c.requires.places i ++ lists_of round (drop (length c.args.rows.now.held.now) (sym c.index-dimensions-own.is i).keys))
    ∙ places-joined g.A.Accessor.keys_of c.args.rows.now.held.now c.args.rows.now.added.now round c.args.dimensions.now c.args.own one c.requires.keys there in
    ap length all ∙ length-map rows (rounded_keys key_cmp round (keys_under g.A.Accessor.keys_of (slice_get (live_dimensions c.args.dimensions.now) c.args.own)))

pub count_rows-requires-clause-suit : goal.count_rows-requires-clause-suit
count_rows-requires-clause-suit g c =
    subst (λ (reducer : g.row.R.Denot). SuitAll (g.R.Reducer.fits_to reducer) (c.args.rows.now.held.now ++ c.args.rows.now.added.now)) (sym c.in_ok-enter_added.ensures.reducer) c.requires.suit

pub returns-clause-reducer : goal.returns-clause-reducer
returns-clause-reducer g c =
    IfOk-weaker c.count_rows.result (λ (folded : Grouped g.row.R.Denot g.row.R-Value.Denot). folded.reducer ≡ c.enter_added.new.group.reducer) (λ folded. folded.reducer ≡ c.args.group.reducer)
    (λ folded same. same ∙ c.in_ok-enter_added.ensures.reducer) c.count_rows.ensures.reducer

pub returns-clause-places : goal.returns-clause-places
returns-clause-places g c =
    let keys_of = g.A.Accessor.keys_of in
    let rows = c.args.rows.now.held.now ++ c.args.rows.now.added.now in
    let counting = c.args.counting.now in
    let held = c.args.dimensions.now in
    let own = c.args.own in
    let one = c.index-dimensions-own.result in
    let round = g.G.Rounding.rounded c.args.rounding.now in
    let found = slice_get (live_dimensions held) own in
    let there = slice_get_read held (length held) own one refl c.requires.own c.index-dimensions-own.is in
    let all : c.enter_added.new.group.places ≡ places_under keys_of round found rows = c.in_ok-enter_added.ensures.places
    ∙ (λ i. c.requires.places i ++ lists_of round (drop (length c.args.rows.now.held.now) (sym c.index-dimensions-own.is i).keys))
    ∙ places-joined keys_of c.args.rows.now.held.now c.args.rows.now.added.now round held own one c.requires.keys there in
    IfOk-weaker c.count_rows.result (λ (folded : Grouped g.row.R.Denot g.row.R-Value.Denot). folded.places ≡ rows_then counting c.enter_added.new.group.places) (λ folded. folded.places ≡ places_under keys_of round found (rows_then counting rows))
    (λ folded same. same ∙ ap (λ (places : List (List Key)). rows_then counting places) all ∙ places-kept (rounded_keys key_cmp round (keys_under keys_of found)) counting rows) c.count_rows.ensures.places

pub returns-clause-entries : goal.returns-clause-entries
returns-clause-entries g c =
    let keys_of = g.A.Accessor.keys_of in
    let says = g.P.Predicate.says_to in
    let meaning_of = g.R.Reducer.meaning_of in
    let folding = g.R.Reducer.folding in
    let rows = c.args.rows.now.held.now ++ c.args.rows.now.added.now in
    let counting = c.args.counting.now in
    let held = c.args.dimensions.now in
    let own = c.args.own in
    let one = c.index-dimensions-own.result in
    let round = g.G.Rounding.rounded c.args.rounding.now in
    let found = slice_get (live_dimensions held) own in
    let lives = dimensions_then counting (live_dimensions held) in
    let left = rows_then counting rows in
    let there = slice_get_read held (length held) own one refl c.requires.own c.index-dimensions-own.is in
    let all : c.enter_added.new.group.places ≡ places_under keys_of round found rows = c.in_ok-enter_added.ensures.places
    ∙ (λ i. c.requires.places i ++ lists_of round (drop (length c.args.rows.now.held.now) (sym c.index-dimensions-own.is i).keys))
    ∙ places-joined keys_of c.args.rows.now.held.now c.args.rows.now.added.now round held own one c.requires.keys there in
    let made = c.enter_added.new.group in
    IfOk-weaker c.count_rows.result
    (λ (folded : Grouped g.row.R.Denot g.row.R-Value.Denot). (keys : List Cell → List Key) → made.places ≡ map keys rows → meanings meaning_of folded.entries ≡ group_entries key_cmp keys (folding made.reducer) (dimensions_of keys_of says lives) own left)
    (λ folded. meanings meaning_of folded.entries ≡ entries_at keys_of says lives left round (folding c.args.group.reducer) own)
    (λ folded means.
    means (rounded_keys key_cmp round (keys_under keys_of found)) all
    ∙ ap (λ (reducer : g.row.R.Denot). group_entries key_cmp (rounded_keys key_cmp round (keys_under keys_of found)) (folding reducer) (dimensions_of keys_of says lives) own left) c.in_ok-enter_added.ensures.reducer
    ∙ ap (λ (keys : List Cell → List Key). group_entries key_cmp (rounded_keys key_cmp round keys) (folding c.args.group.reducer) (dimensions_of keys_of says lives) own left) (sym (keys-then keys_of counting (live_dimensions held) own)))
    c.count_rows.ensures.entries
