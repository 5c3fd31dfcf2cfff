-- The group's dimension is live, and stands then where it stands now.
use Rattle.std.proofs.Common.{◌≡◌, ◌++◌, is_some, List, map, slice_get, Some, sym, ap, subst, ◌∙◌}
use Rattle.std.proofs.lemmas.Bool.{false≢true}
use Rattle.std.specs.List.{position}
use Rattle.xf_base.specs.Key.{key_cmp}
use Rattle.xf_base.specs.declared.cell.Cell.{Cell}
use Rattle.xf_base.specs.declared.key.Key.{Key}
use Rattle.xf_engine.specs.Answers.{entries_at, entries_under, keys_under}
use Rattle.xf_engine.specs.Folding.{IsFoldedFor, dimensions_then, rows_then}
use Rattle.xf_engine.specs.Held.{live_dimensions, places_under}
use Rattle.xf_engine.specs.State.{has_id}
use Rattle.xf_engine.proofs.Coming.{dimension-among}
use Rattle.xf_engine.proofs.FoldingEntries.{if_ok-three, keys-then, position-then}
use Rattle.xf_engine.proofs.FreeId.{taken_dimension}
use Rattle.xf_engine.proofs.Values.{found-placed}
use Rattle.xf_engine.proofs.folding.refold_group.Goals as goal
use Rattle.xf_group.specs.Admitted.{SuitAll}
use Rattle.xf_group.specs.Group.{Grouped, keys_in, meanings}
use Rattle.xf_model.specs.Group.{rounded_keys}

pub unreachable-requires : goal.unreachable-requires
unreachable-requires g c =
    let placed = taken_dimension c.args.group.now.dimension.0 c.args.dimensions.now ∙ c.requires.live in
    let none = ap is_some (sym c.dimension_place.ensures ∙ c.in_default.is) in
    false≢true (sym none ∙ placed)

pub fold_group-requires-clause-own : goal.fold_group-requires-clause-own
fold_group-requires-clause-own g c =
    let id = c.args.group.now.dimension.0 in
    let placed : position (has_id id) (live_dimensions c.args.dimensions.now) ≡ Some c.in-Some.own = sym c.dimension_place.ensures ∙ c.in-Some.is in
    dimension-among id c.args.dimensions.now c.in-Some.own placed

pub fold_group-requires-clause-places : goal.fold_group-requires-clause-places
fold_group-requires-clause-places g c =
    let held = c.args.group.now in
    let lives = live_dimensions c.args.dimensions.now in
    let placed : position (has_id held.dimension.0) lives ≡ Some c.in-Some.own = sym c.dimension_place.ensures ∙ c.in-Some.is in
    c.in_ok-emptied.ensures.places ∙ c.requires.places
    ∙ ap (λ found. places_under g.A.Accessor.keys_of (g.G.Rounding.rounded held.rounding) found c.args.rows.now.held.now) (sym (found-placed (has_id held.dimension.0) lives c.in-Some.own placed))

pub fold_group-requires-clause-none : goal.fold_group-requires-clause-none
fold_group-requires-clause-none g c =
    c.in_ok-emptied.ensures.none
    ∙ ap (λ (reducer : g.row.R.Denot). map (λ (key : Key). (key, (g.R.Reducer.folding reducer).initial)) (keys_in c.args.group.now.group.places)) (sym c.in_ok-emptied.ensures.reducer)
    ∙ ap (λ (places : List (List Key)). map (λ (key : Key). (key, (g.R.Reducer.folding c.in_ok-emptied.emptied.reducer).initial)) (keys_in places)) (sym c.in_ok-emptied.ensures.places)

pub fold_group-requires-clause-suit : goal.fold_group-requires-clause-suit
fold_group-requires-clause-suit g c =
    subst (λ (reducer : g.row.R.Denot). SuitAll (g.R.Reducer.fits_to reducer) (c.args.rows.now.held.now ++ c.args.rows.now.added.now)) (sym c.in_ok-emptied.ensures.reducer) c.requires.suit

pub returns : goal.returns
returns g c =
    let keys_of = g.A.Accessor.keys_of in
    let says = g.P.Predicate.says_to in
    let held = c.args.group.now in
    let id = held.dimension.0 in
    let own = c.in-Some.own in
    let counting = c.args.counting.now in
    let now = live_dimensions c.args.dimensions.now in
    let lives = dimensions_then counting now in
    let rows = rows_then counting (c.args.rows.now.held.now ++ c.args.rows.now.added.now) in
    let round = g.G.Rounding.rounded held.rounding in
    let folding = g.R.Reducer.folding in
    let meaning_of = g.R.Reducer.meaning_of in
    let emptied = c.in_ok-emptied.emptied in
    let copied : emptied.reducer ≡ held.group.reducer = c.in_ok-emptied.ensures.reducer in
    let placed : position (has_id id) lives ≡ Some own = position-then id counting now ∙ sym c.dimension_place.ensures ∙ c.in-Some.is in
    let HasReducer = λ (group : Grouped g.row.R.Denot g.row.R-Value.Denot). group.reducer ≡ emptied.reducer in
    let HasPlaces = λ (group : Grouped g.row.R.Denot g.row.R-Value.Denot). group.places ≡ places_under keys_of round (slice_get now own) rows in
    let HasEntries = λ (group : Grouped g.row.R.Denot g.row.R-Value.Denot). meanings meaning_of group.entries ≡ entries_at keys_of says lives rows round (folding emptied.reducer) own in
    if_ok-three c.fold_group.result HasReducer HasPlaces HasEntries (IsFoldedFor keys_of says g.G.Rounding.rounded meaning_of folding lives rows held)
    (λ group same places made. record {
      reducer = same ∙ copied;
      places = places ∙ ap (λ (keys : List Cell → List Key). map (rounded_keys key_cmp round keys) rows) (sym (keys-then keys_of counting now own) ∙ ap (keys_under keys_of) (found-placed (has_id id) lives own placed));
      entries = made ∙ ap (λ reducer. entries_at keys_of says lives rows round (folding reducer) own) copied ∙ sym (ap (entries_under keys_of says lives rows round (folding held.group.reducer)) placed);
    }) c.fold_group.ensures.reducer c.fold_group.ensures.places c.fold_group.ensures.entries
