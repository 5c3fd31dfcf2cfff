-- All rows are those of the table, since none come after them.
use Rattle.std.proofs.Common.{IfOk, List, subst, sym}
use Rattle.std.specs.List.{AllByRecursion}
use Rattle.xf_base.specs.declared.cell.Cell.{Cell}
use Rattle.xf_engine.specs.Folding.{AreFoldedFor, AreValuesFor, dimensions_then, rows_then}
use Rattle.xf_engine.specs.Held.{HoldsPlacesOf, live_dimensions}
use Rattle.xf_engine.proofs.Coming.{joined}
use Rattle.xf_engine.proofs.folding.refold_values.Goals as goal
use Rattle.xf_group.specs.Admitted.{SuitAll}

pub fold_values-requires-clause-places : goal.fold_values-requires-clause-places
fold_values-requires-clause-places g c =
    subst (λ (rows : List (List Cell)). AllByRecursion (HoldsPlacesOf g.A.Accessor.keys_of g.G.Rounding.rounded (live_dimensions c.args.dimensions.now) rows) c.args.groups.now) (sym c.rows.ensures.rows) c.requires.places

pub fold_values-requires-clause-group_suit : goal.fold_values-requires-clause-group_suit
fold_values-requires-clause-group_suit g c =
    subst (λ (rows : List (List Cell)). AllByRecursion (λ held. SuitAll (g.R.Reducer.fits_to held.group.reducer) rows) c.args.groups.now) (sym (joined c.rows.ensures.rows c.new-none.ensures)) c.requires.group_suit

pub fold_values-requires-clause-whole_suit : goal.fold_values-requires-clause-whole_suit
fold_values-requires-clause-whole_suit g c =
    subst (λ (rows : List (List Cell)). AllByRecursion (λ held. SuitAll (g.R.Reducer.fits_to held.reducer) rows) c.args.wholes.now) (sym (joined c.rows.ensures.rows c.new-none.ensures)) c.requires.whole_suit

pub returns-clause-groups : goal.returns-clause-groups
returns-clause-groups g c =
    let lives = dimensions_then c.args.counting.now (live_dimensions c.args.dimensions.now) in
    subst (λ (rows : List (List Cell)). IfOk c.fold_values.result (λ folded. AreFoldedFor g.A.Accessor.keys_of g.P.Predicate.says_to g.G.Rounding.rounded g.R.Reducer.meaning_of g.R.Reducer.folding lives (rows_then c.args.counting.now rows) c.args.groups.now folded.groups.items))
    (joined c.rows.ensures.rows c.new-none.ensures) c.fold_values.ensures.groups

pub returns-clause-wholes : goal.returns-clause-wholes
returns-clause-wholes g c =
    let lives = dimensions_then c.args.counting.now (live_dimensions c.args.dimensions.now) in
    subst (λ (rows : List (List Cell)). IfOk c.fold_values.result (λ folded. AreValuesFor g.A.Accessor.keys_of g.P.Predicate.says_to g.R.Reducer.meaning_of g.R.Reducer.folding lives (rows_then c.args.counting.now rows) c.args.wholes.now folded.wholes.items))
    (joined c.rows.ensures.rows c.new-none.ensures) c.fold_values.ensures.wholes
