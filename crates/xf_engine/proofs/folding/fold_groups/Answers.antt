-- One more group is folded.
use Rattle.std.proofs.Common.{◌++◌}
use Rattle.xf_engine.specs.Folding.{IsFoldedFor, dimensions_then, rows_then}
use Rattle.xf_engine.specs.Held.{HoldsPlacesOf, live_dimensions}
use Rattle.xf_engine.specs.declared.grouping.Grouping.{Grouping}
use Rattle.xf_engine.proofs.FoldingEntries.{all_zip-next}
use Rattle.xf_engine.proofs.folding.fold_groups.Goals as goal
use Rattle.xf_group.proofs.AdmitSteps.{all_read}
use Rattle.xf_group.specs.Admitted.{SuitAll}
use Rattle.xf_group.specs.Group.{Grouped}

pub refold_group-requires-clause-places : goal.refold_group-requires-clause-places
refold_group-requires-clause-places g c =
    all_read (HoldsPlacesOf g.A.Accessor.keys_of g.G.Rounding.rounded (live_dimensions c.args.dimensions.now) c.args.rows.now.held.now) c.args.groups.now c.loop-group.group-index c.group-item.result c.requires.places c.loop-group-test.true c.group-item.is

pub refold_group-requires-clause-suit : goal.refold_group-requires-clause-suit
refold_group-requires-clause-suit g c =
    all_read (λ (held : Grouping g.row.G.Denot (Grouped g.row.R.Denot g.row.R-Value.Denot)). SuitAll (g.R.Reducer.fits_to held.group.reducer) (c.args.rows.now.held.now ++ c.args.rows.now.added.now)) c.args.groups.now c.loop-group.group-index c.group-item.result c.requires.suit c.loop-group-test.true c.group-item.is

pub loop-group-preserved : goal.loop-group-preserved
loop-group-preserved g c =
    let lives = dimensions_then c.args.counting.now (live_dimensions c.args.dimensions.now) in
    let rows = rows_then c.args.counting.now (c.args.rows.now.held.now ++ c.args.rows.now.added.now) in
    let IsFolded = IsFoldedFor g.A.Accessor.keys_of g.P.Predicate.says_to g.G.Rounding.rounded g.R.Reducer.meaning_of g.R.Reducer.folding lives rows in
    all_zip-next IsFolded c.args.groups.now c.loop-group.group-index c.group-item.result c.loop-group.folded.items c.push.new.self.items c.in_ok-refold_group.field-0 c.group-item.is c.loop-group-test.true c.loop-group.invariant
    c.in_ok-refold_group.ensures c.in_ok-push.ensures.items
