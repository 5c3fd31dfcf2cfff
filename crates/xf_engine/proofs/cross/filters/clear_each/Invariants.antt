-- The dimensions so far have no filter, and what that moves is counted.
use Rattle.std.proofs.Common.{◌≡◌, ◌≤◌, sum_by, take}
use Rattle.xf_engine.specs.Held.{held_moved, held_unfiltered, most_moved}
use Rattle.xf_engine.proofs.Swept.{swept}
use Rattle.xf_filter.specs.declared.filter.Filter.TheVariants.{All}
use Rattle.xf_engine.proofs.cross.filters.clear_each.Given as goal

abbrev pub invariant-loop-place : goal.invariant-loop-place
invariant-loop-place g l = record {
  cleared : l.dimensions ≡ swept held_unfiltered l.place l.initial.dimensions;
  moved : l.moved ≡ sum_by (held_moved g.P.Predicate.says_to All) (take l.place l.initial.dimensions);
  few : l.moved ≤ sum_by most_moved (take l.place l.initial.dimensions);
}
