-- The ranks of the entries so far, at a step each.
use Rattle.std.proofs.Common.{◌≡◌, ◌+◌, map, take}
use Rattle.xf_group.specs.Ranks.{ranks_at}
use Rattle.xf_group.proofs.group.ranks_of.Given as goal

abbrev pub invariant-loop-position : goal.invariant-loop-position
invariant-loop-position g l = record {
  made : map (λ at. (at.0.0, at.1)) l.ranks.items ≡ ranks_at (λ value. g.R.Reducer.rank_of l.reducer (g.R.Reducer.meaning_of value) l.field) (take l.position l.entries);
  spent : l.steps ≡ l.initial.steps + l.position;
}
