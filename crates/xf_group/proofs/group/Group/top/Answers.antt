-- The ranks sorted are those of the top.
use Rattle.std.proofs.Common.{◌≡◌, ℕ, ℤ, IfOk, Result, Vec, List, map, take, sym, ap, subst, ◌∙◌}
use Rattle.std.proofs.lemmas.List.{take-map}
use Rattle.std.specs.List.Sorted.{IsPermutation, IsSorted}
use Rattle.std.specs.declared.cmp.Reverse.{Reverse}
use Rattle.xf_base.specs.declared.out_of_memory.OutOfMemory.{OutOfMemory}
use Rattle.xf_group.specs.Group.{Grouped, ranked_positions}
use Rattle.xf_group.specs.Held.{grouped}
use Rattle.xf_group.specs.Ranks.{ranks_at}
use Rattle.xf_group.specs.declared.entry.Entry.{Entry}
use Rattle.xf_group.proofs.RanksMore.{plain_rank}
use Rattle.xf_group.proofs.RankedPairs.{rank_cmp, sorted_positions}
use Rattle.xf_group.proofs.group.Group.top.Goals as goal

-- the first so many of the sorted ranks
first_positions : {V Memory : Type 0} (rank : V → ℤ) (entries lent : List (Entry V)) (made sorted cut read : List (Reverse ℤ × ℕ)) (k : ℕ) (result : Result (Vec ℕ Memory) OutOfMemory) → lent ≡ entries → map plain_rank made ≡ ranks_at rank lent → IsPermutation made sorted
    → IsSorted (λ one other. rank_cmp (plain_rank one) (plain_rank other)) sorted → cut ≡ take k sorted → read ≡ cut
    → IfOk result (λ v. v.items ≡ map (λ at. at.1) read) → IfOk result (λ v. v.items ≡ take k (ranked_positions rank entries))
first_positions rank entries lent made sorted cut read k result whole same moved up first given made_of =
    let positions : map (λ (at : Reverse ℤ × ℕ). at.1) read ≡ take k (ranked_positions rank entries) =
    ap (map (λ (at : Reverse ℤ × ℕ). at.1)) (given ∙ first)
    ∙ sym (take-map (λ (at : Reverse ℤ × ℕ). at.1) k sorted)
    ∙ ap (take k) (sorted_positions rank lent made sorted same moved up)
    ∙ ap (λ es. take k (ranked_positions rank es)) whole in
    subst (λ (positions : List ℕ). IfOk result (λ v. v.items ≡ positions)) positions made_of

pub returns-clause-positions : goal.returns-clause-positions
returns-clause-positions g c =
    let view : grouped c.self.inside.reducer c.self.inside.entries.items c.self.inside.places ≡ c.args.self.now = c.self.view_is in
    subst (λ (group : Grouped g.row.R.Denot g.row.R-Value.Denot). IfOk c.positions_of.result (λ v. v.items ≡ take c.args.k (ranked_positions (λ value. g.R.Reducer.rank_of group.reducer (g.R.Reducer.meaning_of value) c.args.field) group.entries))) view
    (first_positions (λ value. g.R.Reducer.rank_of c.self.inside.reducer (g.R.Reducer.meaning_of value) c.args.field) c.self.inside.entries.items c.as_slice-entries.result.now c.in_ok-ranks.ranks.items c.sort_unstable.new.self.items c.truncate.new.self.items c.as_slice.result.now c.args.k c.positions_of.result
    c.as_slice-entries.ensures.value c.in_ok-ranks.ensures.ranks c.sort_unstable.ensures.permutation c.sort_unstable.ensures.sorted c.truncate.ensures.items c.as_slice.ensures.value c.positions_of.ensures)
