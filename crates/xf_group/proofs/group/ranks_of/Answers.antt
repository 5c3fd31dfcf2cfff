-- The rank of one entry more, at a step.
use Rattle.std.proofs.Common.{ℤ, refl, ap, ◌∙◌, arith, rules}
use Rattle.std.proofs.lemmas.Int.{to_z-of_z}
use mir.Syntax.{w128}
use mir.Val.{SFits}
use Rattle.xf_group.specs.declared.entry.Entry.{Entry}
use Rattle.xf_group.proofs.RanksMore.{ranks_more}
use Rattle.xf_group.proofs.group.ranks_of.Goals as goal

pub loop-position-preserved : goal.loop-position-preserved
loop-position-preserved g c =
    let rank : g.row.R-Value.Denot → ℤ = λ value. g.R.Reducer.rank_of c.args.reducer.now (g.R.Reducer.meaning_of value) c.args.field in
    let fits : SFits w128 c.rank.result = search rules in
    record {
      made = ranks_more rank c.args.entries.now c.loop-position.position c.index-entries-position.result c.loop-position.ranks.items c.push.new.self.items _ (omega arith)
          c.loop-position.invariant.made c.in_ok-push.ensures.items (to_z-of_z w128 c.rank.result fits ∙ c.rank.ensures ∙ ap (λ (e : Entry g.row.R-Value.Denot). rank e.value) c.index-entries-position.is) refl;
      spent = omega arith;
    }
