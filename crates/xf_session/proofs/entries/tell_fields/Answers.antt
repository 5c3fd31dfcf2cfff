use Rattle.std.proofs.Common.{◌∙◌, rules}
use Rattle.std.proofs.lemmas.Int.{to_z-of_z}
use Rattle.xf_reduce.specs.StockReducer.{stock_meaning}
use Rattle.xf_session.proofs.EntryFields.{next-field}
use mir.Syntax.{w128}
use mir.Val.{SFits, of_z, to_z}
use Rattle.xf_session.proofs.entries.tell_fields.Goals as goal

pub loop-field-preserved : goal.loop-field-preserved
loop-field-preserved c =
    let fits : SFits w128 c.rank.result = search rules in
    next-field c.args.schema.now c.args.reducer.now (stock_meaning c.args.value.now) c.loop-field.field c.loop-field.fields.items c.push.new.self.items
    (to_z w128 (of_z w128 c.rank.result)) c.decimals.result c.loop-field.invariant (to_z-of_z w128 c.rank.result fits ∙ c.rank.ensures) c.decimals.ensures c.in_ok-push.ensures.items
