use Rattle.std.proofs.Common.{◌≡◌, map}
use Rattle.std.specs.List.{range_with_len}
use Rattle.xf_reduce.specs.StockReducer.{stock_meaning}
use Rattle.xf_session.proofs.EntryFields.{field_at}
use Rattle.xf_session.proofs.entries.tell_fields.Given as goal

-- the fields so far
abbrev pub invariant-loop-field : goal.invariant-loop-field
invariant-loop-field l = l.fields.items ≡ map (field_at l.schema l.reducer (stock_meaning l.value)) (range_with_len 0 l.field)
