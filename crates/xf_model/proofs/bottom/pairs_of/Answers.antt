-- The next row adds its own pairs.
use Rattle.std.proofs.Common.{◌≡◌, ◌++◌, get_or, map, take, ap, sym, ◌∙◌}
use Rattle.xf_model.specs.Bottom.{pairs_of, row_pairs}
use Rattle.xf_model.specs.Plain.{plain_dimension}
use Rattle.xf_model.proofs.BottomPairs.{pairs_of-take}
use Rattle.xf_model.proofs.bottom.pairs_of.Goals as goal

pub loop-place-preserved : goal.loop-place-preserved
loop-place-preserved c =
    let dimensions = map plain_dimension c.args.dimensions.now in
    let own = plain_dimension c.args.own in
    let before = pairs_of dimensions own (map (λ row. row.items) (take c.loop-place.place c.args.rows.now)) in
    let row : c.as_slice.result.now ≡ (get_or c.args.rows.now c.loop-place.place c.index-rows-place.result).items = c.as_slice.ensures.value ∙ ap (λ row. row.items) c.index-rows-place.is in
    c.in_ok-push_pair.ensures
    ∙ ap (λ front. front ++ row_pairs dimensions own (c.loop-place.place, c.as_slice.result.now)) c.loop-place.invariant
    ∙ ap (λ seen. before ++ row_pairs dimensions own (c.loop-place.place, seen)) row
    ∙ sym (pairs_of-take dimensions own c.args.rows.now (λ row. row.items) c.loop-place.place c.index-rows-place.result c.loop-place-test.true)
