use Rattle.std.proofs.Common.{rules, ◌≡◌, [], ◌∷◌, ◌++◌, map, sym, ap, ◌∙◌, arith}
use Rattle.std.proofs.lemmas.List.FromFn.{map-range_with_len_more}
use Rattle.std.specs.List.{range_with_len}
use Rattle.xf_engine.specs.Folding.{counts_at}
use Rattle.xf_engine.proofs.folding.counts.Goals as goal

pub loop-place-preserved : goal.loop-place-preserved
loop-place-preserved g c =
    let counted = counts_at g.P.Predicate.says_to c.args.counting.now c.args.dimensions.now c.args.own in
    c.in_ok-push.ensures.items
    ∙ ap (λ front. front ++ c.counts.result ∷ []) c.loop-place.invariant
    ∙ ap (λ mark. map counted (range_with_len 0 c.loop-place.place) ++ mark ∷ []) c.counts.ensures
    ∙ sym (map-range_with_len_more counted 0 c.loop-place.place c.loop-place.place (omega arith))

pub returns : goal.returns
returns g c =
    let all : c.loop-place.place ≡ c.args.count = search rules in
    c.loop-place.invariant ∙ ap (λ n. map (counts_at g.P.Predicate.says_to c.args.counting.now c.args.dimensions.now c.args.own) (range_with_len 0 n)) all
