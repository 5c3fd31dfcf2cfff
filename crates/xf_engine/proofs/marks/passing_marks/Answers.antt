use Rattle.std.proofs.Common.{rules, ◌≡◌, [], ◌∷◌, ◌++◌, map, sym, ap, ◌∙◌, arith}
use Rattle.std.proofs.lemmas.List.FromFn.{map-range_with_len_more}
use Rattle.std.specs.List.{range_with_len}
use Rattle.xf_engine.specs.Held.{passes_each_at}
use Rattle.xf_engine.proofs.marks.passing_marks.Goals as goal

pub loop-place-preserved : goal.loop-place-preserved
loop-place-preserved g c =
    let passing = passes_each_at g.P.Predicate.says_to c.args.dimensions.now in
    c.in_ok-push.ensures.items
    ∙ ap (λ front. front ++ c.passes_each.result ∷ []) c.loop-place.invariant
    ∙ ap (λ mark. map passing (range_with_len 0 c.loop-place.place) ++ mark ∷ []) c.passes_each.ensures
    ∙ sym (map-range_with_len_more passing 0 c.loop-place.place c.loop-place.place (omega arith))

pub returns : goal.returns
returns g c =
    let all : c.loop-place.place ≡ c.args.count = search rules in
    c.loop-place.invariant ∙ ap (λ n. map (passes_each_at g.P.Predicate.says_to c.args.dimensions.now) (range_with_len 0 n)) all
