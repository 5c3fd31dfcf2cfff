-- One place more marks its positions.
use Rattle.std.proofs.Common.{◌≡◌, ℕ, ◌+◌, ◌<◌, Bool, true, false, ◌||◌, cond, List, [], ◌∷◌, Some, length, get_or, slice_get, take, refl, sym, ap, ◌∙◌, arith}
use Rattle.std.proofs.lemmas.List.{take_more}
use Rattle.std.proofs.lemmas.List.Folds.{list_any-append}
use Rattle.std.proofs.lemmas.Option.{get_or_from_slice_get, slice_get_within}
use Rattle.xf_group.specs.Used.{is_listed, is_used}
use Rattle.xf_group.proofs.unused.mark_used.Goals as goal

or_false : (b : Bool) → (b || false) ≡ b
or_false true = refl
or_false false = refl

used_more : (places : List (List ℕ)) (place : ℕ) (own : List ℕ) (k : ℕ) → Some own ≡ slice_get places place → is_used (take (place + 1) places) k ≡ (is_used (take place places) k || is_listed own k)
used_more places place own k here =
    let inside : place < length places = slice_get_within places place own (sym here) in
    ap (λ some. is_used some k) (take_more places place own inside)
    ∙ list_any-append (λ positions. is_listed positions k) (take place places) (get_or places place own ∷ [])
    ∙ ap (λ positions. is_used (take place places) k || (is_listed positions k || false)) (get_or_from_slice_get places place own own (sym here))
    ∙ ap (λ b. is_used (take place places) k || b) (or_false (is_listed own k))

marked_more : (a b : Bool) (old new : ℕ) → new ≡ cond b 1 old → old ≡ cond a 1 0 → new ≡ cond (a || b) 1 0
marked_more true true old new more marked = more
marked_more false true old new more marked = more
marked_more true false old new more marked = more ∙ marked
marked_more false false old new more marked = more ∙ marked

pub loop-place-preserved : goal.loop-place-preserved
loop-place-preserved c = record {
  same = omega arith;
  marked = λ k inside.
      let within : k < length c.loop-place.numbers = omega arith in
      marked_more (is_used (take c.loop-place.place c.args.places.now) k) (is_listed c.list.result.now k) (get_or c.loop-place.numbers k 0) (get_or c.mark_each.new.numbers k 0)
      (c.mark_each.ensures k within) (c.loop-place.invariant.marked k within)
      ∙ sym (ap (λ b. cond b 1 0) (used_more c.args.places.now c.loop-place.place c.list.result.now k c.list.ensures));
}
