-- One key more: it is found where the next entry is not its own.
use Rattle.std.proofs.Common.{Bool, not, List, map, Bor, Global, Vec, arith, ap, sym, ◌∙◌}
use Rattle.std.proofs.lemmas.List.{length-map, take_rest}
use Rattle.xf_base.specs.Key.{key_cmp}
use Rattle.xf_base.specs.declared.key.Key.{Key}
use Rattle.xf_group.specs.Held.{keys_of}
use Rattle.xf_group.proofs.AdmitUnknown.{found_kept, found_more, walked}
use Rattle.xf_model.specs.Laws.{is_among}
use Rattle.xf_group.proofs.admit.unknown_keys.Goals.{then-not-begins_with+in_ok-push, else-not-begins_with}
use Rattle.xf_group.proofs.admit.unknown_keys.Goals as goal

pub loop-key-preserved : goal.loop-key-preserved
loop-key-preserved g c =
    let entries = c.args.entries.now in
    let keys = c.args.keys.now in
    let index = c.loop-key.key-index in
    let key = c.key-item.result in
    let now_of : Bor Key → Key = λ one. one.now in
    let now_of_all : List (Bor Key) → List Key = map now_of in
    let unknown : Key → Bool = λ one. not (is_among key_cmp (keys_of entries) one) in
    let step = walked (λ entry. entry.key) now_of entries keys index c.loop-key.before c.entries_below-before.result key _ _ c.begins_with.result
    c.requires.sorted c.requires.ascend (take_rest entries c.loop-key.before) (take_rest entries _) c.loop-key-test.true c.key-item.is c.loop-key.invariant.within
    c.loop-key.invariant.passed c.entries_below-before.ensures.within c.entries_below-before.ensures.below c.begins_with.ensures in
    record {
      found = elim c.if-not-begins_with.branch [
        | then-not-begins_with+in_ok-push w ↦
            found_more unknown now_of keys c.loop-key.found.items c.if-not-begins_with.found.items index key c.loop-key-test.true c.key-item.is c.loop-key.invariant.found (ap not (sym step.known ∙ w.if-not-begins_with.true))
            (ap (λ (v : Vec (Bor Key) Global). v.items) w.found-is ∙ w.in_ok-push.ensures.items)
        | else-not-begins_with w ↦
            ap (λ (v : Vec (Bor Key) Global). now_of_all v.items) w.found-is
            ∙ found_kept unknown now_of keys c.loop-key.found.items index key c.loop-key-test.true c.key-item.is c.loop-key.invariant.found (ap not (sym step.known ∙ w.if-not-begins_with.false))
      ];
      within = omega (arith, step.within, length-map entries (λ entry. entry.key));
      passed = step.passed;
    }
