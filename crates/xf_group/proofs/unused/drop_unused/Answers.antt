-- The entries that are left, and the places with their new positions.
use Rattle.std.proofs.Common.{◌≡◌, ℕ, ◌++◌, List, length, take, drop, map, slice_index, sym, ap, subst, ◌∙◌, arith}
use Rattle.std.proofs.lemmas.List.{take_at}
use Rattle.xf_base.specs.Gone.{kept}
use Rattle.xf_group.specs.Held.{AreWithin, key_lists, keys_of}
use Rattle.xf_group.specs.Used.{AreRenumbered, unused_marks}
use Rattle.xf_group.specs.declared.entry.Entry.{Entry}
use Rattle.xf_group.proofs.UnusedDropped.{kept_used, same_keys, still_within}
use Rattle.xf_group.proofs.unused.drop_unused.Goals as goal

-- what is left, where a vector was lent as a slice and cut then
left_items : {V : Type 0} (entries moved lent left : List (Entry V)) (marked seen : List ℕ) (count len : ℕ) → length moved ≡ len → lent ≡ entries → seen ≡ marked
    → left ≡ take count (take len (moved ++ drop (length moved) entries)) → take count moved ≡ kept (unused_marks seen) lent → left ≡ kept (unused_marks marked) entries
left_items entries moved lent left marked seen count len same whole read cut made =
    cut ∙ ap (take count) (take_at moved (drop (length moved) entries) len same) ∙ made
    ∙ ap (λ ns. kept (unused_marks ns) lent) read ∙ ap (kept (unused_marks marked)) whole

pub returns-clause-entries : goal.returns-clause-entries
returns-clause-entries g c =
    let marked = c.mark_used.new.numbers in
    let moved = c.compact-count.new.entries in
    let read : c.as_mut_slice-3.result.now ≡ marked = c.as_mut_slice-3.ensures.value ∙ take_at marked _ c.args.numbers.now.len (omega arith) in
    let left : c.truncate.new.self.items ≡ kept (unused_marks marked) c.args.entries.now.items =
    left_items c.args.entries.now.items moved c.as_mut_slice-2.result.now c.truncate.new.self.items marked c.as_mut_slice-3.result.now c.compact-count.result c.args.entries.now.len (omega arith) c.as_mut_slice-2.ensures.value read c.truncate.ensures.items c.compact-count.ensures.entries in
    left ∙ kept_used c.args.entries.now.items c.args.places.now marked c.requires.sorted c.requires.within (omega arith) c.mark_used.ensures

pub returns-clause-places : goal.returns-clause-places
returns-clause-places g c =
    let entries = c.args.entries.now.items in
    let places = c.args.places.now in
    let marked = c.mark_used.new.numbers in
    let moved = c.compact-count.new.entries in
    let numbers = c.compact-count.new.numbers in
    let read : c.as_mut_slice-3.result.now ≡ marked = c.as_mut_slice-3.ensures.value ∙ take_at marked _ c.args.numbers.now.len (omega arith) in
    let left : c.truncate.new.self.items ≡ kept (unused_marks marked) entries =
    left_items entries moved c.as_mut_slice-2.result.now c.truncate.new.self.items marked c.as_mut_slice-3.result.now c.compact-count.result c.args.entries.now.len (omega arith) c.as_mut_slice-2.ensures.value read c.truncate.ensures.items c.compact-count.ensures.entries in
    let told : c.as_slice.result.now ≡ numbers = c.as_slice.ensures.value ∙ take_at numbers _ c.args.numbers.now.len (omega arith) in
    let renumbered : AreRenumbered (unused_marks marked) (length entries) numbers =
    subst (λ ns. AreRenumbered (unused_marks ns) (length entries) numbers) read
    (subst (λ es. AreRenumbered (unused_marks c.as_mut_slice-3.result.now) (length es) numbers) c.as_mut_slice-2.ensures.value c.compact-count.ensures.numbers) in
    ap (λ es. key_lists (keys_of es) c.renumber.new.self) left
    ∙ ap (key_lists (keys_of (kept (unused_marks marked) entries))) (c.renumber.ensures ∙ ap (λ ns. map (map (slice_index ns)) places) told)
    ∙ same_keys entries places marked numbers c.requires.within (omega arith) c.mark_used.ensures renumbered

pub returns-clause-within : goal.returns-clause-within
returns-clause-within g c =
    let entries = c.args.entries.now.items in
    let places = c.args.places.now in
    let marked = c.mark_used.new.numbers in
    let moved = c.compact-count.new.entries in
    let numbers = c.compact-count.new.numbers in
    let read : c.as_mut_slice-3.result.now ≡ marked = c.as_mut_slice-3.ensures.value ∙ take_at marked _ c.args.numbers.now.len (omega arith) in
    let left : c.truncate.new.self.items ≡ kept (unused_marks marked) entries =
    left_items entries moved c.as_mut_slice-2.result.now c.truncate.new.self.items marked c.as_mut_slice-3.result.now c.compact-count.result c.args.entries.now.len (omega arith) c.as_mut_slice-2.ensures.value read c.truncate.ensures.items c.compact-count.ensures.entries in
    let told : c.as_slice.result.now ≡ numbers = c.as_slice.ensures.value ∙ take_at numbers _ c.args.numbers.now.len (omega arith) in
    let renumbered : AreRenumbered (unused_marks marked) (length entries) numbers =
    subst (λ ns. AreRenumbered (unused_marks ns) (length entries) numbers) read
    (subst (λ es. AreRenumbered (unused_marks c.as_mut_slice-3.result.now) (length es) numbers) c.as_mut_slice-2.ensures.value c.compact-count.ensures.numbers) in
    subst (λ es. AreWithin (length es) c.renumber.new.self) (sym left)
    (subst (AreWithin (length (kept (unused_marks marked) entries))) (sym (c.renumber.ensures ∙ ap (λ ns. map (map (slice_index ns)) places) told))
    (still_within entries places marked numbers c.requires.within (omega arith) c.mark_used.ensures renumbered))
