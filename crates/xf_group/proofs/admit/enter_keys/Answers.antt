-- The entries of all keys, sorted, and where the old keys stand among them.
use Rattle.std.proofs.Common.{◌≡◌, List, [], ◌++◌, map, eqb-true, vec_len, length, slice_index, Bor, refl, sym, ap, ◌∙◌, arith}
use Rattle.std.proofs.lemmas.List.{length-map, nil_from_length}
use Rattle.std.specs.List.Sorted.{IsPermutation}
use Rattle.xf_base.specs.declared.key.Key.{Key}
use Rattle.xf_group.specs.Fresh.{fresh_keys, new_positions}
use Rattle.xf_group.specs.Held.{keys_of}
use Rattle.xf_group.proofs.AdmitEntries.{same_meanings, stay_ready_among_more}
use Rattle.xf_group.proofs.AdmitKeys.{all_keys_entered, entered, fresh-sorted, length-new_positions, no_keys_entered, stand_entered, within_entries, within_keys}
use Rattle.xf_group.proofs.AdmitPlaces.{places_stand}
use Rattle.xf_group.proofs.KeptCalls.{calls_from_stay, keep_calls_itself}
use Rattle.xf_reduce.specs.Laws.{SameCalls}
use Rattle.xf_group.proofs.PlacedKeys.{renumbered_lists, renumbered_within}
use Rattle.xf_group.proofs.admit.enter_keys.Goals as goal

pub returns-then-is_empty-clause-keys : goal.returns-then-is_empty-clause-keys
returns-then-is_empty-clause-keys g c =
    let old = c.args.entries.now.items in
    let lists = c.args.keys.now in
    let now_of : List (Bor Key) → List Key = map (λ (key : Bor Key). key.now) in
    let len : vec_len c.in_ok-fresh.fresh ≡ 0 = eqb-true (vec_len c.in_ok-fresh.fresh) 0 (sym c.is_empty.ensures ∙ c.if-is_empty.true) in
    let nothing : c.in_ok-fresh.fresh.items ≡ [] = nil_from_length c.in_ok-fresh.fresh.items (omega arith) in
    let named : now_of c.in_ok-fresh.fresh.items ≡ fresh_keys (keys_of c.as_slice.result.now) lists = c.in_ok-fresh.ensures in
    let found : now_of c.in_ok-fresh.fresh.items ≡ fresh_keys (keys_of old) lists = named ∙ ap (λ entries. fresh_keys (keys_of entries) lists) c.as_slice.ensures.value in
    no_keys_entered (keys_of old) lists c.requires.sorted (sym found ∙ ap now_of nothing)

pub new_positions-requires-clause-ascend : goal.new_positions-requires-clause-ascend
new_positions-requires-clause-ascend g c = rw (c.as_slice-3.ensures.value, c.in_ok-fresh.ensures) (fresh-sorted (keys_of c.as_slice.result.now) c.args.keys.now)

pub returns-in_err-append-clause-calls : goal.returns-in_err-append-clause-calls
returns-in_err-append-clause-calls g c = rw c.in_err-append.ensures.items (keep_calls_itself g.R.Reducer.calls c.args.entries.now.items)

pub returns-in_err-append-clause-within : goal.returns-in_err-append-clause-within
returns-in_err-append-clause-within g c = rw c.in_err-append.ensures.items c.requires.within

pub renumber-requires : goal.renumber-requires
renumber-requires g c =
    let long : length c.as_slice-5.result.now ≡ length c.args.entries.now.items =
    ap length (c.as_slice-5.ensures.value ∙ c.in_ok-order.ensures)
    ∙ length-new_positions (keys_of c.as_slice-2.result.now) (map (λ (key : Bor Key). key.now) c.as_slice-3.result.now)
    ∙ ap (λ entries. length (keys_of entries)) c.as_slice-2.ensures.value
    ∙ length-map c.args.entries.now.items (λ entry. entry.key) in
    rw long c.requires.within

pub returns : goal.returns
returns g c =
    let old = c.args.entries.now.items in
    let added = c.in_ok-added.added.items in
    let new = c.sort_entries.new.entries.items in
    let lists = c.args.keys.now in
    let places = c.args.places.now in
    let now_of : List (Bor Key) → List Key = map (λ (key : Bor Key). key.now) in
    let order = c.as_slice-5.result.now in
    let fresh = fresh_keys (keys_of old) lists in
    let named : now_of c.in_ok-fresh.fresh.items ≡ fresh_keys (keys_of c.as_slice.result.now) lists = c.in_ok-fresh.ensures in
    let found : now_of c.in_ok-fresh.fresh.items ≡ fresh = named ∙ ap (λ entries. fresh_keys (keys_of entries) lists) c.as_slice.ensures.value in
    let of_fresh : keys_of added ≡ fresh = c.in_ok-added.ensures.keys ∙ ap now_of c.as_slice-4.ensures.value ∙ found in
    let moved : IsPermutation (old ++ added) new = rw c.in_ok-append.ensures.items at c.sort_entries.ensures.same in
    let ordered : order ≡ new_positions (keys_of old) fresh =
    c.as_slice-5.ensures.value
    ∙ c.in_ok-order.ensures
    ∙ ap (λ entries. new_positions (keys_of entries) (now_of c.as_slice-3.result.now)) c.as_slice-2.ensures.value
    ∙ ap (λ keys. new_positions (keys_of old) (now_of keys)) c.as_slice-3.ensures.value
    ∙ ap (new_positions (keys_of old)) found in
    let all = entered old added new lists fresh c.requires.sorted refl of_fresh moved c.sort_entries.ensures.sorted in
    let within = within_keys old places c.requires.within in
    let stand = places_stand (keys_of old) (keys_of new) (slice_index order) (stand_entered (keys_of old) fresh (keys_of new) order c.requires.sorted all.ascend all.moved ordered) places within in
    record {
      keys = all_keys_entered (keys_of old) lists (keys_of new) all.moved all.ascend;
      places = rw c.renumber.ensures (renumbered_lists (keys_of old) (keys_of new) (slice_index order) places stand);
      each = rw c.renumber.ensures (length-map places (map (slice_index order)));
      meanings = same_meanings g.R.Reducer.meaning_of (g.R.Reducer.folding c.args.reducer.now).initial old added new moved all.once c.in_ok-added.ensures.meanings;
      kept = stay_ready_among_more (g.R.Reducer.IsReady c.args.reducer.now) old added new moved all.once;
      calls = calls_from_stay g.R.Reducer.calls old new (λ one. stay_ready_among_more (λ value row. SameCalls g.R.Reducer.calls one value) old added new moved all.once);
      sorted = all.ascend;
      within = rw c.renumber.ensures (within_entries new (map (map (slice_index order)) places) (renumbered_within (keys_of old) (keys_of new) (slice_index order) places within stand));
      room = omega (arith, all.many, c.in_ok-make_room.ensures.room, c.len.ensures, c.len-2.ensures);
    }
