-- One entry more is that of the next key, and the keys are those of the group.
use Rattle.std.proofs.Common.{◌≡◌, None, pos, ap, ◌∙◌, map, get_or, rules}
use Rattle.std.specs.Ordering.{int_cmp}
use Rattle.std.proofs.lemmas.List.{take_all}
use Rattle.std.proofs.lemmas.Option.{slice_get-get_or}
use Rattle.xf_model.specs.Group.{distinct_keys}
use Rattle.xf_model.specs.Plain.{key_and_number}
use Rattle.xf_model.proofs.Plain.{entry_at, map_push}
use Rattle.xf_model.proofs.group.group_entries.Goals as goal

pub loop-key-preserved : goal.loop-key-preserved
loop-key-preserved c =
    let rows = map (λ row. row.items) c.args.rows.now in
    let entry = entry_at c.args.dimensions.now c.args.own (get_or c.args.dimensions.now c.args.own (record { column = 0; range = None })).column rows in
    let told : key_and_number c.entry_of.result ≡ entry (get_or c.as_slice-key-items.result.now c.loop-key.key-index (pos 0)) = search rules in
    ap (map key_and_number) c.in_ok-push.ensures.items
    ∙ map_push key_and_number entry c.loop-key.entries.items c.entry_of.result c.as_slice-key-items.result.now c.loop-key.key-index (pos 0) c.loop-key-test.true c.loop-key.invariant told

pub returns : goal.returns
returns c =
    let rows = map (λ row. row.items) c.args.rows.now in
    let dimension = get_or c.args.dimensions.now c.args.own (record { column = 0; range = None }) in
    let all = take_all c.loop-key.key-index c.as_slice-key-items.result.now c.loop-key-test.false in
    let keys = all ∙ c.as_slice-key-items.ensures.value ∙ c.in_ok-keys.ensures ∙ ap (distinct_keys int_cmp) (c.as_slice.ensures.value ∙ c.in_ok-numbers.ensures) in
    rw (slice_get-get_or c.args.dimensions.now c.args.own (record { column = 0; range = None }) c.requires)
    (c.loop-key.invariant ∙ ap (map (entry_at c.args.dimensions.now c.args.own dimension.column rows)) keys)
