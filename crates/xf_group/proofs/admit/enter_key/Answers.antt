-- The key's entry is found, and its value alone changes.
use Rattle.std.proofs.Common.{◌<◌, length, slice_get, sym, ap, ◌∙◌, rules}
use Rattle.std.proofs.lemmas.Bool.{true≢false}
use Rattle.xf_group.proofs.AdmitEntries.{key_at_position, none_at_position, prepared_kept, prepared_ready}
use Rattle.xf_group.proofs.admit.enter_key.Goals as goal

pub unreachable-requires : goal.unreachable-requires
unreachable-requires g c = true≢false (sym c.requires.there ∙ none_at_position c.args.entries.now c.args.key.now (sym c.find.ensures.found ∙ c.in_default.is))

pub offset_bounds-entries-position : goal.offset_bounds-entries-position
offset_bounds-entries-position g c =
    let at = key_at_position c.args.entries.now c.args.key.now c.in-Some.position (sym c.find.ensures.found ∙ c.in-Some.is) in
    let inside : c.in-Some.position < length c.args.entries.now = at.0 in
    search rules

pub returns-in_err-prepare-clause-kept : goal.returns-in_err-prepare-clause-kept
returns-in_err-prepare-clause-kept g c =
    let at = key_at_position c.args.entries.now c.args.key.now c.in-Some.position (sym c.find.ensures.found ∙ c.in-Some.is) in
    prepared_kept g.R.Reducer.meaning_of (g.R.Reducer.IsReady c.args.reducer.now) g.R.Reducer.calls c.args.entries.now c.in-Some.position c.index-entries-position.result c.prepare.new.value at.0 c.prepare.ensures.meaning c.prepare.ensures.kept c.prepare.ensures.calls

pub returns-clause-position : goal.returns-clause-position
returns-clause-position g c =
    let at = key_at_position c.args.entries.now c.args.key.now c.in-Some.position (sym c.find.ensures.found ∙ c.in-Some.is) in
    let kept = prepared_kept g.R.Reducer.meaning_of (g.R.Reducer.IsReady c.args.reducer.now) g.R.Reducer.calls c.args.entries.now c.in-Some.position c.index-entries-position.result c.prepare.new.value at.0 c.prepare.ensures.meaning c.prepare.ensures.kept c.prepare.ensures.calls in
    ap (λ keys. slice_get keys c.in-Some.position) kept.same_keys ∙ at.1

pub returns-clause-ready : goal.returns-clause-ready
returns-clause-ready g c =
    prepared_ready (g.R.Reducer.IsReady c.args.reducer.now) c.args.entries.now c.args.key.now c.in-Some.position c.index-entries-position.result c.prepare.new.value c.args.row.now (sym c.find.ensures.found ∙ c.in-Some.is) c.in_ok-prepare.ensures.ready

pub returns-clause-kept : goal.returns-clause-kept
returns-clause-kept g c =
    let at = key_at_position c.args.entries.now c.args.key.now c.in-Some.position (sym c.find.ensures.found ∙ c.in-Some.is) in
    prepared_kept g.R.Reducer.meaning_of (g.R.Reducer.IsReady c.args.reducer.now) g.R.Reducer.calls c.args.entries.now c.in-Some.position c.index-entries-position.result c.prepare.new.value at.0 c.prepare.ensures.meaning c.prepare.ensures.kept c.prepare.ensures.calls
