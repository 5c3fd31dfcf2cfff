-- The next value is as it was, and changes once.
use Rattle.std.proofs.Common.{◌≡◌, ℕ, ◌<◌, length, get_or, take, sym, ap, subst, arith, refl}
use Rattle.std.proofs.lemmas.List.{get_or_default}
use Rattle.std.proofs.lemmas.List.Elements.{All-from_recursion}
use Rattle.xf_group.specs.Changed.{IsChanged, MayChange, changed_meaning}
use Rattle.xf_group.specs.declared.entry.Entry.{Entry}
use Rattle.xf_group.proofs.ChangedEach.{changed_more, not_listed, unchanged_yet}
use Rattle.xf_group.proofs.group.change_each.Goals as goal

pub change_one-requires-clause-may : goal.change_one-requires-clause-may
change_one-requires-clause-may g c =
    let positions = c.args.positions.now in
    let i = c.loop-position.position-index in
    let p : ℕ = get_or positions i 0 in
    let d = c.index-entries-position.result in
    let inside : p < length c.args.entries.now = All-from_recursion (λ position. position < length c.args.entries.now) positions c.requires.within i 0 c.loop-position-test.true in
    let same : (get_or c.loop-position.entries p d).value ≡ (get_or c.args.entries.now p d).value =
    unchanged_yet g.R.Reducer.meaning_of (λ meaning. changed_meaning (g.R.Reducer.folding c.args.reducer.now) (g.R.Reducer.undo c.args.reducer.now) c.args.on meaning c.args.row.now) (g.R.Reducer.IsReady c.args.reducer.now) g.R.Reducer.calls
    (take i positions) c.args.entries.now c.loop-position.entries p d c.loop-position.invariant.changed inside (not_listed positions c.requires.ascend i c.loop-position-test.true) in
    subst (λ value. MayChange (g.R.Reducer.fits_to c.args.reducer.now) (g.R.Reducer.folding c.args.reducer.now) c.args.on (g.R.Reducer.meaning_of value) c.args.row.now) (sym same) (c.requires.may i d c.loop-position-test.true).0

pub change_one-requires-clause-ready : goal.change_one-requires-clause-ready
change_one-requires-clause-ready g c =
    let positions = c.args.positions.now in
    let i = c.loop-position.position-index in
    let p : ℕ = get_or positions i 0 in
    let d = c.index-entries-position.result in
    let inside : p < length c.args.entries.now = All-from_recursion (λ position. position < length c.args.entries.now) positions c.requires.within i 0 c.loop-position-test.true in
    let same : (get_or c.loop-position.entries p d).value ≡ (get_or c.args.entries.now p d).value =
    unchanged_yet g.R.Reducer.meaning_of (λ meaning. changed_meaning (g.R.Reducer.folding c.args.reducer.now) (g.R.Reducer.undo c.args.reducer.now) c.args.on meaning c.args.row.now) (g.R.Reducer.IsReady c.args.reducer.now) g.R.Reducer.calls
    (take i positions) c.args.entries.now c.loop-position.entries p d c.loop-position.invariant.changed inside (not_listed positions c.requires.ascend i c.loop-position-test.true) in
    subst (λ value. g.R.Reducer.IsReady c.args.reducer.now value c.args.row.now) (sym same) (c.requires.may i d c.loop-position-test.true).1

pub loop-position-preserved : goal.loop-position-preserved
loop-position-preserved g c =
    let positions = c.args.positions.now in
    let i = c.loop-position.position-index in
    let p : ℕ = get_or positions i 0 in
    let d = c.index-entries-position.result in
    let now = c.loop-position.entries in
    let inside : p < length c.args.entries.now = All-from_recursion (λ position. position < length c.args.entries.now) positions c.requires.within i 0 c.loop-position-test.true in
    let room : p < length now = omega arith in
    let meaning_of = g.R.Reducer.meaning_of in
    let IsReady = g.R.Reducer.IsReady c.args.reducer.now in
    let calls = g.R.Reducer.calls in
    let changed = λ (meaning : g.row.R-Meaning.Denot). changed_meaning (g.R.Reducer.folding c.args.reducer.now) (g.R.Reducer.undo c.args.reducer.now) c.args.on meaning c.args.row.now in
    record {
      changed = changed_more meaning_of changed IsReady calls positions i c.args.entries.now now _ (record { key = (get_or now p d).key; value = c.change_one.new.value }) c.requires.ascend c.loop-position-test.true inside
          c.loop-position.invariant.changed refl
          (λ e. ap (λ (entry : Entry g.row.R-Value.Denot). entry.key) (get_or_default now p d e room))
          (λ e. subst (λ (entry : Entry g.row.R-Value.Denot). IsChanged meaning_of changed IsReady calls entry.value c.change_one.new.value) (get_or_default now p d e room) c.change_one.ensures.changed);
      spent = omega arith;
    }
