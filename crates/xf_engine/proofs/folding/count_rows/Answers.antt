-- The rows that count are those of the lemmas on what is folded.
use Rattle.std.proofs.Common.{◌≡◌, ◌+◌, ◌++◌, List, Some, length, map, sym, ap, subst, ◌∙◌, arith}
use Rattle.std.proofs.lemmas.List.FromFn.{length-map-range_with_len}
use Rattle.std.proofs.lemmas.List.{length-append}
use Rattle.std.specs.List.{range_with_len}
use Rattle.xf_base.specs.Gone.{kept}
use Rattle.xf_base.specs.Key.{key_cmp}
use Rattle.xf_base.specs.declared.key.Key.{Key}
use Rattle.xf_engine.specs.Folding.{HasMarks, counts_at, dimensions_then, folded_entries, rows_then}
use Rattle.xf_engine.specs.Held.{live_dimensions}
use Rattle.xf_engine.specs.State.{dimensions_of}
use Rattle.xf_engine.specs.declared.folding.Counting.{Counting}
use Rattle.xf_engine.proofs.FoldingEntries.{entries-every, entries-passing, entries-staying}
use Rattle.xf_engine.proofs.folding.count_rows.Goals.{in-Passing, in-Every, in-Staying}
use Rattle.xf_engine.proofs.folding.count_rows.Goals as goal
use Rattle.xf_group.specs.Group.{meanings}
use Rattle.xf_model.specs.Group.{group_entries}

pub add_rows-requires-clause-counts : goal.add_rows-requires-clause-counts
add_rows-requires-clause-counts g c =
    let count = c.len.result + c.len-2.result in
    let marks = ap length (c.as_slice.ensures.value ∙ c.in_ok-counts.ensures) ∙ length-map-range_with_len (counts_at g.P.Predicate.says_to c.args.counting.now c.args.dimensions.now (Some c.args.own)) 0 count in
    omega (arith, marks, c.len.ensures, c.len-2.ensures)

pub add_rows-requires-clause-places : goal.add_rows-requires-clause-places
add_rows-requires-clause-places g c = omega (arith, c.requires.places, length-append c.args.rows.now.held.now c.args.rows.now.added.now)

pub retire-requires : goal.retire-requires
retire-requires g c =
    let rows = c.args.rows.now.held.now ++ c.args.rows.now.added.now in
    let marks = subst (λ counting. HasMarks counting (length rows)) c.in-Staying.is c.requires.marks in
    marks ∙ sym (ap length c.in_ok-add_rows.ensures.places ∙ c.requires.places)

pub returns-clause-places : goal.returns-clause-places
returns-clause-places g c =
    let places = c.args.group.places in
    let same = c.in_ok-add_rows.ensures.places in
    let then : Counting → List (List Key) = λ counting. rows_then counting places in
    elim c.match-counting.branch [
      | in-Passing w ↦ ap (λ group. group.places) w.group-is ∙ same ∙ sym (ap then w.in-Passing.is)
      | in-Every w ↦ ap (λ group. group.places) w.group-is ∙ same ∙ sym (ap then w.in-Every.is)
      | in-Staying w ↦ ap (λ group. group.places) w.group-is ∙ w.retire.ensures.places ∙ ap (kept w.in-Staying.gone.now) same ∙ sym (ap then w.in-Staying.is)
    ]

pub returns-clause-entries : goal.returns-clause-entries
returns-clause-entries g c = λ keys is.
    let keys_of = g.A.Accessor.keys_of in
    let says = g.P.Predicate.says_to in
    let meaning_of = g.R.Reducer.meaning_of in
    let rows = c.args.rows.now.held.now ++ c.args.rows.now.added.now in
    let held = c.args.dimensions.now in
    let own = c.args.own in
    let places = c.args.group.places in
    let reducer = g.R.Reducer.folding c.args.group.reducer in
    let long : c.len.result + c.len-2.result ≡ length rows = omega (arith, c.len.ensures, c.len-2.ensures, length-append c.args.rows.now.held.now c.args.rows.now.added.now) in
    let marked : c.as_slice.result.now ≡ map (counts_at says c.args.counting.now held (Some own)) (range_with_len 0 (length rows)) =
    c.as_slice.ensures.value ∙ c.in_ok-counts.ensures ∙ ap (λ n. map (counts_at says c.args.counting.now held (Some own)) (range_with_len 0 n)) long in
    let made : meanings meaning_of c.add_rows.new.group.entries ≡ folded_entries reducer rows places c.as_slice.result.now = c.in_ok-add_rows.ensures.meanings in
    let wanted = λ (counting : Counting). group_entries key_cmp keys reducer (dimensions_of keys_of says (dimensions_then counting (live_dimensions held))) own (rows_then counting rows) in
    let HasEntries : Counting → Type 0 = λ counting. folded_entries reducer rows (map keys rows) (map (counts_at says counting held (Some own)) (range_with_len 0 (length rows))) ≡ wanted counting in
    let all = made ∙ ap (λ lists. folded_entries reducer rows lists c.as_slice.result.now) is ∙ ap (folded_entries reducer rows (map keys rows)) marked in
    elim c.match-counting.branch [
      | in-Passing w ↦ ap (λ group. meanings meaning_of group.entries) w.group-is ∙ all ∙ subst HasEntries (sym w.in-Passing.is) (entries-passing keys_of says rows held own keys reducer c.requires.keys)
      | in-Every w ↦ ap (λ group. meanings meaning_of group.entries) w.group-is ∙ all ∙ subst HasEntries (sym w.in-Every.is) (entries-every keys_of says rows held own keys reducer)
      | in-Staying w ↦
          let gone = w.in-Staying.gone.now in
          let marks = subst (λ counting. HasMarks counting (length rows)) w.in-Staying.is c.requires.marks in
          let left = ap (λ group. group.entries) w.group-is ∙ w.retire.ensures.entries in
          entries-staying keys_of says rows held own keys reducer meaning_of gone c.add_rows.new.group.entries c.match-counting.group.entries c.add_rows.new.group.places c.as_slice.result.now c.requires.keys marks
          (c.in_ok-add_rows.ensures.places ∙ is) (marked ∙ ap (λ counting. map (counts_at says counting held (Some own)) (range_with_len 0 (length rows))) w.in-Staying.is)
          (made ∙ ap (λ lists. folded_entries reducer rows lists c.as_slice.result.now) (sym c.in_ok-add_rows.ensures.places)) left ∙ sym (ap wanted w.in-Staying.is)
    ]
