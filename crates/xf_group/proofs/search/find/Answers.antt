-- Each comparison halves the interval: what is left of it is at most half, and on the side of the key.
use Rattle.std.proofs.Common.{◌≡◌, ℕ, ◌+◌, ◌-◌, ◌/◌, ◌^◌, ◌<◌, ◌≤◌, List, length, get_or, sym, ap, subst, ◌∙◌, arith}
use Rattle.std.proofs.lemmas.List.{get_or_default}
use Rattle.std.specs.declared.cmp.Ordering.{Ordering}
use Rattle.std.specs.declared.cmp.Ordering.TheVariants.{Less, Equal, Greater}
use Rattle.xf_base.specs.Key.{key_cmp}
use Rattle.xf_base.specs.declared.key.Key.{Key}
use Rattle.xf_group.specs.declared.entry.Entry.{Entry}
use Rattle.xf_group.proofs.AscendingEntries.{above_all, below_all, entry_at, entry_none}
use Rattle.xf_group.proofs.HalvedDigits.{digit_count, digit_count-is, digit_count-halved}
use Rattle.xf_group.proofs.search.find.Goals as goal

-- what a comparison said of the entry that was read holds of it at its place
compared : {V : Type 0} (entries : List (Entry V)) (key : Key) (j : ℕ) (entry : Entry V) (answer : Ordering) → j < length entries → answer ≡ key_cmp key (get_or entries j entry).key → (d : Entry V) → key_cmp key (get_or entries j d).key ≡ answer
compared {V} entries key j entry answer inside said d =
    ap (λ (e : Entry V). key_cmp key e.key) (get_or_default entries j d entry inside) ∙ sym said

-- the middle leaves at most half on either side, and one comparison takes a digit
left_cost : (now before low high total : ℕ) → low < high → high < 2 ^ 64 → before + digit_count (high - low) ≤ total → now ≡ before + 1 → now + digit_count (low + (high - low) / 2 - low) ≤ total
left_cost now before low high total some fits enough ticked =
    omega (arith, digit_count-halved (low + (high - low) / 2 - low) (high - low) (omega arith) (omega arith) (omega arith))

right_cost : (now before low high total : ℕ) → low < high → high < 2 ^ 64 → before + digit_count (high - low) ≤ total → now ≡ before + 1 → now + digit_count (high - (low + (high - low) / 2 + 1)) ≤ total
right_cost now before low high total some fits enough ticked =
    omega (arith, digit_count-halved (high - (low + (high - low) / 2 + 1)) (high - low) (omega arith) (omega arith) (omega arith))

some_cost : (now before low high total : ℕ) → low < high → high < 2 ^ 64 → before + digit_count (high - low) ≤ total → now ≡ before + 1 → now ≤ total
some_cost now before low high total some fits enough ticked = omega (arith, digit_count-halved 0 (high - low) (omega arith) (omega arith) (omega arith))

pub loop-low-preserved-in-Less : goal.loop-low-preserved-in-Less
loop-low-preserved-in-Less g c =
    let entries = c.args.entries.now in
    let key = c.args.key.now in
    let low = c.loop-low.low in
    let high = c.loop-low.high in
    let middle : ℕ = low + (high - low) / 2 in
    let inside : middle < length entries = omega arith in
    record {
      order = omega arith;
      inside = omega arith;
      above = c.loop-low.invariant.above;
      below = λ k d after within. below_all entries key middle c.requires (compared entries key middle c.index-entries-middle.result Less inside c.in-Less.ensures) k d after within;
      cost = left_cost c.tick.new.self c.loop-low.steps low high (c.args.steps.now + digit_count (length entries)) c.loop-low-test.true (omega arith) c.loop-low.invariant.cost c.tick.ensures;
    }

pub loop-low-preserved : goal.loop-low-preserved
loop-low-preserved g c =
    let entries = c.args.entries.now in
    let key = c.args.key.now in
    let low = c.loop-low.low in
    let high = c.loop-low.high in
    let middle : ℕ = low + (high - low) / 2 in
    let inside : middle < length entries = omega arith in
    record {
      order = omega arith;
      inside = omega arith;
      above = λ k d before. above_all entries key middle c.requires inside (compared entries key middle c.index-entries-middle.result Greater inside c.in-Greater.ensures) k d before;
      below = c.loop-low.invariant.below;
      cost = right_cost c.tick.new.self c.loop-low.steps low high (c.args.steps.now + digit_count (length entries)) c.loop-low-test.true (omega arith) c.loop-low.invariant.cost c.tick.ensures;
    }

pub returns-in-Equal-clause-found : goal.returns-in-Equal-clause-found
returns-in-Equal-clause-found g c =
    let entries = c.args.entries.now in
    let key = c.args.key.now in
    let middle : ℕ = c.loop-low.low + (c.loop-low.high - c.loop-low.low) / 2 in
    let inside : middle < length entries = omega arith in
    let entry = c.index-entries-middle.result in
    sym (entry_at entries key middle c.requires inside entry (compared entries key middle entry Equal inside c.in-Equal.ensures entry))

pub returns-in-Equal-clause-cost : goal.returns-in-Equal-clause-cost
returns-in-Equal-clause-cost g c =
    subst (λ n. c.tick.new.self ≤ c.args.steps.now + n) (digit_count-is (length c.args.entries.now))
    (some_cost c.tick.new.self c.loop-low.steps c.loop-low.low c.loop-low.high (c.args.steps.now + digit_count (length c.args.entries.now)) c.loop-low-test.true (omega arith) c.loop-low.invariant.cost c.tick.ensures)

pub returns-clause-found : goal.returns-clause-found
returns-clause-found g c =
    sym (entry_none c.args.entries.now c.args.key.now c.loop-low.low c.loop-low.invariant.above (λ k d after within. c.loop-low.invariant.below k d (omega arith) within))

pub returns-clause-cost : goal.returns-clause-cost
returns-clause-cost g c =
    let enough : c.loop-low.steps ≤ c.args.steps.now + digit_count (length c.args.entries.now) = omega arith in
    subst (λ n. c.loop-low.steps ≤ c.args.steps.now + n) (digit_count-is (length c.args.entries.now)) enough
