-- One entry more goes to the front, or is left behind.
use Rattle.std.proofs.Common.{◌≡◌, ◌≢◌, ℕ, ◌+◌, ◌<◌, ◌≤◌, Bool, true, false, eqb, not, List, length, get_or, set, take, sym, ap, ◌∙◌, arith, get_or-set_other, get_or-set_same, ⊎_elim}
use Rattle.std.proofs.lemmas.Bool.{cases_eq, false≢true}
use Rattle.std.proofs.lemmas.Bool.Decides.{nat_tests}
use Rattle.std.proofs.lemmas.List.{get_or-map, length-map}
use Rattle.std.proofs.lemmas.List.Sums.{count_by_more_yes, count_by_more_no}
use Rattle.std.specs.List.{count_by}
use Rattle.xf_base.proofs.KeptItems.{kept-past, kept-moved}
use Rattle.xf_group.specs.Used.{unused_marks}
use Rattle.xf_group.proofs.unused.compact.Goals as goal
use Rattle.xf_group.proofs.unused.compact.Goals.{then-numbers-position-ne0, else-numbers-position-ne0}

-- the mark at a place
mark_at : (numbers : List ℕ) (k : ℕ) → k < length numbers → get_or (unused_marks numbers) k true ≡ eqb (get_or numbers k 0) 0
mark_at numbers k inside = get_or-map (λ number. eqb number 0) numbers k 0 true inside

test_zero : (n : ℕ) → n ≡ 0 → eqb n 0 ≡ true
test_zero n none = grind (arith, nat_tests)

test_some : (n : ℕ) → n ≢ 0 → eqb n 0 ≡ false
test_some n some = grind (arith, nat_tests)

-- one new position more
placed_more : (marks : List Bool) (old new : List ℕ) (p count : ℕ) → new ≡ set old p count → p < length old → count ≡ count_by not (take p marks)
    → ((k : ℕ) → k < p → get_or marks k true ≡ false → get_or old k 0 ≡ count_by not (take k marks))
    → (k : ℕ) → k < p + 1 → get_or marks k true ≡ false → get_or new k 0 ≡ count_by not (take k marks)
placed_more marks old new p count changed inside counted placed k before stays =
    ⊎_elim
    (λ (same : k ≡ p). rw (changed, same) (get_or-set_same old p count 0 inside ∙ counted))
    (λ (other : k ≡ p → ⊥).
    let earlier : k < p = omega (arith, before, other) in
    rw changed (get_or-set_other old p k count 0 other ∙ placed k earlier stays))
    (cases_eq k p)

placed_past : (marks : List Bool) (old : List ℕ) (p : ℕ) → get_or marks p true ≡ true
    → ((k : ℕ) → k < p → get_or marks k true ≡ false → get_or old k 0 ≡ count_by not (take k marks))
    → (k : ℕ) → k < p + 1 → get_or marks k true ≡ false → get_or old k 0 ≡ count_by not (take k marks)
placed_past marks old p gone placed k before stays =
    ⊎_elim
    (λ (same : k ≡ p). absurd (false≢true (sym stays ∙ ap (λ n. get_or marks n true) same ∙ gone)))
    (λ (other : k ≡ p → ⊥). let earlier : k < p = omega (arith, before, other) in placed k earlier stays)
    (cases_eq k p)

later_same : (old new : List ℕ) (p count : ℕ) → new ≡ set old p count → (k : ℕ) → p + 1 ≤ k → get_or new k 0 ≡ get_or old k 0
later_same old new p count changed k after = let other : k ≢ p = omega (arith, after) in rw changed (get_or-set_other old p k count 0 other)

pub loop-position-preserved : goal.loop-position-preserved
loop-position-preserved g c =
    let numbers = c.args.numbers.now in
    let marks : List Bool = unused_marks numbers in
    let entries = c.loop-position.entries in
    let now = c.loop-position.numbers in
    let position = c.loop-position.position in
    let count = c.loop-position.count in
    let within : position < length entries = omega arith in
    let room : position < length numbers = omega arith in
    let inside : position < length now = omega arith in
    let marked : position < length marks = omega (arith, length-map numbers (λ (number : ℕ). eqb number 0)) in
    let same : get_or now position 0 ≡ get_or numbers position 0 = c.loop-position.invariant.rest position (omega arith) in
    let mark : get_or marks position true ≡ eqb (get_or now position 0) 0 = mark_at numbers position room ∙ ap (λ n. eqb n 0) (sym same) in
    elim c.if-numbers-position-ne0.branch [
      | then-numbers-position-ne0 w ↦
          let stays : get_or marks position true ≡ false = mark ∙ test_some (get_or now position 0) w.if-numbers-position-ne0.true in
          record {
            moved = omega arith;
            same = omega arith;
            numbers = omega arith;
            left = rw (w.entries-is, w.count-is, w.swap.ensures.after) (kept-moved marks entries count position c.loop-position.invariant.moved marked within stays ∙ c.loop-position.invariant.left);
            counted = w.count-is ∙ omega (arith, c.loop-position.invariant.counted, count_by_more_yes not marks position true marked (ap not stays));
            placed = placed_more marks now c.if-numbers-position-ne0.numbers position count w.numbers-is inside c.loop-position.invariant.counted c.loop-position.invariant.placed;
            rest = λ k after. later_same now c.if-numbers-position-ne0.numbers position count w.numbers-is k after ∙ c.loop-position.invariant.rest k (omega arith);
          }
      | else-numbers-position-ne0 w ↦
          let gone : get_or marks position true ≡ true = mark ∙ test_zero (get_or now position 0) w.if-numbers-position-ne0.false in
          record {
            moved = omega arith;
            same = omega arith;
            numbers = omega arith;
            left = rw (w.entries-is, w.count-is, ← kept-past marks entries position marked within gone) c.loop-position.invariant.left;
            counted = w.count-is ∙ c.loop-position.invariant.counted ∙ sym (count_by_more_no not marks position true marked (ap not gone));
            placed = rw w.numbers-is (placed_past marks now position gone c.loop-position.invariant.placed);
            rest = λ k after. ap (λ ns. get_or ns k 0) w.numbers-is ∙ c.loop-position.invariant.rest k (omega arith);
          }
    ]
