-- Lists that lie one after the other in one vector, and where each ends.
use Rattle.std.proofs.Common.{◌≡◌, ℕ, zero, suc, ◌+◌, ◌-◌, ◌<◌, ◌≤◌, Bool, true, false, List, [], ◌∷◌, ◌++◌, length, take, drop, get_or, set, Some, slice_get, refl, sym, ap, subst, ◌∙◌, append_assoc, arith}
use Rattle.std.proofs.Math.Seq.{drop-append_seam}
use Rattle.std.proofs.lemmas.List.{drop-append-le, drop-drop, drop-set-lt, drop-take, drop_more, length-drop, length-set, length-take-le, take-append-le, take-take, take_all, take_more_set}
use Rattle.std.proofs.lemmas.List.Sums.{sum_by-cons}
use Rattle.std.specs.List.{sum_by, swap}
use Rattle.xf_base.proofs.KeptItems.{drop-swap, take-swap}
use Rattle.xf_base.specs.Gone.{kept}
use Rattle.xf_lists.specs.Lists.{AreEnds, cut_at, start_of}

-- where the list at a place begins, if the first begins at `start`
pub start_from : ℕ → List ℕ → ℕ → ℕ
start_from start ends zero = start
start_from start ends (suc place) = get_or ends place 0

-- there are as many lists as ends
pub cut_length : {X : Type 0} (start : ℕ) (ends : List ℕ) (items : List X) → length (cut_at start ends items) ≡ length ends
cut_length start [] items = refl
cut_length start (end ∷ ends) items = ap suc (cut_length end ends items)

-- the first list begins within the whole
pub ends-from : (start : ℕ) (ends : List ℕ) (total : ℕ) → AreEnds start ends total → start ≤ total
ends-from start [] total are = omega (arith, are)
ends-from start (end ∷ ends) total are = omega (arith, are.0, ends-from end ends total are.1)

-- a part has its length
part-length : {X : Type 0} (start end : ℕ) (items : List X) → start ≤ end → end ≤ length items → length (take (end - start) (drop start items)) ≡ end - start
part-length start end items a b = length-take-le (end - start) (drop start items) (omega (arith, length-drop start items, a, b))

-- together they are the whole
pub cut_sum : {X : Type 0} (start : ℕ) (ends : List ℕ) (items : List X) → AreEnds start ends (length items) → sum_by length (cut_at start ends items) + start ≡ length items
cut_sum start [] items are = omega (arith, are)
cut_sum start (end ∷ ends) items are =
    let within : end ≤ length items = ends-from end ends (length items) are.1 in
    omega (arith, are.0, within, sum_by-cons length (take (end - start) (drop start items)) (cut_at end ends items), part-length start end items are.0 within, cut_sum end ends items are.1)

-- a part of joined lists
part-append : {X : Type 0} (start end : ℕ) (items more : List X) → start ≤ end → end ≤ length items → take (end - start) (drop start (items ++ more)) ≡ take (end - start) (drop start items)
part-append start end items more a b =
    ap (take (end - start)) (drop-append-le start items more (omega (arith, a, b)))
    ∙ take-append-le (end - start) (drop start items) more (omega (arith, length-drop start items, a, b))

-- one list more
pub cut_at-push : {X : Type 0} (start : ℕ) (ends : List ℕ) (items more : List X) (next : ℕ) → AreEnds start ends (length items) → next ≡ length items + length more → cut_at start (ends ++ next ∷ []) (items ++ more) ≡ cut_at start ends items ++ more ∷ []
cut_at-push start [] items more next are e =
    ap (λ part. part ∷ []) (
    ap (λ n. take (next - start) (drop n (items ++ more))) are
    ∙ ap (take (next - start)) (drop-append_seam items more)
    ∙ take_all (next - start) more (omega (arith, are, e))
    )
cut_at-push start (end ∷ ends) items more next are e =
    let within : end ≤ length items = ends-from end ends (length items) are.1 in
    ap (λ part. part ∷ cut_at end (ends ++ next ∷ []) (items ++ more)) (part-append start end items more are.0 within)
    ∙ ap (λ rest. take (end - start) (drop start items) ∷ rest) (cut_at-push end ends items more next are.1 e)

pub ends-push : (start : ℕ) (ends : List ℕ) (total next : ℕ) → AreEnds start ends total → total ≤ next → AreEnds start (ends ++ next ∷ []) next
ends-push start [] total next are e = (omega (arith, are, e), refl)
ends-push start (end ∷ ends) total next are e = (are.0, ends-push end ends total next are.1 e)

-- where the list at a place lies
pub cut_at-row : {X : Type 0} (start : ℕ) (ends : List ℕ) (items : List X) (place : ℕ) → place < length ends → slice_get (cut_at start ends items) place ≡ Some (take (get_or ends place 0 - start_from start ends place) (drop (start_from start ends place) items))
unfolding start_from
cut_at-row start [] items place e = absurd (omega (arith, e))
cut_at-row start (end ∷ ends) items zero e = refl
cut_at-row start (end ∷ ends) items (suc zero) e = cut_at-row end ends items zero (omega (arith, e))
cut_at-row start (end ∷ ends) items (suc (suc place)) e = cut_at-row end ends items (suc place) (omega (arith, e))

pub ends-row : (start : ℕ) (ends : List ℕ) (total place : ℕ) → AreEnds start ends total → place < length ends → (start_from start ends place ≤ get_or ends place 0) × (get_or ends place 0 ≤ total)
unfolding start_from
ends-row start [] total place are e = absurd (omega (arith, e))
ends-row start (end ∷ ends) total zero are e = (are.0, ends-from end ends total are.1)
ends-row start (end ∷ ends) total (suc zero) are e = ends-row end ends total zero are.1 (omega (arith, e))
ends-row start (end ∷ ends) total (suc (suc place)) are e = ends-row end ends total (suc place) are.1 (omega (arith, e))

-- every list ends at the start of the first or later
end-first : (start : ℕ) (ends : List ℕ) (total place : ℕ) → AreEnds start ends total → place < length ends → start ≤ get_or ends place 0
end-first start [] total place are e = absurd (omega (arith, e))
end-first start (end ∷ ends) total zero are e = are.0
end-first start (end ∷ ends) total (suc place) are e = omega (arith, are.0, end-first end ends total place are.1 (omega (arith, e)))

-- the first lists alone
part-take : {X : Type 0} (start end whole : ℕ) (items : List X) → start ≤ end → end ≤ whole → take (end - start) (drop start (take whole items)) ≡ take (end - start) (drop start items)
part-take start end whole items a b =
    let split : start + (whole - start) ≡ whole = omega (arith, a, b) in
    ap (λ n. take (end - start) (drop start (take n items))) (sym split)
    ∙ ap (take (end - start)) (drop-take start (whole - start) items)
    ∙ take-take (end - start) (whole - start) (drop start items) (omega (arith, a, b))

pub cut_at-take : {X : Type 0} (start : ℕ) (ends : List ℕ) (items : List X) (count : ℕ) → AreEnds start ends (length items) → count < length ends → cut_at start (take count ends) (take (start_from start ends count) items) ≡ take count (cut_at start ends items)
unfolding start_from
cut_at-take start [] items count are e = absurd (omega (arith, e))
cut_at-take start (end ∷ ends) items zero are e = refl
cut_at-take start (end ∷ ends) items (suc zero) are e =
    ap (λ part. part ∷ []) (part-take start end end items are.0 (omega arith))
cut_at-take start (end ∷ ends) items (suc (suc count)) are e =
    let later : end ≤ get_or ends count 0 = end-first end ends (length items) count are.1 (omega (arith, e)) in
    ap (λ part. part ∷ cut_at end (take (suc count) ends) (take (get_or ends count 0) items)) (part-take start end (get_or ends count 0) items are.0 later)
    ∙ ap (λ rest. take (end - start) (drop start items) ∷ rest) (cut_at-take end ends items (suc count) are.1 (omega (arith, e)))

pub ends-take : (start : ℕ) (ends : List ℕ) (total count : ℕ) → AreEnds start ends total → count < length ends → AreEnds start (take count ends) (start_from start ends count)
unfolding start_from
ends-take start [] total count are e = absurd (omega (arith, e))
ends-take start (end ∷ ends) total zero are e = refl
ends-take start (end ∷ ends) total (suc zero) are e = (are.0, refl)
ends-take start (end ∷ ends) total (suc (suc count)) are e = (are.0, ends-take end ends total (suc count) are.1 (omega (arith, e)))

-- the place where a list of a whole vector begins
pub start_from-whole : (ends : List ℕ) (place : ℕ) → start_from 0 ends place ≡ start_of ends place
unfolding start_from
start_from-whole ends zero = refl
start_from-whole ends (suc place) = refl

-- the list at a place of a whole vector
pub row-whole : {X : Type 0} (ends : List ℕ) (items : List X) (place start end : ℕ) → place < length ends → start ≡ start_of ends place → end ≡ get_or ends place 0 → slice_get (cut_at 0 ends items) place ≡ Some (take (end - start) (drop start items))
row-whole ends items place start end e s t =
    cut_at-row 0 ends items place e
    ∙ ap (λ n. Some (take (n - start_from 0 ends place) (drop (start_from 0 ends place) items))) (sym t)
    ∙ ap (λ n. Some (take (end - n) (drop n items))) (start_from-whole ends place ∙ sym s)

pub bounds-whole : (ends : List ℕ) (total place start end : ℕ) → AreEnds 0 ends total → place < length ends → start ≡ start_of ends place → end ≡ get_or ends place 0 → (start ≤ end) × (end ≤ total)
bounds-whole ends total place start end are e s t =
    let both = ends-row 0 ends total place are e in
    (omega (arith, both.0, start_from-whole ends place, s, t), omega (arith, both.1, t))

-- the first lists of a whole vector
pub take-whole : {X : Type 0} (ends : List ℕ) (items : List X) (count end : ℕ) → AreEnds 0 ends (length items) → count < length ends → end ≡ start_of ends count → cut_at 0 (take count ends) (take end items) ≡ take count (cut_at 0 ends items)
take-whole ends items count end are e s =
    ap (λ n. cut_at 0 (take count ends) (take n items)) (s ∙ sym (start_from-whole ends count)) ∙ cut_at-take 0 ends items count are e

-- where a first list begins lies within the whole
start-within : (start : ℕ) (ends : List ℕ) (total count : ℕ) → AreEnds start ends total → count < length ends → start_from start ends count ≤ total
start-within start ends total count are e = let both = ends-row start ends total count are e in omega (arith, both.0, both.1)

pub ends-whole : {X : Type 0} (ends : List ℕ) (items : List X) (count end : ℕ) → AreEnds 0 ends (length items) → count < length ends → end ≡ start_of ends count → AreEnds 0 (take count ends) (length (take end items))
ends-whole ends items count end are e s =
    let from : start_from 0 ends count ≡ end = start_from-whole ends count ∙ sym s in
    let long : length (take end items) ≡ end = length-take-le end items (omega (arith, from, start-within 0 ends (length items) count are e)) in
    subst (AreEnds 0 (take count ends)) (from ∙ sym long) (ends-take 0 ends (length items) count are e)

-- what lies after a place is the same after a later one
drop-after : {X : Type 0} (start end : ℕ) (items others : List X) → start ≤ end → drop start items ≡ drop start others → drop end items ≡ drop end others
drop-after start end items others le e =
    let split : start + (end - start) ≡ end = omega arith in
    ap (λ n. drop n items) (sym split)
    ∙ sym (drop-drop (end - start) start items)
    ∙ ap (drop (end - start)) e
    ∙ drop-drop (end - start) start others
    ∙ ap (λ n. drop n others) split

-- the lists after a place are those of what lies after it
cut_at-later : {X : Type 0} (start : ℕ) (ends : List ℕ) (total : ℕ) (items others : List X) → AreEnds start ends total → drop start items ≡ drop start others → cut_at start ends items ≡ cut_at start ends others
cut_at-later start [] total items others are e = refl
cut_at-later start (end ∷ ends) total items others are e =
    ap (λ part. take (end - start) part ∷ cut_at end ends items) e
    ∙ ap (λ rest. take (end - start) (drop start others) ∷ rest) (cut_at-later end ends total items others are.1 (drop-after start end items others are.0 e))

-- an item is swapped behind those that are moved before it
moved-at : {X : Type 0} (items : List X) (next place end : ℕ) (d : X) → next ≤ place → place < end → place < length items → take (next + 1) (swap items next place) ++ take (end - (place + 1)) (drop (place + 1) (swap items next place)) ≡ take next items ++ take (end - place) (drop place items)
moved-at items next place end d le lt within =
    let front : take (next + 1) (swap items next place) ≡ take next items ++ get_or items place d ∷ [] = take-swap items next place d le within in
    let later : drop (place + 1) (swap items next place) ≡ drop (place + 1) items = drop-swap items next place le within in
    let more : end - place ≡ suc (end - (place + 1)) = omega arith in
    rw (front, later, more, drop_more items place d within) (append_assoc (take next items) (get_or items place d ∷ []) (take (end - (place + 1)) (drop (place + 1) items)))

pub moved-next : {X : Type 0} (items : List X) (next place end : ℕ) → next ≤ place → place < end → place < length items → take (next + 1) (swap items next place) ++ take (end - (place + 1)) (drop (place + 1) (swap items next place)) ≡ take next items ++ take (end - place) (drop place items)
moved-next [] next place end le lt within = absurd (omega (arith, within))
moved-next (d ∷ items) next place end le lt within = moved-at (d ∷ items) next place end d le lt within

pub moved-later : {X : Type 0} (items : List X) (next place end : ℕ) → next ≤ place → place < end → place < length items → drop end (swap items next place) ≡ drop end items
moved-later items next place end le lt within = drop-after (place + 1) end (swap items next place) items (omega arith) (drop-swap items next place le within)

-- the lists from a place on, and their ends
ends-next : (start place total : ℕ) (ends : List ℕ) → place < length ends → AreEnds start (drop place ends) total → AreEnds start (get_or ends place 0 ∷ drop (place + 1) ends) total
ends-next start place total ends lt are = subst (λ rest. AreEnds start rest total) (drop_more ends place 0 lt) are

cut_at-next : {X : Type 0} (start place : ℕ) (ends : List ℕ) (items : List X) → place < length ends → cut_at start (drop place ends) items ≡ take (get_or ends place 0 - start) (drop start items) ∷ cut_at (get_or ends place 0) (drop (place + 1) ends) items
cut_at-next start place ends items lt = ap (λ rest. cut_at start rest items) (drop_more ends place 0 lt)

-- where rows are removed, what holds at each place: the lists that are kept so far are in front, each ends where the
-- next begins, and after them come those that are kept of the rest
pub record IsCompact {X : Type 0} (marks : List Bool) (ends : List ℕ) (items : List X) (count place start filled : ℕ) (all : List (List X)) : Type 0 where
  pub moved : count ≤ place
  pub behind : filled ≤ start
  pub same : length ends ≡ length marks
  pub later : AreEnds start (drop place ends) (length items)
  pub front : AreEnds 0 (take count ends) filled
  pub left : cut_at 0 (take count ends) (take filled items) ++ kept (drop place marks) (cut_at start (drop place ends) items) ≡ all

-- where the next list ends
pub IsCompact-end : {X : Type 0} (marks : List Bool) (ends : List ℕ) (items : List X) (count place start filled : ℕ) (all : List (List X)) → place < length ends → IsCompact marks ends items count place start filled all → (start ≤ get_or ends place 0) × (get_or ends place 0 ≤ length items)
IsCompact-end marks ends items count place start filled all lt is =
    let next = ends-next start place (length items) ends lt is.later in
    (next.0, ends-from (get_or ends place 0) (drop (place + 1) ends) (length items) next.1)

-- a list that is removed is passed over
left-gone : {X : Type 0} (marks : List Bool) (part : X) (front rest : List X) (place : ℕ) → place < length marks → get_or marks place true ≡ true → front ++ kept (drop place marks) (part ∷ rest) ≡ front ++ kept (drop (place + 1) marks) rest
left-gone marks part front rest place lt gone = rw (drop_more marks place true lt, gone) refl

pub IsCompact-gone : {X : Type 0} (marks : List Bool) (ends : List ℕ) (items : List X) (count place start filled : ℕ) (all : List (List X)) → place < length ends → get_or marks place true ≡ true → IsCompact marks ends items count place start filled all → IsCompact marks ends items count (place + 1) (get_or ends place 0) filled all
IsCompact-gone marks ends items count place start filled all lt gone is =
    let next = ends-next start place (length items) ends lt is.later in
    let left = rw (cut_at-next start place ends items lt) at is.left in
    record {
      moved = omega (arith, is.moved);
      behind = omega (arith, is.behind, next.0);
      same = is.same;
      later = next.1;
      front = is.front;
      left = sym (left-gone marks _ _ _ place (omega (arith, is.same)) gone) ∙ left;
    }

-- a list that stays comes behind those that stay before it
left-stays : {X : Type 0} (marks : List Bool) (part : X) (front rest : List X) (place : ℕ) → place < length marks → get_or marks place true ≡ false → front ++ kept (drop place marks) (part ∷ rest) ≡ (front ++ part ∷ []) ++ kept (drop (place + 1) marks) rest
left-stays marks part front rest place lt stays = rw (drop_more marks place true lt, stays) (sym (append_assoc front (part ∷ []) (kept (drop (place + 1) marks) rest)))

pub IsCompact-stays : {X : Type 0} (marks : List Bool) (ends : List ℕ) (items next : List X) (count place start filled after : ℕ) (all : List (List X)) → place < length ends → get_or marks place true ≡ false → after ≡ filled + (get_or ends place 0 - start) → length next ≡ length items → take after next ≡ take filled items ++ take (get_or ends place 0 - start) (drop start items) → drop (get_or ends place 0) next ≡ drop (get_or ends place 0) items → IsCompact marks ends items count place start filled all → IsCompact marks (set ends count after) next (count + 1) (place + 1) (get_or ends place 0) after all
IsCompact-stays marks ends items next count place start filled after all lt stays to long moved rest is =
    let end = get_or ends place 0 in
    let part = take (end - start) (drop start items) in
    let lies = IsCompact-end marks ends items count place start filled all lt is in
    let ends_are = ends-next start place (length items) ends lt is.later in
    let within : length (take filled items) ≡ filled = length-take-le filled items (omega (arith, is.behind, lies.0, lies.1)) in
    let part_long = part-length start end items lies.0 lies.1 in
    let fronts : take (count + 1) (set ends count after) ≡ take count ends ++ after ∷ [] = take_more_set ends count after (omega (arith, is.moved)) in
    let laters : drop (place + 1) (set ends count after) ≡ drop (place + 1) ends = drop-set-lt (place + 1) ends count after (omega (arith, is.moved)) in
    let left = rw (cut_at-next start place ends items lt) at is.left in
    let pushed = cut_at-push 0 (take count ends) (take filled items) part after (subst (AreEnds 0 (take count ends)) (sym within) is.front) (omega arith) in
    let same_rest = cut_at-later end (drop (place + 1) ends) (length items) next items ends_are.1 rest in
    record {
      moved = omega (arith, is.moved);
      behind = omega (arith, is.behind, lies.0);
      same = length-set ends count after ∙ is.same;
      later = rw (laters, long) ends_are.1;
      front = rw fronts (ends-push 0 (take count ends) filled after is.front (omega arith));
      left = rw (fronts, laters, moved, pushed, same_rest) (sym (left-stays marks part _ _ place (omega (arith, is.same)) stays) ∙ left);
    }
