-- Where two rows change a fold alike in either order, any row may come last: so rows in any order have one fold, and a row that can be taken back may be any one.
use Rattle.std.proofs.Common.{◌≡◌, ◌≢◌, ℕ, zero, suc, ◌+◌, ◌<◌, ◌≤◌, Bool, true, false, ◌&&◌, List, [], ◌∷◌, ◌++◌, length, get_or, set, take, drop, swap, IsPermutation, refl, sym, ap, subst, ◌∙◌, append_assoc, append-nil, length-append, true≢false, arith}
use Rattle.std.proofs.lemmas.List.{length_push, set-get_or, set-set, set_comm, set_split}
use Rattle.std.proofs.lemmas.List.Folds.{list_all-append}
use Rattle.std.proofs.lemmas.List.Sorted.{IsPermutation-keeps}
use Rattle.std.specs.List.{fold, list_all}
use Rattle.xf_model.specs.Group.{Reducer, fold_of}
use Rattle.xf_model.specs.Undo.{StepsSwap, UndoTakesBack}
use Rattle.xf_model.proofs.GroupValues.{fold_of-append}

-- two places are one, or the first or the second is before the other
by_places : {P : Type 0} (i j : ℕ) → (i < j → P) → (i ≡ j → P) → (j < i → P) → P
by_places zero zero before same after = same refl
by_places zero (suc j) before same after = before (omega arith)
by_places (suc i) zero before same after = after (omega arith)
by_places (suc i) (suc j) before same after = by_places i j (λ less. before (omega arith)) (λ one. same (ap suc one)) (λ more. after (omega arith))

-- ---- two elements that change places

abbrev exchange : {X : Type 0} → List X → ℕ → ℕ → X → List X
exchange xs i j d = set (set xs i (get_or xs j d)) j (get_or xs i d)

-- a list around two of its elements, and the list in which these have changed places
record Exchanged {X : Type 0} (xs ys : List X) : Type 0 where
  before : List X
  one : X
  between : List X
  other : X
  after : List X
  was : xs ≡ before ++ one ∷ (between ++ other ∷ after)
  is : ys ≡ before ++ other ∷ (between ++ one ∷ after)

-- an element behind the first changes places with it
exchanged_first : {X : Type 0} (x : X) (xs : List X) (j : ℕ) (d : X) → j < length xs → Exchanged (x ∷ xs) (get_or xs j d ∷ set xs j x)
exchanged_first x xs j d within =
    let other = get_or xs j d in
    record {
      before = [];
      one = x;
      between = take j xs;
      other = other;
      after = drop (suc j) xs;
      was = ap (λ rest. x ∷ rest) (sym (set-get_or xs j d) ∙ set_split xs j other within);
      is = ap (λ rest. other ∷ rest) (set_split xs j x within);
    }

exchanged : {X : Type 0} (xs : List X) (i j : ℕ) (d : X) → i < j → j < length xs → Exchanged xs (exchange xs i j d)
exchanged [] i j d less within = absurd (omega arith)
exchanged (x ∷ xs) i zero d less within = absurd (omega arith)
exchanged (x ∷ xs) zero (suc j) d less within = exchanged_first x xs j d (omega arith)
exchanged (x ∷ xs) (suc i) (suc j) d less within =
    let rest = exchanged xs i j d (omega arith) (omega arith) in
    record {
      before = x ∷ rest.before;
      one = rest.one;
      between = rest.between;
      other = rest.other;
      after = rest.after;
      was = ap (λ tail. x ∷ tail) rest.was;
      is = ap (λ tail. x ∷ tail) rest.is;
    }

-- ---- tests of each of a list

left_true : (a b : Bool) → (a && b) ≡ true → a ≡ true
left_true true b both = refl
left_true false b both = both

right_true : (a b : Bool) → (a && b) ≡ true → b ≡ true
right_true true b both = both
right_true false b both = absurd (true≢false (sym both))

both_true : (a b : Bool) → a ≡ true → b ≡ true → (a && b) ≡ true
both_true a b one other = ap (λ c. c && b) one ∙ other

module _ {X : Type 0} (test : X → Bool) where
  all_before : (xs ys : List X) → list_all test (xs ++ ys) ≡ true → list_all test xs ≡ true
  all_before xs ys all = left_true (list_all test xs) (list_all test ys) (sym (list_all-append test xs ys) ∙ all)

  all_after : (xs ys : List X) → list_all test (xs ++ ys) ≡ true → list_all test ys ≡ true
  all_after xs ys all = right_true (list_all test xs) (list_all test ys) (sym (list_all-append test xs ys) ∙ all)

  all_joined : (xs ys : List X) → list_all test xs ≡ true → list_all test ys ≡ true → list_all test (xs ++ ys) ≡ true
  all_joined xs ys one other = list_all-append test xs ys ∙ both_true (list_all test xs) (list_all test ys) one other

  all_first : (x : X) (xs : List X) → list_all test (x ∷ xs) ≡ true → test x ≡ true
  all_first x xs all = left_true (test x) (list_all test xs) all

  all_rest : (x : X) (xs : List X) → list_all test (x ∷ xs) ≡ true → list_all test xs ≡ true
  all_rest x xs all = right_true (test x) (list_all test xs) all

  all_cons : (x : X) (xs : List X) → test x ≡ true → list_all test xs ≡ true → list_all test (x ∷ xs) ≡ true
  all_cons x xs one other = both_true (test x) (list_all test xs) one other

-- ---- folds

module _ {Row Value : Type 0} (suits : Row → Bool) (most : ℕ) (reducer : Reducer Row Value) (swaps : StepsSwap suits most reducer) where
  -- any of the rows may come last
  pub fold_of-last : (before : List Row) (row : Row) (after : List Row) → length before + length after + 1 ≤ most
      → list_all suits before ≡ true → suits row ≡ true → list_all suits after ≡ true
      → fold_of reducer (before ++ row ∷ after) ≡ reducer.step (fold_of reducer (before ++ after)) row
  fold_of-last before row [] few early own late =
      fold_of-append reducer before (row ∷ []) ∙ ap (λ rows. reducer.step (fold_of reducer rows) row) (sym (append-nil before))
  fold_of-last before row (next ∷ after) few early own late =
      let next_suits : suits next ≡ true = all_first suits next after late in
      let longer : length (before ++ next ∷ []) ≡ length before + 1 = length_push before next in
      let moved : fold_of reducer (before ++ row ∷ next ∷ after) ≡ fold_of reducer ((before ++ next ∷ []) ++ row ∷ after) =
      fold_of-append reducer before (row ∷ next ∷ after)
      ∙ ap (λ value. fold reducer.step value after) (swaps before row next (omega arith) early own next_suits)
      ∙ sym (fold_of-append reducer before (next ∷ row ∷ after))
      ∙ ap (fold_of reducer) (sym (append_assoc before (next ∷ []) (row ∷ after))) in
      moved
      ∙ fold_of-last (before ++ next ∷ []) row after (omega arith) (all_joined suits before (next ∷ []) early (all_cons suits next [] next_suits refl)) own (all_rest suits next after late)
      ∙ ap (λ rows. reducer.step (fold_of reducer rows) row) (append_assoc before (next ∷ []) after)

  -- two of the rows may come last
  fold_of-last_two : (before : List Row) (one : Row) (between : List Row) (other : Row) (after : List Row) → length before + length between + length after + 2 ≤ most
      → list_all suits before ≡ true → suits one ≡ true → list_all suits between ≡ true → suits other ≡ true → list_all suits after ≡ true
      → fold_of reducer (before ++ one ∷ (between ++ other ∷ after)) ≡ reducer.step (reducer.step (fold_of reducer ((before ++ between) ++ after)) other) one
  fold_of-last_two before one between other after few early own middle also late =
      let rest_length : length (between ++ other ∷ after) ≡ length between + length (other ∷ after) = length-append between (other ∷ after) in
      let front_length : length (before ++ between) ≡ length before + length between = length-append before between in
      fold_of-last before one (between ++ other ∷ after) (omega arith) early own (all_joined suits between (other ∷ after) middle (all_cons suits other after also late))
      ∙ ap (λ rows. reducer.step (fold_of reducer rows) one) (sym (append_assoc before between (other ∷ after)))
      ∙ ap (λ value. reducer.step value one) (fold_of-last (before ++ between) other after (omega arith) (all_joined suits before between early middle) also late)

  -- two of the rows may change places
  fold_of-exchange : (before : List Row) (one : Row) (between : List Row) (other : Row) (after : List Row) → length before + length between + length after + 2 ≤ most
      → list_all suits before ≡ true → suits one ≡ true → list_all suits between ≡ true → suits other ≡ true → list_all suits after ≡ true
      → fold_of reducer (before ++ one ∷ (between ++ other ∷ after)) ≡ fold_of reducer (before ++ other ∷ (between ++ one ∷ after))
  fold_of-exchange before one between other after few early own middle also late =
      let front_length : length (before ++ between) ≡ length before + length between = length-append before between in
      let rest_length : length ((before ++ between) ++ after) ≡ length (before ++ between) + length after = length-append (before ++ between) after in
      let rest : list_all suits ((before ++ between) ++ after) ≡ true = all_joined suits (before ++ between) after (all_joined suits before between early middle) late in
      fold_of-last_two before one between other after few early own middle also late
      ∙ swaps ((before ++ between) ++ after) other one (omega arith) rest also own
      ∙ sym (fold_of-last_two before other between one after few early also middle own late)

  -- what is kept of rows that change places
  record Keeps (rows others : List Row) : Type 0 where
    few : length others ≤ most
    suit : list_all suits others ≡ true
    folded : fold_of reducer rows ≡ fold_of reducer others

  keeps_exchange : (rows : List Row) (before : List Row) (one : Row) (between : List Row) (other : Row) (after : List Row)
      → Keeps rows (before ++ one ∷ (between ++ other ∷ after)) → Keeps rows (before ++ other ∷ (between ++ one ∷ after))
  keeps_exchange rows before one between other after kept =
      let long : length (before ++ one ∷ (between ++ other ∷ after)) ≡ length before + length (one ∷ (between ++ other ∷ after)) = length-append before (one ∷ (between ++ other ∷ after)) in
      let long_rest : length (between ++ other ∷ after) ≡ length between + length (other ∷ after) = length-append between (other ∷ after) in
      let now_long : length (before ++ other ∷ (between ++ one ∷ after)) ≡ length before + length (other ∷ (between ++ one ∷ after)) = length-append before (other ∷ (between ++ one ∷ after)) in
      let now_long_rest : length (between ++ one ∷ after) ≡ length between + length (one ∷ after) = length-append between (one ∷ after) in
      let few : length (before ++ one ∷ (between ++ other ∷ after)) ≤ most = kept.few in
      let early = all_before suits before (one ∷ (between ++ other ∷ after)) kept.suit in
      let later = all_after suits before (one ∷ (between ++ other ∷ after)) kept.suit in
      let own = all_first suits one (between ++ other ∷ after) later in
      let rest = all_rest suits one (between ++ other ∷ after) later in
      let middle = all_before suits between (other ∷ after) rest in
      let last = all_after suits between (other ∷ after) rest in
      let also = all_first suits other after last in
      let late = all_rest suits other after last in
      record {
        few = omega arith;
        suit = all_joined suits before (other ∷ (between ++ one ∷ after)) early (all_cons suits other (between ++ one ∷ after) also (all_joined suits between (one ∷ after) middle (all_cons suits one after own late)));
        folded = kept.folded ∙ fold_of-exchange before one between other after (omega arith) early own middle also late;
      }

  keeps_exchanged : (rows xs ys : List Row) → Exchanged xs ys → Keeps rows xs → Keeps rows ys
  keeps_exchanged rows xs ys moved kept =
      subst (Keeps rows) (sym moved.is) (keeps_exchange rows moved.before moved.one moved.between moved.other moved.after (subst (Keeps rows) moved.was kept))

  keeps_at : (rows xs : List Row) (i j : ℕ) (d : Row) → i < length xs → j < length xs → Keeps rows xs → Keeps rows (exchange xs i j d)
  keeps_at rows xs i j d within also_within kept =
      by_places i j
      (λ less. keeps_exchanged rows xs (exchange xs i j d) (exchanged xs i j d less also_within) kept)
      (λ one.
      let still : xs ≡ exchange xs i i d = sym (set-get_or xs i d) ∙ sym (set-set xs i (get_or xs i d) (get_or xs i d)) in
      subst (λ k. Keeps rows (exchange xs i k d)) one (subst (Keeps rows) still kept))
      (λ more.
      let apart : i ≢ j = λ one. absurd (omega arith) in
      let flipped : exchange xs j i d ≡ exchange xs i j d = sym (set_comm xs i j (get_or xs j d) (get_or xs i d) apart) in
      subst (Keeps rows) flipped (keeps_exchanged rows xs (exchange xs j i d) (exchanged xs j i d more within) kept))

  keeps_swap : (rows xs : List Row) (i j : ℕ) → i < length xs → j < length xs → Keeps rows xs → Keeps rows (swap xs i j)
  keeps_swap rows [] i j within also_within kept = absurd (omega arith)
  keeps_swap rows (d ∷ xs) i j within also_within kept = keeps_at rows (d ∷ xs) i j d within also_within kept

  -- rows in any order have the same fold
  pub fold_of-IsPermutation : (xs ys : List Row) → length xs ≤ most → list_all suits xs ≡ true → IsPermutation xs ys → fold_of reducer xs ≡ fold_of reducer ys
  fold_of-IsPermutation xs ys few suit moved =
      let kept : Keeps xs ys = IsPermutation-keeps xs (Keeps xs) (record { few = few; suit = suit; folded = refl }) (keeps_swap xs) ys moved in
      kept.folded

  -- to undo any one of the rows gives the fold of the others
  pub undo-fold_of : (undo : Value → Row → Value) → UndoTakesBack suits most reducer undo → (before : List Row) (row : Row) (after : List Row)
      → length (before ++ row ∷ after) ≤ most → list_all suits (before ++ row ∷ after) ≡ true → undo (fold_of reducer (before ++ row ∷ after)) row ≡ fold_of reducer (before ++ after)
  undo-fold_of undo takes_back before row after few suit =
      let long : length (before ++ row ∷ after) ≡ length before + length (row ∷ after) = length-append before (row ∷ after) in
      let others_long : length (before ++ after) ≡ length before + length after = length-append before after in
      let early = all_before suits before (row ∷ after) suit in
      let later = all_after suits before (row ∷ after) suit in
      let own = all_first suits row after later in
      let late = all_rest suits row after later in
      ap (λ value. undo value row) (fold_of-last before row after (omega arith) early own late)
      ∙ takes_back (before ++ after) row (omega arith) (all_joined suits before after early late) own
