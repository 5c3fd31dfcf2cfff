-- The tags of a field: the distinct pieces in order are what a sort and a `dedup` leave, and a cell of a column of tags.
use Rattle.std.proofs.Common.{◌≡◌, ◌⊎◌, inl, inr, ℕ, ◌+◌, ◌-◌, ◌≤◌, ◌==◌, nat_lt, not, Bool, true, false, ◌||◌, cond, List, [], ◌∷◌, length, filter, map, sum_by, Bor, Result, Ok, Err, IfOk, refl, sym, ap, subst, ◌∙◌, arith, rules, tests, IsPermutation}
use Rattle.std.specs.List.{AllByRecursion, dedup, dedup_from, list_any, onto_first, slice_split}
use Rattle.std.specs.List.Retain.{DiffersFromLast, IsFiltered}
use Rattle.std.specs.List.Sorted.{IsSorted, IsStrictlySortedBy}
use Rattle.std.specs.Cmp.{on_total}
use Rattle.std.specs.Cmp.Lexicographic.{nat_list_cmp_total, pointwise, texts_ties}
use Rattle.std.specs.FinMap.{nat_cmp-IsAntisymmetric, slice_cmp-IsAntisymmetric}
use Rattle.std.specs.Ordering.{is_eq, is_lt}
use Rattle.std.specs.declared.cmp.Ordering.{Ordering}
use Rattle.std.specs.declared.cmp.Ordering.TheVariants.{Less, Equal, Greater}
use Rattle.std.proofs.lemmas.Cmp.{alike_right}
use Rattle.std.proofs.lemmas.List.Filters.{dedup_is}
use Rattle.std.proofs.lemmas.List.Kept.{IsStrictlySortedBy-dedup}
use Rattle.std.proofs.lemmas.List.Sorted.{IsPermutation-map}
use Rattle.std.proofs.lemmas.List.Sums.{sum_by-cons}
use Rattle.std.specs.Prelude.{nat_eq}
use Rattle.xf_base.specs.Key.{text_cmp}
use Rattle.xf_base.specs.Schema.{IsCellOf}
use Rattle.xf_base.specs.declared.cell.Cell.{Cell}
use Rattle.xf_base.specs.declared.cell.Cell.TheVariants as cell
use Rattle.xf_base.specs.declared.column.ColumnKind.TheVariants as kind
use Rattle.xf_base.specs.declared.limits.TheConstants.Limits.{CELL_BYTES, CELL_VALUES}
use Rattle.xf_load.specs.Fallible.{map_err}
use Rattle.xf_load.specs.Cell.{pieces_of, tags_cell, tags_of}
use Rattle.xf_load.specs.declared.cell.CellRefusal.{CellRefusal}
use Rattle.xf_load.specs.declared.cell.CellRefusal.TheVariants.{TextTooLong, TooManyTags}
use Rattle.xf_load.specs.declared.cell.ReadCellFault.{ReadCellFault}
use Rattle.xf_load.specs.declared.cell.ReadCellFault.TheVariants as fault
use Rattle.xf_model.specs.Group.{distinct_keys, with_key}
use Rattle.xf_model.proofs.AscendingKeys.{distinct_keys-IsPermutation, distinct_keys-sorted, same_ascending, sorted-distinct_keys}

-- what holds of each image holds of the list of images
all-map : {X Y : Type 0} (f : X → Y) (P : Y → Type 0) (xs : List X) → AllByRecursion (λ x. P (f x)) xs → AllByRecursion P (map f xs)
all-map f P [] all = tt
all-map f P (x ∷ xs) all = (all.0, all-map f P xs all.1)

-- what is sorted by a part of each is sorted once that part alone is taken
sorted-map : {X Y : Type 0} (cmp : Y → Y → Ordering) (f : X → Y) (xs : List X) → IsStrictlySortedBy (λ x y. cmp (f x) (f y)) xs → IsStrictlySortedBy cmp (map f xs)
unfolding IsStrictlySortedBy
sorted-map cmp f [] sorted = tt
sorted-map cmp f (x ∷ xs) sorted = (all-map f (λ y. cmp (f x) y ≡ Less) xs sorted.0, sorted-map cmp f xs sorted.1)

any-map : {X Y : Type 0} (test : Y → Bool) (f : X → Y) (xs : List X) → list_any test (map f xs) ≡ list_any (λ x. test (f x)) xs
any-map test f [] = refl
any-map test f (x ∷ xs) = ap (λ b. test (f x) || b) (any-map test f xs)

or_twice : (a b : Bool) → (a || (a || b)) ≡ (a || b)
or_twice true b = refl
or_twice false b = refl

-- a test that passes alike what is the same passes what `dedup` leaves where it passes the list
any-dedup_from : {X : Type 0} (same : X → X → Bool) (test : X → Bool) → ((x y : X) → same x y ≡ true → test x ≡ test y) → (k : X) (xs : List X) → list_any test (dedup_from same k xs) ≡ (test k || list_any test xs)
any-dedup_from same test alike k [] = refl
any-dedup_from {X} same test alike k (x ∷ xs) =
    elim (same x k) as (λ b. same x k ≡ b → list_any test (cond b (dedup_from same k xs) (k ∷ dedup_from same x xs)) ≡ (test k || (test x || list_any test xs))) [
      | true ↦ λ e. any-dedup_from same test alike k xs ∙ sym (or_twice (test k) (list_any test xs)) ∙ ap (λ b. test k || (b || list_any test xs)) (sym (alike x k e))
      | false ↦ λ e. ap (λ b. test k || b) (any-dedup_from same test alike x xs)
    ] refl

any-dedup : {X : Type 0} (same : X → X → Bool) (test : X → Bool) → ((x y : X) → same x y ≡ true → test x ≡ test y) → (xs : List X) → list_any test (dedup same xs) ≡ list_any test xs
any-dedup same test alike [] = refl
any-dedup same test alike (x ∷ xs) = any-dedup_from same test alike x xs

is_eq-Equal : (r : Ordering) → is_eq r ≡ true → r ≡ Equal
is_eq-Equal Less e = cc e
is_eq-Equal Equal e = refl
is_eq-Equal Greater e = cc e

abbrev text_of : Bor (List ℕ) → List ℕ
text_of text = text.now

abbrev same_text : Bor (List ℕ) → Bor (List ℕ) → Bool
same_text x y = pointwise nat_eq x.now y.now

-- texts that are the same tie alike with any text
ties_alike : (q : List ℕ) (x y : Bor (List ℕ)) → same_text x y ≡ true → is_eq (text_cmp q x.now) ≡ is_eq (text_cmp q y.now)
ties_alike q x y same =
    let tied : text_cmp x.now y.now ≡ Equal = is_eq-Equal (text_cmp x.now y.now) (sym (texts_ties x.now y.now) ∙ same) in
    ap is_eq (alike_right nat_list_cmp_total x.now y.now q tied)

-- a sort and then a `dedup` leave the distinct texts in order
pub distinct_from_sort : (xs ys zs : List (Bor (List ℕ))) → IsPermutation xs ys → IsSorted (λ x y. text_cmp x.now y.now) ys → IsFiltered (DiffersFromLast same_text) [] ys zs
    → map text_of zs ≡ distinct_keys text_cmp (map text_of xs)
distinct_from_sort xs ys zs moved sorted kept =
    let left : zs ≡ dedup same_text ys = dedup_is same_text ys zs kept in
    let exact = slice_cmp-IsAntisymmetric nat_cmp-IsAntisymmetric in
    let up : IsStrictlySortedBy (λ x y. text_cmp x.now y.now) (dedup same_text ys) = IsStrictlySortedBy-dedup (on_total text_of nat_list_cmp_total) (λ x y. texts_ties x.now y.now) ys sorted in
    let ascend : IsStrictlySortedBy text_cmp (map text_of (dedup same_text ys)) = sorted-map text_cmp text_of (dedup same_text ys) up in
    let own : distinct_keys text_cmp (map text_of (dedup same_text ys)) ≡ map text_of (dedup same_text ys) = distinct_keys-sorted text_cmp (map text_of (dedup same_text ys)) ascend in
    let alike : distinct_keys text_cmp (map text_of (dedup same_text ys)) ≡ distinct_keys text_cmp (map text_of ys) = same_ascending nat_list_cmp_total exact (map text_of (dedup same_text ys)) (map text_of ys) (λ q.
    any-map (λ own. is_eq (text_cmp q own)) text_of (dedup same_text ys)
    ∙ any-dedup same_text (λ own. is_eq (text_cmp q own.now)) (ties_alike q) ys
    ∙ sym (any-map (λ own. is_eq (text_cmp q own)) text_of ys)) in
    let order : distinct_keys text_cmp (map text_of xs) ≡ distinct_keys text_cmp (map text_of ys) = distinct_keys-IsPermutation nat_list_cmp_total exact (map text_of xs) (map text_of ys) (IsPermutation-map text_of xs ys moved) in
    ap (map text_of) left ∙ sym own ∙ alike ∙ sym order

-- the bytes of texts, with one more for each
abbrev weight : List (List ℕ) → ℕ
weight [] = 0
weight (text ∷ texts) = length text + 1 + weight texts

weight-is : (texts : List (List ℕ)) → sum_by length texts + length texts ≡ weight texts
weight-is [] = refl
weight-is (text ∷ texts) = omega (arith, weight-is texts, sum_by-cons length text texts)

-- the length of texts with a byte between each two
weight-joined : (texts : List (List ℕ)) → sum_by length texts + (length texts - 1) ≤ weight texts - 1
weight-joined [] = omega arith
weight-joined (text ∷ texts) = omega (arith, weight-is (text ∷ texts))

weight-onto_first : (x : ℕ) (parts : List (List ℕ)) (n : ℕ) → weight parts ≡ n + 1 → weight (onto_first x parts) ≡ n + 2
weight-onto_first x [] n h = absurd (omega arith)
weight-onto_first x (part ∷ parts) n h = omega arith

-- the parts of a list have its elements but for one between each two
weight-split : (test : ℕ → Bool) (xs : List ℕ) → weight (slice_split test xs) ≡ length xs + 1
weight-split test [] = refl
weight-split test (x ∷ xs) =
    elim (test x) as (λ b. weight (cond b ([] ∷ slice_split test xs) (onto_first x (slice_split test xs))) ≡ length (x ∷ xs) + 1) [
      | true ↦ omega (arith, weight-split test xs)
      | false ↦ omega (arith, weight-onto_first x (slice_split test xs) (length xs) (weight-split test xs))
    ]

weight-filter : (test : List ℕ → Bool) (texts : List (List ℕ)) → weight (filter test texts) ≤ weight texts
weight-filter test [] = omega arith
weight-filter test (text ∷ texts) =
    elim (test text) as (λ b. weight (cond b (text ∷ filter test texts) (filter test texts)) ≤ weight (text ∷ texts)) [
      | true ↦ omega (arith, weight-filter test texts)
      | false ↦ omega (arith, weight-filter test texts)
    ]

weight-with_key : (text : List ℕ) (texts : List (List ℕ)) → weight (with_key text_cmp text texts) ≤ length text + 1 + weight texts
weight-with_key text [] = omega arith
weight-with_key text (first ∷ texts) =
    elim (is_lt (text_cmp text first)) as (λ a. weight (cond a (text ∷ first ∷ texts) (cond (is_lt (text_cmp first text)) (first ∷ with_key text_cmp text texts) (first ∷ texts))) ≤ length text + 1 + weight (first ∷ texts)) [
      | true ↦ omega arith
      | false ↦ elim (is_lt (text_cmp first text)) as (λ b. weight (cond b (first ∷ with_key text_cmp text texts) (first ∷ texts)) ≤ length text + 1 + weight (first ∷ texts)) [
        | true ↦ omega (arith, weight-with_key text texts)
        | false ↦ omega arith
      ]
    ]

weight-distinct : (texts : List (List ℕ)) → weight (distinct_keys text_cmp texts) ≤ weight texts
weight-distinct [] = omega arith
weight-distinct (text ∷ texts) = omega (arith, weight-with_key text (distinct_keys text_cmp texts), weight-distinct texts)

-- the tags of a field, joined by the separator, are no longer than the field
tags-fit : (separator : ℕ) (field : List ℕ) → sum_by length (tags_of separator field) + (length (tags_of separator field) - 1) ≤ length field
tags-fit separator field =
    let joined = weight-joined (tags_of separator field) in
    let distinct = weight-distinct (pieces_of separator field) in
    let kept = weight-filter (λ piece. not (length piece == 0)) (slice_split (λ byte. byte == separator) field) in
    let parts = weight-split (λ byte. byte == separator) field in
    omega arith

-- so the tags that a field gives are a cell of a column of tags
tags_cell-is : (separator : ℕ) (field : List ℕ) (value : Cell) → tags_cell separator field ≡ Ok value → IsCellOf (kind.Tags separator) value
tags_cell-is separator field value h = go (nat_lt CELL_BYTES (length field)) (nat_lt CELL_VALUES (length (tags_of separator field))) refl refl h
  where
    go : (long many : Bool) → nat_lt CELL_BYTES (length field) ≡ long → nat_lt CELL_VALUES (length (tags_of separator field)) ≡ many
        → cond long (Err TextTooLong) (cond many (Err TooManyTags) (Ok (cell.Tags (tags_of separator field)))) ≡ Ok value → IsCellOf (kind.Tags separator) value
    go true many is_long is_many e = cc e
    go false true is_long is_many e = cc e
    go false false is_long is_many e =
        let short : length field ≤ CELL_BYTES = search (tests, rules) in
        let few : length (tags_of separator field) ≤ CELL_VALUES = search (tests, rules) in
        let same : cell.Tags (tags_of separator field) ≡ value = cc e in
        subst (IsCellOf (kind.Tags separator)) same (few, omega (arith, tags-fit separator field), sorted-distinct_keys nat_list_cmp_total (pieces_of separator field))

-- and so is what the reading of it answers
pub tags-answer : (separator : ℕ) (field : List ℕ) (answer : Result Cell ReadCellFault) → (answer ≡ Err fault.OutOfMemory) ⊎ (answer ≡ map_err fault.Bad (tags_cell separator field)) → IfOk answer (IsCellOf (kind.Tags separator))
tags-answer separator field answer (inl none) = rw none tt
tags-answer separator field answer (inr told) = go (tags_cell separator field) refl
  where
    go : (read : Result Cell CellRefusal) → tags_cell separator field ≡ read → IfOk answer (IsCellOf (kind.Tags separator))
    go (Ok value) e = let is : answer ≡ Ok value = rw e at told in rw is (tags_cell-is separator field value e)
    go (Err refusal) e = let is : answer ≡ Err (fault.Bad refusal) = rw e at told in rw is tt
