-- A count of few rows is the fold of as many rows that are all one even row, so that a row may be added or taken back.
use Rattle.std.proofs.Common.{◌≡◌, ℕ, zero, suc, ◌+◌, ◌-◌, ◌≤◌, Bool, true, false, List, [], ◌∷◌, ◌++◌, fold, replicate, refl, arith}
use Rattle.std.proofs.lemmas.List.{length-replicate}
use Rattle.std.specs.Bool.{⊤}
use Rattle.std.specs.List.{AllByRecursion}
use Rattle.std.specs.List.Sorted.{IsStrictlySortedBy}
use Rattle.xf_base.specs.Key.{key_cmp}
use Rattle.xf_base.specs.Schema.{IsRowOf}
use Rattle.xf_base.specs.declared.cell.Cell.{Cell}
use Rattle.xf_base.specs.declared.column.Column.{Column}
use Rattle.xf_base.specs.declared.key.Key.{Key}
use Rattle.xf_group.specs.Changed.{MayChange, MayChangeAll}
use Rattle.xf_group.specs.declared.entry.Entry.{Entry}
use Rattle.xf_reduce.specs.Number.{fits_at}
use Rattle.xf_group_cases.specs.Own.{even_first, even_first-few, evens}
use Rattle.xf_group_cases.specs.Turned.{MayTurn}

fold-repeated : (start : ℕ) (even : List Cell) (times : ℕ) → even_first even ≡ 1 → fold evens.step start (replicate times even) ≡ start + times
fold-repeated start even zero one = omega arith
fold-repeated start even (suc times) one =
    let later = fold-repeated (start + even_first even) even times one in
    omega (arith, later)

all-repeated : {X : Type 0} (P : X → Type 0) (x : X) → P x → (times : ℕ) → AllByRecursion P (replicate times x)
all-repeated P x is zero = tt
all-repeated P x is (suc times) = (is, all-repeated P x is times)

may_turn : (columns : List Column) (even row : List Cell) (on : Bool) (count : ℕ) → fits_at 0 columns ≡ true → IsRowOf columns even → IsRowOf columns row → even_first even ≡ 1 → MayTurn on count → MayChange (fits_at 0) evens on count row
may_turn columns even row true count fit is_even is one may = record {
  columns = columns;
  fit = fit;
  of_columns = is;
  rows = replicate count even;
  of_schema = all-repeated (IsRowOf columns) even is_even count;
  few = rw (length-replicate count even) may.0;
  folded = omega (arith, fold-repeated 0 even count one);
}
may_turn columns even row false count fit is_even is one may =
    let least : 1 ≤ count = may.1 refl in
    let few : even_first row ≤ 1 = even_first-few row in record {
      columns = columns;
      fit = fit;
      of_columns = is;
      rows = replicate (count - even_first row) even;
      of_schema = all-repeated (IsRowOf columns) even is_even (count - even_first row);
      few = rw (length-replicate (count - even_first row) even) (omega (arith, may.0));
      folded = omega (arith, fold-repeated 0 even (count - even_first row) one);
    }

-- where each count is such, a row may come to each key of its place, or go
pub may_turn_all : (columns : List Column) (even row : List Cell) (on : Bool) (keys : List Key) (entries : List (Entry ℕ)) → fits_at 0 columns ≡ true → IsRowOf columns even → IsRowOf columns row → even_first even ≡ 1 → AllByRecursion (λ entry. MayTurn on entry.value) entries → MayChangeAll (λ value. value) (fits_at 0) evens (λ value row. ⊤) keys on row entries
may_turn_all columns even row on keys [] fit is_even is one all = tt
may_turn_all columns even row on keys (entry ∷ entries) fit is_even is one all =
    (λ among. (may_turn columns even row on entry.value fit is_even is one all.0, tt), may_turn_all columns even row on keys entries fit is_even is one all.1)

-- one key ascends
pub one_ascends : (before keys : List Key) (key : Key) → before ≡ [] → keys ≡ before ++ key ∷ [] → IsStrictlySortedBy key_cmp keys
unfolding IsStrictlySortedBy
one_ascends before keys key none is =
    let own : keys ≡ key ∷ [] = cc in
    rw own (tt, tt)
