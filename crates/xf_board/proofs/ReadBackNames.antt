-- The name of a column gives back its place, since no two columns have one name; so what an accessor or a reducer of a board
-- names is found again.
use Rattle.std.proofs.Common.{◌≡◌, ◌∙◌, ◌+◌, ◌∷◌, ◌++◌, [], ℕ, zero, suc, List, Bool, true, false, cond, not, nat_lt, length, sym, ap, refl, arith, Option, Some, None, is_some, position, slice_get, length-append, true≢false, append_assoc}
use Rattle.std.specs.List.{position_or_len, prefix_len}
use Rattle.std.proofs.lemmas.Bool.Decides.{nat_tests}
use Rattle.std.proofs.lemmas.List.Folds.{prefix_len-append}
use Rattle.std.proofs.lemmas.List.Sums.{prefix_len-le-length}
use Rattle.std.proofs.lemmas.Slice.Eq.{bytes_eq-Decides}
use Rattle.std.specs.Str.{bytes_eq}
use Rattle.xf_access.specs.Stock.{kind_at}
use Rattle.xf_base.specs.Schema.{place_of}
use Rattle.xf_base.specs.declared.column.Column.{Column}
use Rattle.xf_base.specs.declared.column.ColumnKind.{ColumnKind}
use Rattle.xf_columns.specs.Columns.{column_at, column_refusal}
use Rattle.xf_board.specs.Board.{AllAfter, IsNewColumn}
use Rattle.xf_board.specs.Print.{name_at}

none-from : (test : Bool) (n : ℕ) → is_some (cond test (Some n) None) ≡ false → test ≡ false
none-from true n is = absurd (true≢false is)
none-from false n is = refl

-- the first item that passes stands behind those of which none does
position-here : {X : Type 0} (p : X → Bool) (before : List X) (x : X) (xs : List X) → p x ≡ true → is_some (position p before) ≡ false → position p (before ++ x ∷ xs) ≡ Some (length before)
position-here {X = X} p before x xs is new =
    let fails = λ (y : X). not (p y) in
    let none : nat_lt (position_or_len p before) (length before) ≡ false = none-from (nat_lt (position_or_len p before) (length before)) (position_or_len p before) new in
    let bound = prefix_len-le-length fails before in
    let all : prefix_len fails before ≡ length before = grind (arith, nat_tests) in
    let full : prefix_len fails (before ++ x ∷ xs) ≡ length before = prefix_len-append fails before (x ∷ xs) ∙ rw (all, is) (grind arith) in
    let long : length (before ++ x ∷ xs) ≡ length before + suc (length xs) = length-append before (x ∷ xs) in
    let within : nat_lt (length before) (length (before ++ x ∷ xs)) ≡ true = grind (arith, nat_tests) in
    rw (full, within) refl

-- a name is that of the column that declares it
named-from : (before xs : List Column) (place : ℕ) (column : Column) → AllAfter IsNewColumn before xs → slice_get xs place ≡ Some column → place_of (before ++ xs) column.name ≡ Some (length before + place)
named-from before [] place column all is = absurd (cc)
named-from before (x ∷ xs) zero column all is =
    let same : x ≡ column = cc in
    let itself : bytes_eq x.name x.name ≡ true = (bytes_eq-Decides x.name x.name).1 refl in
    let here = position-here (λ (y : Column). bytes_eq y.name x.name) before x xs itself all.0.0 in
    let count : length before ≡ length before + zero = omega arith in
    ap (λ (y : Column). place_of (before ++ x ∷ xs) y.name) (sym same) ∙ here ∙ ap Some count
named-from before (x ∷ xs) (suc place) column all is =
    let later = named-from (before ++ x ∷ []) xs place column all.1 is in
    let count : length (before ++ x ∷ []) + place ≡ length before + suc place = omega (arith, length-append before (x ∷ [])) in
    ap (λ (all : List Column). place_of all column.name) (sym (append_assoc before (x ∷ []) xs)) ∙ later ∙ ap Some count

found-at : (columns : List Column) (place : ℕ) (found : Option Column) → AllAfter IsNewColumn [] columns → slice_get columns place ≡ found → is_some found ≡ true
    → place_of columns (name_at columns place) ≡ Some place
found-at columns place None distinct is some = absurd (true≢false (sym some))
found-at columns place (Some column) distinct is some =
    rw is (named-from [] columns place column distinct is ∙ ap Some (omega arith))

-- what is taken is there
some-of : (takes : Option ColumnKind → Bool) (columns : List Column) (place : ℕ) (found : Option Column) → takes None ≡ false → slice_get columns place ≡ found
    → takes (kind_at columns place) ≡ true → is_some found ≡ true
some-of takes columns place None none is taken = absurd (true≢false (sym taken ∙ rw is none))
some-of takes columns place (Some column) none is taken = refl

pub place-again : (takes : Option ColumnKind → Bool) (columns : List Column) (place : ℕ) → AllAfter IsNewColumn [] columns → takes None ≡ false
    → takes (kind_at columns place) ≡ true → place_of columns (name_at columns place) ≡ Some place
place-again takes columns place distinct none taken =
    found-at columns place (slice_get columns place) distinct refl (some-of takes columns place (slice_get columns place) none refl taken)

-- so a column that fits is taken by its name, and is the column at its place
pub taken-again : (takes : Option ColumnKind → Bool) (columns : List Column) (place : ℕ) → place_of columns (name_at columns place) ≡ Some place
    → takes (kind_at columns place) ≡ true → column_refusal takes columns (name_at columns place) ≡ None
taken-again takes columns place found taken = rw (found, taken) refl

pub at-again : (columns : List Column) (place : ℕ) → place_of columns (name_at columns place) ≡ Some place → column_at columns (name_at columns place) ≡ place
at-again columns place found = rw found refl
