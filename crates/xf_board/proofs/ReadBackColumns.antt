-- What is printed for a column is read as the column.
use Rattle.std.proofs.Common.{◌≡◌, ◌∙◌, ◌∷◌, ◌++◌, ◌&&◌, ℕ, ℤ, List, Bool, true, false, cond, nat_lt, nat_le, length, ap, refl, arith, Option, Some, None, Ok, is_some, IfSome, IsUtf8, true≢false}
use Rattle.std.specs.List.{list_all}
use Rattle.std.proofs.lemmas.Bool.Decides.{nat_tests}
use Rattle.std.proofs.lemmas.List.Folds.{list_all-append}
use Rattle.std.proofs.lemmas.Str.{encode_ascii, is_utf8-from_IsUtf8}
use Rattle.std.specs.Result.{result_map_both}
use Rattle.xf_base.specs.Date.{date_text, day_of_month, day_text, month_of, year_of}
use Rattle.xf_base.specs.Fixed.{is_blank, with_zeros}
use Rattle.std.specs.Prelude.{decimal}
use Rattle.xf_base.specs.Schema.{IsCellOf, IsDay, IsSoundKind, place_of}
use Rattle.xf_base.specs.declared.cell.Cell.{Cell}
use Rattle.xf_base.specs.declared.cell.Cell.TheVariants as cell
use Rattle.xf_base.specs.declared.column.Column.{Column}
use Rattle.xf_base.specs.declared.column.ColumnKind.{ColumnKind}
use Rattle.xf_base.specs.declared.column.ColumnKind.TheVariants as kind
use Rattle.xf_base.specs.declared.limits.TheConstants.Limits.{CELL_BYTES}
use Rattle.xf_base.proofs.DayParts.{is_day-true}
use Rattle.xf_base.proofs.ReadBackDates.{date_of-day_text}
use Rattle.xf_base.proofs.ReadBackNumbers.{number_of-fixed_text}
use Rattle.xf_load.specs.Cell.{cell_of, cell_of_kind, date_refusal, number_refusal}
use Rattle.xf_board.specs.Board.{IsNewColumn, IsPlainTags}
use Rattle.xf_board.specs.Print.{HasTextBlank, blank_text, column_members, column_value, object_of}
use Rattle.xf_board.specs.Walk.{column_of}

-- ---- blanks

nothing-blank : (test : Bool) → (test && false) ≡ false
nothing-blank true = refl
nothing-blank false = refl

-- a date is more than blanks
date-marks : (day : ℤ) → IsDay day → list_all is_blank (day_text day) ≡ false
date-marks day within =
    let written : day_text day ≡ date_text day = rw (is_day-true day within) refl in
    let front : List ℕ = with_zeros 4 (decimal (year_of day)) ++ 45 ∷ with_zeros 2 (decimal (month_of day)) in
    let back : List ℕ = 45 ∷ with_zeros 2 (decimal (day_of_month day)) in
    ap (list_all is_blank) written ∙ list_all-append is_blank front back ∙ nothing-blank (list_all is_blank front)

kind-again : (kind : ColumnKind) (blank : Cell) → IsCellOf kind blank → IsPlainTags kind (Some blank) → cell_of_kind kind (blank_text kind blank) ≡ Ok blank
kind-again kind.Int (cell.Num n) own plain = ap (result_map_both cell.Num number_refusal) (number_of-fixed_text n 0 own)
kind-again kind.Int (cell.Text text) own plain = absurd own
kind-again kind.Int (cell.Tags tags) own plain = absurd own
kind-again (kind.Fixed decimals) (cell.Num n) own plain = ap (result_map_both cell.Num number_refusal) (number_of-fixed_text n decimals own)
kind-again (kind.Fixed decimals) (cell.Text text) own plain = absurd own
kind-again (kind.Fixed decimals) (cell.Tags tags) own plain = absurd own
kind-again kind.Date (cell.Num n) own plain = rw (date-marks n own) (ap (result_map_both cell.Num date_refusal) (date_of-day_text n own))
kind-again kind.Date (cell.Text text) own plain = absurd own
kind-again kind.Date (cell.Tags tags) own plain = absurd own
kind-again kind.Text (cell.Num n) own plain = absurd own
kind-again kind.Text (cell.Text text) own plain = let few : nat_lt CELL_BYTES (length text) ≡ false = grind (arith, nat_tests) in rw few refl
kind-again kind.Text (cell.Tags tags) own plain = absurd own
kind-again (kind.Tags separator) blank own plain = absurd (true≢false plain.2)

-- without a blank of its own a column reads every field by its kind
cell-by_kind : (name : List ℕ) (kind : ColumnKind) (field : List ℕ) (value : Cell) → IsUtf8 field → cell_of_kind kind field ≡ Ok value
    → cell_of (record { name = name; kind = kind; blank = None }) field ≡ Ok value
cell-by_kind name kind field value utf8 is = rw (is_utf8-from_IsUtf8 field utf8) (either (list_all is_blank field))
  where
    either : (test : Bool) → cond test (cell_of_kind kind field) (cell_of_kind kind field) ≡ Ok value
    either true = is
    either false = is

cell-again : (name : List ℕ) (kind : ColumnKind) (blank : Cell) → IsCellOf kind blank → IsPlainTags kind (Some blank) → IsUtf8 (blank_text kind blank)
    → cell_of (record { name = name; kind = kind; blank = None }) (blank_text kind blank) ≡ Ok blank
cell-again name kind blank own plain utf8 = cell-by_kind name kind (blank_text kind blank) blank utf8 (kind-again kind blank own plain)

-- ---- columns

members-again : (before : List Column) (path name : List ℕ) (kind : ColumnKind) (blank : Option Cell) → is_some (place_of before name) ≡ false → IsSoundKind kind
    → IfSome blank (IsCellOf kind) → IsPlainTags kind blank → IfSome blank (λ value. IsUtf8 (blank_text kind value))
    → column_of before path (object_of (column_members name kind blank)) ≡ Ok (record { name = name; kind = kind; blank = blank })
members-again before path name kind.Int None new sound own plain utf8 = rw new refl
members-again before path name kind.Int (Some blank) new sound own plain utf8 = rw (new, cell-again name kind.Int blank own plain utf8) refl
members-again before path name (kind.Fixed decimals) None new sound own plain utf8 =
    let few : (nat_le 0 decimals && nat_le decimals 9) ≡ true = grind (arith, nat_tests) in
    rw (new, few) refl
members-again before path name (kind.Fixed decimals) (Some blank) new sound own plain utf8 =
    let few : (nat_le 0 decimals && nat_le decimals 9) ≡ true = grind (arith, nat_tests) in
    rw (new, few, cell-again name (kind.Fixed decimals) blank own plain utf8) refl
members-again before path name kind.Date None new sound own plain utf8 = rw new refl
members-again before path name kind.Date (Some blank) new sound own plain utf8 = rw (new, cell-again name kind.Date blank own plain utf8) refl
members-again before path name kind.Text None new sound own plain utf8 = rw new refl
members-again before path name kind.Text (Some blank) new sound own plain utf8 = rw (new, cell-again name kind.Text blank own plain utf8) refl
members-again before path name (kind.Tags separator) None new sound own plain utf8 =
    let one = encode_ascii separator (omega arith) in
    let printable : (nat_le 32 separator && nat_le separator 126) ≡ true = grind (arith, nat_tests) in
    rw (new, one, printable) refl
members-again before path name (kind.Tags separator) (Some blank) new sound own plain utf8 = absurd (true≢false plain.2)

pub column-again : (before : List Column) (path : List ℕ) (column : Column) → IsNewColumn before column → IsSoundKind column.kind → IfSome column.blank (IsCellOf column.kind)
    → HasTextBlank column → column_of before path (column_value column) ≡ Ok column
column-again before path column new sound own utf8 = members-again before path column.name column.kind column.blank new.0 sound own new.1 utf8
