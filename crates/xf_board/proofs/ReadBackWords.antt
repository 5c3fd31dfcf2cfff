-- The words of an accessor, a rounding or a reducer name it again.
use Rattle.std.proofs.Common.{◌≡◌, ◌∙◌, ◌&&◌, ◌^◌, [], ℕ, pos, negsuc, List, true, nat_le, sym, ap, refl, arith, Option, Some, None, is_some, slice_get, true≢false}
use Rattle.std.proofs.lemmas.Bool.{and_parts}
use Rattle.std.proofs.lemmas.Bool.Decides.{nat_tests}
use Rattle.xf_access.specs.Stock.{fits_columns, is_form_of, is_of_dates, is_of_tags, kind_at}
use Rattle.xf_access.specs.declared.stock_accessor.StockAccessor.{StockAccessor}
use Rattle.xf_access.specs.declared.stock_accessor.StockAccessor.TheVariants as stock
use Rattle.xf_access.specs.declared.stock_rounding.StockRounding.{StockRounding}
use Rattle.xf_access.specs.declared.stock_rounding.StockRounding.TheVariants as rounding
use Rattle.xf_base.specs.declared.column.Column.{Column}
use Rattle.xf_base.specs.declared.column.ColumnKind.{ColumnKind}
use Rattle.xf_base.specs.declared.column.ColumnKind.TheVariants as kind
use Rattle.xf_base.specs.declared.form.AtomForm.{AtomForm}
use Rattle.xf_base.specs.declared.form.AtomForm.TheVariants as atom
use Rattle.xf_base.specs.declared.form.KeyForm.TheVariants.{One, Pair}
use Rattle.xf_base.specs.Schema.{place_of}
use Rattle.xf_columns.specs.Columns.{accessor_of, accessor_refusal, form_of_column, is_of_numbers, is_plain, reducer_of, reducer_refusal, simple_of, simple_refusal}
use Rattle.xf_columns.specs.declared.words.AccessorWords.{AccessorWords}
use Rattle.xf_columns.specs.declared.words.AccessorWords.TheVariants as accessor
use Rattle.xf_columns.specs.declared.words.ReducerWords.{ReducerWords}
use Rattle.xf_columns.specs.declared.words.ReducerWords.TheVariants as words
use Rattle.xf_columns.specs.declared.words.SimpleWords.{SimpleWords}
use Rattle.xf_columns.specs.declared.words.SimpleWords.TheVariants as simple
use Rattle.xf_reduce.specs.Number as number
use Rattle.xf_reduce.specs.Simple.{simple_fits}
use Rattle.xf_reduce.specs.StockReducer.{stock_fits}
use Rattle.xf_reduce.specs.declared.simple.Simple.{Simple}
use Rattle.xf_reduce.specs.declared.simple.Simple.TheVariants as part
use Rattle.xf_reduce.specs.declared.stock_reducer.StockReducer.{StockReducer}
use Rattle.xf_reduce.specs.declared.stock_reducer.StockReducer.TheVariants as reducer
use Rattle.xf_board.specs.Board.{AllAfter, IsNewColumn, is_sound_rounding}
use Rattle.xf_board.specs.Print.{accessor_value, name_at, part_value, reducer_value, rounding_value}
use Rattle.xf_members.specs.Words.{accessor_rule, part_rule, reducer_rule, rounding_rule}
use Rattle.xf_board.proofs.ReadBackNames.{at-again, place-again, taken-again}

-- ---- accessors

pub words_of_accessor : List Column → StockAccessor → AccessorWords
words_of_accessor columns (stock.Column place form) = accessor.Column (name_at columns place)
words_of_accessor columns (stock.PairOf first second form) = accessor.Pair (name_at columns first) (name_at columns second)
words_of_accessor columns (stock.Tags place) = accessor.Tags (name_at columns place)
words_of_accessor columns (stock.Weekday place) = accessor.Weekday (name_at columns place)
words_of_accessor columns (stock.Month place) = accessor.Month (name_at columns place)

pub accessor-said : (columns : List Column) (from : StockAccessor) → accessor_rule (accessor_value columns from) ≡ Some (words_of_accessor columns from)
unfolding words_of_accessor
accessor-said columns (stock.Column place form) = refl
accessor-said columns (stock.PairOf first second form) = refl
accessor-said columns (stock.Tags place) = refl
accessor-said columns (stock.Weekday place) = refl
accessor-said columns (stock.Month place) = refl

-- a column with keys of a form has that form alone
form-of : (form : AtomForm) (column : Option ColumnKind) → is_form_of form column ≡ true → form_of_column column ≡ Some form
form-of (atom.Fixed decimals) (Some kind.Int) is = let none : 0 ≡ decimals = grind (arith, nat_tests) in ap (λ (n : ℕ). Some (atom.Fixed n)) none
form-of (atom.Fixed decimals) (Some (kind.Fixed own)) is = let same : own ≡ decimals = grind (arith, nat_tests) in ap (λ (n : ℕ). Some (atom.Fixed n)) same
form-of (atom.Fixed decimals) (Some kind.Date) is = absurd (true≢false (sym is))
form-of (atom.Fixed decimals) (Some kind.Text) is = absurd (true≢false (sym is))
form-of (atom.Fixed decimals) (Some (kind.Tags separator)) is = absurd (true≢false (sym is))
form-of atom.Date (Some kind.Int) is = absurd (true≢false (sym is))
form-of atom.Date (Some (kind.Fixed own)) is = absurd (true≢false (sym is))
form-of atom.Date (Some kind.Date) is = refl
form-of atom.Date (Some kind.Text) is = absurd (true≢false (sym is))
form-of atom.Date (Some (kind.Tags separator)) is = absurd (true≢false (sym is))
form-of atom.Text (Some kind.Int) is = absurd (true≢false (sym is))
form-of atom.Text (Some (kind.Fixed own)) is = absurd (true≢false (sym is))
form-of atom.Text (Some kind.Date) is = absurd (true≢false (sym is))
form-of atom.Text (Some kind.Text) is = refl
form-of atom.Text (Some (kind.Tags separator)) is = absurd (true≢false (sym is))
form-of (atom.Fixed decimals) None is = absurd (true≢false (sym is))
form-of atom.Date None is = absurd (true≢false (sym is))
form-of atom.Text None is = absurd (true≢false (sym is))

-- a column with keys of a form, by its name
record IsKeyed (columns : List Column) (place : ℕ) (form : AtomForm) : Type 0 where
  found : place_of columns (name_at columns place) ≡ Some place
  plain : is_plain (kind_at columns place) ≡ true
  own : form_of_column (kind_at columns place) ≡ Some form

keyed : (columns : List Column) (place : ℕ) (form : AtomForm) → AllAfter IsNewColumn [] columns → is_form_of form (kind_at columns place) ≡ true → IsKeyed columns place form
keyed columns place form distinct is =
    let own = form-of form (kind_at columns place) is in
    let plain : is_plain (kind_at columns place) ≡ true = ap is_some own in
    record { found = place-again is_plain columns place distinct refl plain; plain = plain; own = own }

-- its words name it again, and fit
pub record NamesAgain (columns : List Column) (from : StockAccessor) : Type 0 where
  pub fits : accessor_refusal columns (words_of_accessor columns from) ≡ None
  pub same : accessor_of columns (words_of_accessor columns from) ≡ from

pub accessor-again : (columns : List Column) (from : StockAccessor) → AllAfter IsNewColumn [] columns → fits_columns from columns ≡ true → NamesAgain columns from
unfolding words_of_accessor
accessor-again columns (stock.Column place (One form)) distinct fits =
    let own = keyed columns place form distinct fits in
    record { fits = taken-again is_plain columns place own.found own.plain; same = rw (own.found, own.own) refl }
accessor-again columns (stock.Column place (Pair first second)) distinct fits = absurd (true≢false (sym fits))
accessor-again columns (stock.PairOf first second (One form)) distinct fits = absurd (true≢false (sym fits))
accessor-again columns (stock.PairOf first second (Pair front back)) distinct fits =
    let both = and_parts (is_form_of front (kind_at columns first)) (is_form_of back (kind_at columns second)) fits in
    let one = keyed columns first front distinct both.0 in
    let two = keyed columns second back distinct both.1 in
    record {
      fits = rw (taken-again is_plain columns first one.found one.plain, taken-again is_plain columns second two.found two.plain) refl;
      same = rw (one.found, two.found, one.own, two.own) refl;
    }
accessor-again columns (stock.Tags place) distinct fits =
    let found = place-again is_of_tags columns place distinct refl fits in
    record { fits = taken-again is_of_tags columns place found fits; same = ap stock.Tags (at-again columns place found) }
accessor-again columns (stock.Weekday place) distinct fits =
    let found = place-again is_of_dates columns place distinct refl fits in
    record { fits = taken-again is_of_dates columns place found fits; same = ap stock.Weekday (at-again columns place found) }
accessor-again columns (stock.Month place) distinct fits =
    let found = place-again is_of_dates columns place distinct refl fits in
    record { fits = taken-again is_of_dates columns place found fits; same = ap stock.Month (at-again columns place found) }

-- ---- roundings

pub rounding-again : (round : StockRounding) → is_sound_rounding round ≡ true → rounding_rule (rounding_value round) ≡ Some round
rounding-again rounding.Same sound = refl
rounding-again (rounding.Floor (pos width)) sound =
    let within : (nat_le 1 width && nat_le width (10 ^ 15)) ≡ true = sound in
    rw within refl
rounding-again (rounding.Floor (negsuc width)) sound = absurd (true≢false (sym sound))
rounding-again rounding.MonthOf sound = refl
rounding-again rounding.YearOf sound = refl
rounding-again (rounding.FirstLetters count) sound =
    let within : (nat_le 1 count && nat_le count 64) ≡ true = sound in
    rw within refl

-- ---- reducers

words_of_part : List Column → Simple → SimpleWords
words_of_part columns part.Count = simple.Count
words_of_part columns (part.Sum place) = simple.Sum (name_at columns place)
words_of_part columns (part.SumCount place) = simple.SumCount (name_at columns place)
words_of_part columns (part.SumSquares place) = simple.SumSquares (name_at columns place)
words_of_part columns (part.Spread place) = simple.Spread (name_at columns place)

pub words_of_reducer : List Column → StockReducer → ReducerWords
unfolding words_of_part
words_of_reducer columns (reducer.One first) = words.One (words_of_part columns first)
words_of_reducer columns (reducer.Two first second) = words.Both (words_of_part columns first) (words_of_part columns second)

part-said : (columns : List Column) (first : Simple) → part_rule (part_value columns first) ≡ Some (words_of_part columns first)
unfolding words_of_part
part-said columns part.Count = refl
part-said columns (part.Sum place) = refl
part-said columns (part.SumCount place) = refl
part-said columns (part.SumSquares place) = refl
part-said columns (part.Spread place) = refl

one-said : (columns : List Column) (first : Simple) → reducer_rule (part_value columns first) ≡ Some (words.One (words_of_part columns first))
unfolding words_of_part
one-said columns part.Count = refl
one-said columns (part.Sum place) = refl
one-said columns (part.SumCount place) = refl
one-said columns (part.SumSquares place) = refl
one-said columns (part.Spread place) = refl

pub reducer-said : (columns : List Column) (reduce : StockReducer) → reducer_rule (reducer_value columns reduce) ≡ Some (words_of_reducer columns reduce)
unfolding words_of_reducer
reducer-said columns (reducer.One first) = one-said columns first
reducer-said columns (reducer.Two first second) = rw (part-said columns first, part-said columns second) refl

-- a column of numbers, as words take it
numbers-taken : (columns : List Column) (place : ℕ) (found : Option Column) → slice_get columns place ≡ found → number.fits_at place columns ≡ true
    → is_of_numbers (kind_at columns place) ≡ true
numbers-taken columns place None is fits = absurd (true≢false (sym fits ∙ ap number.is_of_numbers is))
numbers-taken columns place (Some column) is fits = rw is (sym (ap number.is_of_numbers is) ∙ fits)

record PartNamesAgain (columns : List Column) (first : Simple) : Type 0 where
  fits : simple_refusal columns (words_of_part columns first) ≡ None
  same : simple_of columns (words_of_part columns first) ≡ first

part-again : (columns : List Column) (first : Simple) → AllAfter IsNewColumn [] columns → simple_fits first columns ≡ true → PartNamesAgain columns first
unfolding words_of_part
part-again columns part.Count distinct fits = record { fits = refl; same = refl }
part-again columns (part.Sum place) distinct fits =
    let taken = numbers-taken columns place (slice_get columns place) refl fits in
    let found = place-again is_of_numbers columns place distinct refl taken in
    record { fits = taken-again is_of_numbers columns place found taken; same = ap part.Sum (at-again columns place found) }
part-again columns (part.SumCount place) distinct fits =
    let taken = numbers-taken columns place (slice_get columns place) refl fits in
    let found = place-again is_of_numbers columns place distinct refl taken in
    record { fits = taken-again is_of_numbers columns place found taken; same = ap part.SumCount (at-again columns place found) }
part-again columns (part.SumSquares place) distinct fits =
    let taken = numbers-taken columns place (slice_get columns place) refl fits in
    let found = place-again is_of_numbers columns place distinct refl taken in
    record { fits = taken-again is_of_numbers columns place found taken; same = ap part.SumSquares (at-again columns place found) }
part-again columns (part.Spread place) distinct fits =
    let taken = numbers-taken columns place (slice_get columns place) refl fits in
    let found = place-again is_of_numbers columns place distinct refl taken in
    record { fits = taken-again is_of_numbers columns place found taken; same = ap part.Spread (at-again columns place found) }

pub record ReducerNamesAgain (columns : List Column) (reduce : StockReducer) : Type 0 where
  pub fits : reducer_refusal columns (words_of_reducer columns reduce) ≡ None
  pub same : reducer_of columns (words_of_reducer columns reduce) ≡ reduce

pub reducer-again : (columns : List Column) (reduce : StockReducer) → AllAfter IsNewColumn [] columns → stock_fits reduce columns ≡ true → ReducerNamesAgain columns reduce
unfolding words_of_reducer
reducer-again columns (reducer.One first) distinct fits =
    let one = part-again columns first distinct fits in
    record { fits = one.fits; same = ap reducer.One one.same }
reducer-again columns (reducer.Two first second) distinct fits =
    let both = and_parts (simple_fits first columns) (simple_fits second columns) fits in
    let one = part-again columns first distinct both.0 in
    let two = part-again columns second distinct both.1 in
    record { fits = rw (one.fits, two.fits) refl; same = rw (one.same, two.same) refl }
