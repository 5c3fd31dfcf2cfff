-- An accessor and a rounding that are not of the stock, with the proofs of their laws.
use Rattle.std.proofs.Common.{◌≡◌, ℕ, Bool, true, false, ℤ, pos, negsuc, ◌≤ℤ◌, min, List, [], ◌∷◌, length, Option, Some, None, IsSomeAnd, slice_get, refl, arith}
use Rattle.std.specs.Int.{int_div_euclid}
use Rattle.std.specs.Ordering.{is_le}
use Rattle.std.proofs.lemmas.Int.{ints}
use Rattle.xf_base.specs.Key.{key_cmp}
use Rattle.xf_base.specs.Kind.{kind_of_atom}
use Rattle.xf_base.specs.Schema.{IsRowOf}
use Rattle.xf_base.specs.declared.cell.Cell.{Cell}
use Rattle.xf_base.specs.declared.cell.Cell.TheVariants as cell
use Rattle.xf_base.specs.declared.column.Column.{Column}
use Rattle.xf_base.specs.declared.form.AtomForm.TheVariants as form
use Rattle.xf_base.specs.declared.key.Key.{Key}
use Rattle.xf_base.specs.declared.key.Key.TheVariants as key
use Rattle.xf_base.specs.declared.kind.AtomKind.TheVariants as atom_kind
use Rattle.xf_base.specs.declared.kind.KeyKind.TheVariants as key_kind
use Rattle.xf_base.specs.declared.limits.TheConstants.Limits.{CELL_BYTES}
use Rattle.xf_access.specs.Keys.{AreKeysOf}
use Rattle.xf_access.specs.OneKey.{one_key}
use Rattle.xf_access.specs.NumberLaws.{le_from, le_to}
use Rattle.xf_access.specs.Stock.{kind_at, is_form_of, atom_of_cell}
use Rattle.xf_access.specs.StockLaws.{part_of_column, cell_at}

-- how many bytes a text has, up to what a cell may have
abbrev pub text_length : Option Cell → List Key
text_length (Some (cell.Text text)) = key.Num (pos (min (length text) CELL_BYTES)) ∷ []
text_length (Some (cell.Num number)) = []
text_length (Some (cell.Tags tags)) = []
text_length None = []

-- a column of texts
abbrev pub has_text : List Column → ℕ → Bool
has_text columns place = is_form_of form.Text (kind_at columns place)

text_length-keys : (value : Option Cell) → IsSomeAnd (atom_of_cell value) (λ own. kind_of_atom own ≡ atom_kind.Text) → AreKeysOf key_kind.Num false (text_length value)
text_length-keys (Some (cell.Text text)) is = one_key _ _ refl
text_length-keys (Some (cell.Num number)) is = absurd cc
text_length-keys (Some (cell.Tags tags)) is = absurd is
text_length-keys None is = absurd is

pub text_length-lawful : (place : ℕ) (columns : List Column) (row : List Cell) → has_text columns place ≡ true → IsRowOf columns row → AreKeysOf key_kind.Num false (text_length (slice_get row place))
text_length-lawful place columns row fits is =
    text_length-keys (slice_get row place) (part_of_column form.Text (slice_get columns place) (slice_get row place) (cell_at columns row place is) fits)

-- half of a number, rounded down
abbrev pub halved : Key → Key
halved (key.Num number) = key.Num (int_div_euclid number (pos 2))
halved (key.Text text) = key.Text text
halved (key.Pair first second) = key.Pair first second

half-le : (x y : ℤ) → x ≤ℤ y → int_div_euclid x (pos 2) ≤ℤ int_div_euclid y (pos 2)
half-le (pos a) (pos b) h = omega (arith, ints)
half-le (pos a) (negsuc b) h = absurd (omega (arith, ints))
half-le (negsuc a) (pos b) h = omega (arith, ints)
half-le (negsuc a) (negsuc b) h = omega (arith, ints)

pub halved-keeps_order : (a b : Key) → is_le (key_cmp a b) ≡ true → is_le (key_cmp (halved a) (halved b)) ≡ true
halved-keeps_order (key.Num x) (key.Num y) h = le_to (int_div_euclid x (pos 2)) (int_div_euclid y (pos 2)) (half-le x y (le_from x y h))
halved-keeps_order (key.Text x) (key.Text y) h = h
halved-keeps_order (key.Pair x u) (key.Pair y v) h = h
halved-keeps_order (key.Num x) (key.Text y) h = h
halved-keeps_order (key.Num x) (key.Pair y v) h = h
halved-keeps_order (key.Text x) (key.Num y) h = h
halved-keeps_order (key.Text x) (key.Pair y v) h = h
halved-keeps_order (key.Pair x u) (key.Num y) h = h
halved-keeps_order (key.Pair x u) (key.Text y) h = h
