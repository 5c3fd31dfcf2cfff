-- The cases of `cell_of`.
use Rattle.std.proofs.Common.{◌≡◌, ◌⊎◌, inl, inr, ℕ, Bool, true, false, cond, List, Some, None, Result, Ok, Err, refl, sym, ◌∙◌, ℤ}
use Rattle.std.specs.List.{list_all}
use Rattle.std.specs.Str.{IsUtf8, is_utf8}
use Rattle.std.proofs.lemmas.Bool.{false_from_ne_true}
use Rattle.std.proofs.lemmas.Str.{IsUtf8-from_is_utf8, is_utf8-from_IsUtf8}
use Rattle.xf_base.specs.Fixed.{is_blank, number_of}
use Rattle.xf_base.specs.declared.cell.Cell.{Cell}
use Rattle.xf_base.specs.declared.cell.Cell.TheVariants as cell
use Rattle.xf_base.specs.declared.column.ColumnKind.TheVariants as kind
use Rattle.xf_base.specs.declared.column.Column.{Column}
use Rattle.xf_load.specs.Fallible.{map_err}
use Rattle.xf_load.specs.Cell.{cell_of, cell_of_kind, number_cell}
use Rattle.xf_load.proofs.NumberFacts.{number_of-not_blank, number_of-text}
use Rattle.xf_load.specs.declared.cell.CellRefusal.{CellRefusal}
use Rattle.xf_load.specs.declared.cell.CellRefusal.TheVariants.{NotUtf8}
use Rattle.xf_load.specs.declared.cell.ReadCellFault.{ReadCellFault}
use Rattle.xf_load.specs.declared.cell.ReadCellFault.TheVariants.{Bad, OutOfMemory}

-- a field that is no text is refused
pub cell_of-bytes : (column : Column) (field : List ℕ) → (IsUtf8 field → ⊥) → cell_of column field ≡ Err NotUtf8
cell_of-bytes column field bad =
    let bytes : is_utf8 field ≡ false = false_from_ne_true (is_utf8 field) (λ e. bad (IsUtf8-from_is_utf8 field e)) in
    rw bytes refl

-- one of nothing but blanks gives the column's blank
pub cell_of-blank : (column : Column) (field : List ℕ) (blank : Cell) → IsUtf8 field → list_all is_blank field ≡ true → column.blank ≡ Some blank → cell_of column field ≡ Ok blank
cell_of-blank column field blank text blanks has =
    let utf8 = is_utf8-from_IsUtf8 field text in
    rw (utf8, blanks, has) refl

-- where the column has none, or something else stands in the field, it is read by the column's kind
pub cell_of-kind : (column : Column) (field : List ℕ) → IsUtf8 field → (column.blank ≡ None) ⊎ (list_all is_blank field ≡ false) → cell_of column field ≡ cell_of_kind column.kind field
cell_of-kind column field text (inr other) =
    let utf8 = is_utf8-from_IsUtf8 field text in
    rw (utf8, other) refl
cell_of-kind column field text (inl none) =
    let utf8 = is_utf8-from_IsUtf8 field text in
    rw (utf8, none) (either (list_all is_blank field) (cell_of_kind column.kind field))
  where
    either : {X : Type 0} (b : Bool) (x : X) → cond b x x ≡ x
    either true x = refl
    either false x = refl

-- a number is neither, so that a column of numbers is asked first
cell_of-number : (column : Column) (field : List ℕ) (decimals : ℕ) (number : ℤ) → cell_of_kind column.kind field ≡ number_cell field decimals → number_of field decimals ≡ Ok number → cell_of column field ≡ Ok (cell.Num number)
cell_of-number column field decimals number by_kind reads =
    cell_of-kind column field (number_of-text field decimals number reads) (inr (number_of-not_blank field decimals number reads)) ∙ by_kind ∙ rw reads refl

pub cell_of-int : (column : Column) (field : List ℕ) (number : ℤ) → column.kind ≡ kind.Int → number_of field 0 ≡ Ok number → cell_of column field ≡ Ok (cell.Num number)
cell_of-int column field number is reads = cell_of-number column field 0 number (rw is refl) reads

pub cell_of-fixed : (column : Column) (field : List ℕ) (decimals : ℕ) (number : ℤ) → column.kind ≡ kind.Fixed decimals → number_of field decimals ≡ Ok number → cell_of column field ≡ Ok (cell.Num number)
cell_of-fixed column field decimals number is reads = cell_of-number column field decimals number (rw is refl) reads

-- what an answer of `read_cell` tells of the field
abbrev pub Tells : Result Cell ReadCellFault → Result Cell CellRefusal → Type 0
Tells answer read = (answer ≡ Err OutOfMemory) ⊎ (answer ≡ map_err Bad read)

pub Tells-Ok : (cell : Cell) (read : Result Cell CellRefusal) → Tells (Ok cell) read → read ≡ Ok cell
Tells-Ok cell read (inl none) = cc none
Tells-Ok cell (Ok same) (inr told) = sym (cc told)
Tells-Ok cell (Err refusal) (inr told) = cc told

pub Tells-Bad : (why : CellRefusal) (read : Result Cell CellRefusal) → Tells (Err (Bad why)) read → read ≡ Err why
Tells-Bad why read (inl none) = cc none
Tells-Bad why (Ok cell) (inr told) = cc told
Tells-Bad why (Err refusal) (inr told) = sym (cc told)
