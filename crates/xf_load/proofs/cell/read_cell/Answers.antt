-- Each return is a case of `cell_of`.
use Rattle.std.proofs.Common.{◌≡◌, ◌⊎◌, inl, inr, sym, ap, ◌∙◌, Ok, None, false, rules}
use Rattle.std.specs.List.{list_all}
use Rattle.xf_base.specs.Fixed.{is_blank}
use Rattle.xf_load.proofs.CellFacts.{cell_of-blank, cell_of-bytes, cell_of-kind}
use Rattle.xf_load.proofs.cell.read_cell.Goals as goal
use Rattle.xf_load.proofs.cell.read_cell.Goals.{in_default-2-via-in-None-1, in_default-2-via-in-Some-blank+else-is_all_blanks}

pub returns-in_default-from_utf8-clause-cell : goal.returns-in_default-from_utf8-clause-cell
returns-in_default-from_utf8-clause-cell c = inr (rw (cell_of-bytes c.args.column.now c.args.field.now c.in_default-from_utf8.ensures.cases.0))

pub returns-clause-cell : goal.returns-clause-cell
returns-clause-cell c =
    let blanks = sym c.is_all_blanks.ensures ∙ c.if-is_all_blanks.true in
    inr (rw (cell_of-blank c.args.column.now c.args.field.now c.in-Some-blank.blank c.in-Ok.ensures.cases.1 blanks c.in-Some-blank.is) (ap Ok c.in_ok-copy.ensures))

pub returns-2-clause-cell : goal.returns-2-clause-cell
returns-2-clause-cell c =
    let read : (c.args.column.now.blank ≡ None) ⊎ (list_all is_blank c.args.field.now ≡ false) = elim c.in_default-2.branch [ in_default-2-via-in-None-1 w ↦ inl (search rules) | in_default-2-via-in-Some-blank+else-is_all_blanks w ↦ inr (sym w.is_all_blanks.ensures ∙ w.if-is_all_blanks.false) ] in
    rw (cell_of-kind c.args.column.now c.args.field.now c.in-Ok.ensures.cases.1 read, ← c.in-Ok.ensures.cases.0) c.read_kind.ensures.cell

pub returns-2-clause-of_column : goal.returns-2-clause-of_column
returns-2-clause-of_column c = λ _. c.read_kind.ensures.of_kind
