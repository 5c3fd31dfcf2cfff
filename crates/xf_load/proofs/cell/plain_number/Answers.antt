-- A number in a column of numbers is the field's cell.
use Rattle.std.proofs.Common.{◌≡◌, ◌∙◌, ℤ, Ok, sym}
use Rattle.xf_base.specs.declared.cell.Cell.TheVariants.{Num}
use Rattle.xf_load.specs.Cell.{cell_of}
use Rattle.xf_load.proofs.CellFacts.{cell_of-fixed, cell_of-int}
use Rattle.xf_load.proofs.NumberFacts.{number-if_some}
use Rattle.xf_load.proofs.cell.plain_number.Goals as goal

pub returns-in-Int-clause-cell : goal.returns-in-Int-clause-cell
returns-in-Int-clause-cell c =
    number-if_some (λ (number : ℤ). cell_of c.args.column.now c.args.field.now ≡ Ok (Num number)) c.read_fixed.result c.ok.result c.ok.ensures.value
    (λ number is. cell_of-int c.args.column.now c.args.field.now number c.in-Int.is (sym c.read_fixed.ensures ∙ is))

pub returns-in-Fixed-clause-cell : goal.returns-in-Fixed-clause-cell
returns-in-Fixed-clause-cell c =
    number-if_some (λ (number : ℤ). cell_of c.args.column.now c.args.field.now ≡ Ok (Num number)) c.read_fixed-in-Fixed.result c.ok-in-Fixed.result c.ok-in-Fixed.ensures.value
    (λ number is. cell_of-fixed c.args.column.now c.args.field.now c.in-Fixed.decimals number c.in-Fixed.is (sym c.read_fixed-in-Fixed.ensures ∙ is))
