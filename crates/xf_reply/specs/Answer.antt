-- The lines of an answer.
use Rattle.std.specs.Prelude.{ℕ, List, [], ◌∷◌, ◌++◌, codes, decimal, flat_map}
use Rattle.std.specs.List.{zip}
use Rattle.xf_base.specs.Fixed.{fixed_text}
use Rattle.xf_base.specs.Form.{key_text, number_text}
use Rattle.xf_base.specs.Word.{word_text}
use Rattle.xf_base.specs.declared.cell.Cell.{Cell}
use Rattle.xf_base.specs.declared.cell.Cell.TheVariants as cell
use Rattle.xf_base.specs.declared.column.Column.{Column}
use Rattle.xf_base.specs.declared.column.ColumnKind.{ColumnKind}
use Rattle.xf_base.specs.declared.column.ColumnKind.TheVariants as kind
use Rattle.xf_base.specs.declared.form.AtomForm.{AtomForm}
use Rattle.xf_base.specs.declared.form.AtomForm.TheVariants.{Fixed, Date, Text}
use Rattle.xf_base.specs.declared.form.KeyForm.{KeyForm}
use Rattle.xf_base.specs.declared.key.Key.{Key}
use Rattle.xf_reply.specs.declared.answer.Field.{Field}

-- how the numbers of a column are written
abbrev pub form_of_kind : ColumnKind → AtomForm
form_of_kind kind.Int = Fixed 0
form_of_kind (kind.Fixed decimals) = Fixed decimals
form_of_kind kind.Date = Date
form_of_kind kind.Text = Text
form_of_kind (kind.Tags separator) = Text

-- what stands between the tags of a column
abbrev pub separator_of : ColumnKind → ℕ
separator_of kind.Int = 59
separator_of (kind.Fixed decimals) = 59
separator_of kind.Date = 59
separator_of kind.Text = 59
separator_of (kind.Tags separator) = separator

-- texts with one byte between each two
abbrev pub behind : ℕ → List (List ℕ) → List ℕ
behind separator texts = flat_map (λ text. separator ∷ text) texts

abbrev pub joined : ℕ → List (List ℕ) → List ℕ
joined separator [] = []
joined separator (text ∷ texts) = text ++ behind separator texts

-- a cell of a column
abbrev pub cell_text : ColumnKind → Cell → List ℕ
cell_text kind (cell.Num number) = number_text (form_of_kind kind) number
cell_text kind (cell.Text text) = text
cell_text kind (cell.Tags tags) = joined (separator_of kind) tags

-- a record: its place and the cells of all columns
abbrev pub cell_words : Column × Cell → List ℕ
cell_words at = 32 ∷ word_text (cell_text at.0.kind at.1)

abbrev pub record_line : List Column → ℕ → List Cell → List ℕ
record_line columns place cells = codes "  record " ++ decimal place ++ flat_map cell_words (zip columns cells) ++ 10 ∷ []

-- the fields of an entry or of a whole, each with its decimals behind a blank
abbrev pub field_word : Field → List ℕ
field_word field = 32 ∷ fixed_text field.number field.decimals

abbrev pub field_words : List Field → List ℕ
field_words fields = flat_map field_word fields

-- an entry of a group: its key and all its fields
abbrev pub entry_line : KeyForm → Key → List Field → List ℕ
entry_line form key fields = codes "  " ++ word_text (key_text form key) ++ field_words fields ++ 10 ∷ []

-- no entry
abbrev pub none_line : List ℕ
none_line = codes "  none\n"

-- a number
abbrev pub number_line : ℕ → List ℕ
number_line number = codes "  " ++ decimal number ++ 10 ∷ []

-- how often records came and went and filters were set
abbrev pub events_line : ℕ → ℕ → ℕ → List ℕ
events_line added removed filtered =
    codes "  added " ++ decimal added ++ codes " removed " ++ decimal removed ++ codes " filtered " ++ decimal filtered ++ 10 ∷ []
