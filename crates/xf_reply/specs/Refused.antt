-- What is written for a refusal.
use Rattle.std.specs.Prelude.{ℕ, List, ◌∷◌, ◌++◌, codes, decimal}
use Rattle.xf_base.specs.Word.{word_text}
use Rattle.xf_base.specs.declared.kind.AtomKind.{AtomKind}
use Rattle.xf_base.specs.declared.kind.AtomKind.TheVariants as atom
use Rattle.xf_base.specs.declared.kind.KeyKind.{KeyKind}
use Rattle.xf_base.specs.declared.kind.KeyKind.TheVariants as kind
use Rattle.xf_load.specs.declared.cell.CellRefusal.{CellRefusal}
use Rattle.xf_load.specs.declared.cell.CellRefusal.TheVariants as cell
use Rattle.xf_reply.specs.declared.refusal.Refusal.{Refusal}
use Rattle.xf_reply.specs.declared.refusal.Refusal.TheVariants as refusal

-- the kinds of keys
abbrev pub atom_kind_text : AtomKind → List ℕ
atom_kind_text atom.Num = codes "number"
atom_kind_text atom.Text = codes "text"

abbrev pub kind_text : KeyKind → List ℕ
kind_text kind.Num = codes "number"
kind_text kind.Text = codes "text"
kind_text (kind.Pair first second) = codes "pair(" ++ atom_kind_text first ++ 44 ∷ atom_kind_text second ++ codes ")"

-- why a field is no cell of its column
abbrev pub cell_refusal_text : CellRefusal → List ℕ
cell_refusal_text cell.NotUtf8 = codes "not utf8"
cell_refusal_text cell.Empty = codes "empty"
cell_refusal_text cell.NotNumber = codes "not a number"
cell_refusal_text cell.TooManyDecimals = codes "too many decimals"
cell_refusal_text cell.OutOfRange = codes "out of range"
cell_refusal_text cell.Form = codes "not a date"
cell_refusal_text cell.NoSuchDay = codes "no such day"
cell_refusal_text cell.TextTooLong = codes "text too long"
cell_refusal_text cell.TooManyTags = codes "too many tags"

-- three counts: how much there is, how much more comes, and how much there may be
abbrev pub counts_text : ℕ → ℕ → ℕ → List ℕ
counts_text have more limit = decimal have ++ 32 ∷ decimal more ++ 32 ∷ decimal limit

-- the number of a refusal
abbrev pub refusal_number : Refusal → ℕ
refusal_number (refusal.LineTooLong length) = 1
refusal_number (refusal.NotText place) = 2
refusal_number refusal.UnknownVerb = 3
refusal_number (refusal.BadWord number) = 4
refusal_number (refusal.TooDeep number) = 5
refusal_number (refusal.NoDimension name) = 6
refusal_number (refusal.NoGroup name) = 7
refusal_number (refusal.NoWhole name) = 8
refusal_number (refusal.WrongKind wanted given) = 9
refusal_number (refusal.NameTaken name) = 10
refusal_number (refusal.NoColumn name) = 11
refusal_number (refusal.WrongColumn name) = 12
refusal_number refusal.WrongRounding = 13
refusal_number (refusal.NoField number) = 14
refusal_number (refusal.Absent name) = 15
refusal_number (refusal.TooLong name limit) = 16
refusal_number refusal.NoHeader = 17
refusal_number (refusal.MissingColumn name) = 18
refusal_number (refusal.UnevenRecord number) = 19
refusal_number (refusal.BadCell number column why) = 20
refusal_number (refusal.WrongCells wanted given) = 21
refusal_number (refusal.TooManyRecords have more limit) = 22
refusal_number (refusal.TooMuchText have more limit) = 23
refusal_number (refusal.TooManyEntries have more limit) = 24
refusal_number (refusal.TooManyDimensions limit) = 25
refusal_number (refusal.TooManyGroups limit) = 26

-- its words
abbrev pub refusal_words : Refusal → List ℕ
refusal_words (refusal.LineTooLong length) = codes "line too long " ++ decimal length
refusal_words (refusal.NotText place) = codes "not text " ++ decimal place
refusal_words refusal.UnknownVerb = codes "unknown verb"
refusal_words (refusal.BadWord number) = codes "bad word " ++ decimal number
refusal_words (refusal.TooDeep number) = codes "nested too deep " ++ decimal number
refusal_words (refusal.NoDimension name) = codes "no dimension " ++ word_text name
refusal_words (refusal.NoGroup name) = codes "no group " ++ word_text name
refusal_words (refusal.NoWhole name) = codes "no whole " ++ word_text name
refusal_words (refusal.WrongKind wanted given) = codes "wrong kind " ++ kind_text wanted ++ 32 ∷ kind_text given
refusal_words (refusal.NameTaken name) = codes "name taken " ++ word_text name
refusal_words (refusal.NoColumn name) = codes "no column " ++ word_text name
refusal_words (refusal.WrongColumn name) = codes "wrong column " ++ word_text name
refusal_words refusal.WrongRounding = codes "wrong rounding"
refusal_words (refusal.NoField number) = codes "no field " ++ decimal number
refusal_words (refusal.Absent name) = codes "absent " ++ word_text name
refusal_words (refusal.TooLong name limit) = codes "too long " ++ word_text name ++ 32 ∷ decimal limit
refusal_words refusal.NoHeader = codes "no header"
refusal_words (refusal.MissingColumn name) = codes "missing column " ++ word_text name
refusal_words (refusal.UnevenRecord number) = codes "uneven record " ++ decimal number
refusal_words (refusal.BadCell number column why) = codes "bad cell " ++ decimal number ++ 32 ∷ word_text column ++ 32 ∷ cell_refusal_text why
refusal_words (refusal.WrongCells wanted given) = codes "wrong cells " ++ decimal wanted ++ 32 ∷ decimal given
refusal_words (refusal.TooManyRecords have more limit) = codes "too many records " ++ counts_text have more limit
refusal_words (refusal.TooMuchText have more limit) = codes "too much text " ++ counts_text have more limit
refusal_words (refusal.TooManyEntries have more limit) = codes "too many entries " ++ counts_text have more limit
refusal_words (refusal.TooManyDimensions limit) = codes "too many dimensions " ++ decimal limit
refusal_words (refusal.TooManyGroups limit) = codes "too many groups " ++ decimal limit
