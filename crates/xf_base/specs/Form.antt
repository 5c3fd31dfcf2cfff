-- How a key is written under a form, and which key a word names.
use Rattle.std.specs.Prelude.{ℕ, ℤ, ◌==◌, if◌then◌else◌, List, ◌∷◌, ◌++◌, Option, Some, None}
use Rattle.std.specs.Result.{result_ok}
use Rattle.std.specs.List.{list_any, before_first, after_first}
use Rattle.xf_base.specs.Fixed.{number_of, fixed_text}
use Rattle.xf_base.specs.Date.{date_of, day_text}
use Rattle.xf_base.specs.declared.key.Atom.{Atom}
use Rattle.xf_base.specs.declared.key.Atom.TheVariants as atom
use Rattle.xf_base.specs.declared.key.Key.{Key}
use Rattle.xf_base.specs.declared.key.Key.TheVariants as key
use Rattle.xf_base.specs.declared.form.AtomForm.{AtomForm}
use Rattle.xf_base.specs.declared.form.AtomForm.TheVariants.{Fixed, Date, Text}
use Rattle.xf_base.specs.declared.form.KeyForm.{KeyForm}
use Rattle.xf_base.specs.declared.form.KeyForm.TheVariants.{One, Pair}

-- a number under the form of a text is a whole number
abbrev pub number_text : AtomForm → ℤ → List ℕ
number_text (Fixed decimals) number = fixed_text number decimals
number_text Date number = day_text number
number_text Text number = fixed_text number 0

-- a text is its bytes under every form
abbrev pub atom_text : AtomForm → Atom → List ℕ
atom_text form (atom.Num number) = number_text form number
atom_text form (atom.Text text) = text

-- the forms of a key's parts: under a form of another shape each part is written as under that of a text
abbrev pub form_of_one : KeyForm → AtomForm
form_of_one (One form) = form
form_of_one (Pair first second) = Text

abbrev pub form_of_first : KeyForm → AtomForm
form_of_first (One form) = Text
form_of_first (Pair first second) = first

abbrev pub form_of_second : KeyForm → AtomForm
form_of_second (One form) = Text
form_of_second (Pair first second) = second

-- how a key is written; a pair with `|` between its parts
abbrev pub key_text : KeyForm → Key → List ℕ
key_text form (key.Num number) = number_text (form_of_one form) number
key_text form (key.Text text) = text
key_text form (key.Pair first second) = atom_text (form_of_first form) first ++ 124 ∷ atom_text (form_of_second form) second

-- the number that a word writes under a form, where it writes one
abbrev pub number_under : AtomForm → List ℕ → Option ℤ
number_under (Fixed decimals) word = result_ok (number_of word decimals)
number_under Date word = result_ok (date_of word)
number_under Text word = None

-- a word that writes no number is a text
abbrev pub number_or_text : Option ℤ → List ℕ → Atom
number_or_text (Some number) word = atom.Num number
number_or_text None word = atom.Text word

abbrev pub atom_of_word : AtomForm → List ℕ → Atom
atom_of_word form word = number_or_text (number_under form word) word

-- a part by itself as a key
abbrev pub key_of_atom : Atom → Key
key_of_atom (atom.Num number) = key.Num number
key_of_atom (atom.Text text) = key.Text text

-- the key that a word names: a pair is cut at its first `|`, and a word without one is a text
abbrev pub key_of_word : KeyForm → List ℕ → Key
key_of_word (One form) word = key_of_atom (atom_of_word form word)
key_of_word (Pair first second) word =
    if list_any (λ b. b == 124) word
    then key.Pair (atom_of_word first (before_first (λ b. b == 124) word)) (atom_of_word second (after_first (λ b. b == 124) word))
    else key.Text word
