-- The kinds of keys and of their forms.
use Rattle.std.specs.Prelude.{Bool, true, false, ◌&&◌}
use Rattle.xf_base.specs.declared.key.Atom.{Atom}
use Rattle.xf_base.specs.declared.key.Atom.TheVariants as atom
use Rattle.xf_base.specs.declared.key.Key.{Key}
use Rattle.xf_base.specs.declared.key.Key.TheVariants as key
use Rattle.xf_base.specs.declared.form.AtomForm.{AtomForm}
use Rattle.xf_base.specs.declared.form.AtomForm.TheVariants as atom_form
use Rattle.xf_base.specs.declared.form.KeyForm.{KeyForm}
use Rattle.xf_base.specs.declared.form.KeyForm.TheVariants as key_form
use Rattle.xf_base.specs.declared.kind.AtomKind.{AtomKind}
use Rattle.xf_base.specs.declared.kind.AtomKind.TheVariants as atom_kind
use Rattle.xf_base.specs.declared.kind.KeyKind.{KeyKind}
use Rattle.xf_base.specs.declared.kind.KeyKind.TheVariants as key_kind

-- the kind of a part of a key
abbrev pub kind_of_atom : Atom → AtomKind
kind_of_atom (atom.Num number) = atom_kind.Num
kind_of_atom (atom.Text text) = atom_kind.Text

-- the kind of a key
abbrev pub kind_of_key : Key → KeyKind
kind_of_key (key.Num number) = key_kind.Num
kind_of_key (key.Text text) = key_kind.Text
kind_of_key (key.Pair first second) = key_kind.Pair (kind_of_atom first) (kind_of_atom second)

-- the kind of the parts of a form: decimals and dates are numbers
abbrev pub kind_of_atom_form : AtomForm → AtomKind
kind_of_atom_form (atom_form.Fixed decimals) = atom_kind.Num
kind_of_atom_form atom_form.Date = atom_kind.Num
kind_of_atom_form atom_form.Text = atom_kind.Text

-- a key that is one part is of that part's kind
abbrev pub kind_of_one : AtomKind → KeyKind
kind_of_one atom_kind.Num = key_kind.Num
kind_of_one atom_kind.Text = key_kind.Text

-- the kind of the keys of a form
abbrev pub kind_of_key_form : KeyForm → KeyKind
kind_of_key_form (key_form.One form) = kind_of_one (kind_of_atom_form form)
kind_of_key_form (key_form.Pair first second) = key_kind.Pair (kind_of_atom_form first) (kind_of_atom_form second)

-- whether two kinds are the same
abbrev pub is_same_atom_kind : AtomKind → AtomKind → Bool
is_same_atom_kind atom_kind.Num atom_kind.Num = true
is_same_atom_kind atom_kind.Num atom_kind.Text = false
is_same_atom_kind atom_kind.Text atom_kind.Num = false
is_same_atom_kind atom_kind.Text atom_kind.Text = true

abbrev pub is_same_kind : KeyKind → KeyKind → Bool
is_same_kind key_kind.Num key_kind.Num = true
is_same_kind key_kind.Num key_kind.Text = false
is_same_kind key_kind.Num (key_kind.Pair u v) = false
is_same_kind key_kind.Text key_kind.Num = false
is_same_kind key_kind.Text key_kind.Text = true
is_same_kind key_kind.Text (key_kind.Pair u v) = false
is_same_kind (key_kind.Pair x y) key_kind.Num = false
is_same_kind (key_kind.Pair x y) key_kind.Text = false
is_same_kind (key_kind.Pair x y) (key_kind.Pair u v) = is_same_atom_kind x u && is_same_atom_kind y v
