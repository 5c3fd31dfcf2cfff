-- The order of keys.
use Rattle.std.specs.Prelude.{List, ℕ, FitsSigned, IsUtf8}
use Rattle.std.specs.declared.cmp.Ordering.{Ordering}
use Rattle.std.specs.declared.cmp.Ordering.TheVariants.{Less, Greater}
use Rattle.std.specs.Int.{w64}
use Rattle.std.specs.Ordering.{int_cmp, nat_cmp, ordering_then}
use Rattle.std.specs.Cmp.Lexicographic.{slice_cmp}
use Rattle.xf_base.specs.declared.key.Atom.{Atom}
use Rattle.xf_base.specs.declared.key.Atom.TheVariants as atom
use Rattle.xf_base.specs.declared.key.Key.{Key}
use Rattle.xf_base.specs.declared.key.Key.TheVariants as key

-- texts are ordered by their bytes
abbrev pub text_cmp : List ℕ → List ℕ → Ordering
text_cmp = slice_cmp nat_cmp

-- numbers by value and before texts, texts by bytes
abbrev pub atom_cmp : Atom → Atom → Ordering
atom_cmp (atom.Num x) (atom.Num y) = int_cmp x y
atom_cmp (atom.Num x) (atom.Text y) = Less
atom_cmp (atom.Text x) (atom.Num y) = Greater
atom_cmp (atom.Text x) (atom.Text y) = text_cmp x y

-- numbers before texts and texts before pairs; pairs by first part and then second
abbrev pub key_cmp : Key → Key → Ordering
key_cmp (key.Num x) (key.Num y) = int_cmp x y
key_cmp (key.Num x) (key.Text y) = Less
key_cmp (key.Num x) (key.Pair y v) = Less
key_cmp (key.Text x) (key.Num y) = Greater
key_cmp (key.Text x) (key.Text y) = text_cmp x y
key_cmp (key.Text x) (key.Pair y v) = Less
key_cmp (key.Pair x u) (key.Num y) = Greater
key_cmp (key.Pair x u) (key.Text y) = Greater
key_cmp (key.Pair x u) (key.Pair y v) = ordering_then (atom_cmp x y) (atom_cmp u v)

-- a number is an i64 and a text is UTF-8
abbrev pub IsPlainAtom : Atom → Type 0
IsPlainAtom (atom.Num number) = FitsSigned w64 number
IsPlainAtom (atom.Text text) = IsUtf8 text

-- so is each number and each text of a key
abbrev pub IsPlain : Key → Type 0
IsPlain (key.Num number) = FitsSigned w64 number
IsPlain (key.Text text) = IsUtf8 text
IsPlain (key.Pair first second) = IsPlainAtom first × IsPlainAtom second
