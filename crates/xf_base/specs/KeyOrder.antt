-- Proofs that the orders of `Key.antt` are total, which the comparisons of `Atom` and `Key` cite.
use Rattle.std.proofs.Common.{◌≡◌, ℕ, ℤ, pos, List, [], refl, subst}
use Rattle.std.specs.declared.cmp.Ordering.{Ordering}
use Rattle.std.specs.declared.cmp.Ordering.TheVariants.{Less, Equal, Greater}
use Rattle.std.specs.Ordering.{int_cmp, nat_cmp, ordering_then, on, then_cmp}
use Rattle.std.specs.Cmp.{IsTotalOrder, on_total, then_total, nat_cmp_total, int_cmp_total}
use Rattle.std.specs.Cmp.Lexicographic.{nat_list_cmp_total}
use Rattle.xf_base.specs.Key.{text_cmp, atom_cmp, key_cmp}
use Rattle.xf_base.specs.declared.key.Atom.{Atom}
use Rattle.xf_base.specs.declared.key.Atom.TheVariants as atom
use Rattle.xf_base.specs.declared.key.Key.{Key}
use Rattle.xf_base.specs.declared.key.Key.TheVariants as key

then_Equal : (first : Ordering) → ordering_then first Equal ≡ first
then_Equal Less = refl
then_Equal Equal = refl
then_Equal Greater = refl

-- ---- parts of keys

abbrev atom_rank : Atom → ℕ
atom_rank (atom.Num x) = 0
atom_rank (atom.Text x) = 1

abbrev atom_number : Atom → ℤ
atom_number (atom.Num x) = x
atom_number (atom.Text x) = pos 0

abbrev atom_text : Atom → List ℕ
atom_text (atom.Num x) = []
atom_text (atom.Text x) = x

-- the order, as one of the kind, then one of the number, and then one of the text
abbrev atom_by_parts : Atom → Atom → Ordering
atom_by_parts = then_cmp (on atom_rank nat_cmp) (then_cmp (on atom_number int_cmp) (on atom_text text_cmp))

atom_by_parts_is : (x y : Atom) → atom_by_parts x y ≡ atom_cmp x y
atom_by_parts_is (atom.Num x) (atom.Num y) = then_Equal (int_cmp x y)
atom_by_parts_is (atom.Num x) (atom.Text y) = refl
atom_by_parts_is (atom.Text x) (atom.Num y) = refl
atom_by_parts_is (atom.Text x) (atom.Text y) = refl

-- the order of the parts of keys is total
pub atom_cmp_total : IsTotalOrder atom_cmp
atom_cmp_total =
    subst IsTotalOrder (λ i x y. atom_by_parts_is x y i) (then_total (on_total atom_rank nat_cmp_total) (then_total (on_total atom_number int_cmp_total) (on_total atom_text nat_list_cmp_total)))

-- ---- keys

abbrev key_rank : Key → ℕ
key_rank (key.Num x) = 0
key_rank (key.Text x) = 1
key_rank (key.Pair x u) = 2

abbrev key_number : Key → ℤ
key_number (key.Num x) = x
key_number (key.Text x) = pos 0
key_number (key.Pair x u) = pos 0

abbrev key_text : Key → List ℕ
key_text (key.Num x) = []
key_text (key.Text x) = x
key_text (key.Pair x u) = []

abbrev key_first : Key → Atom
key_first (key.Num x) = atom.Num (pos 0)
key_first (key.Text x) = atom.Num (pos 0)
key_first (key.Pair x u) = x

abbrev key_second : Key → Atom
key_second (key.Num x) = atom.Num (pos 0)
key_second (key.Text x) = atom.Num (pos 0)
key_second (key.Pair x u) = u

-- the order, part by part
abbrev key_by_parts : Key → Key → Ordering
key_by_parts =
    then_cmp (on key_rank nat_cmp) (then_cmp (on key_number int_cmp) (then_cmp (on key_text text_cmp) (then_cmp (on key_first atom_cmp) (on key_second atom_cmp))))

key_by_parts_is : (x y : Key) → key_by_parts x y ≡ key_cmp x y
key_by_parts_is (key.Num x) (key.Num y) = then_Equal (int_cmp x y)
key_by_parts_is (key.Num x) (key.Text y) = refl
key_by_parts_is (key.Num x) (key.Pair y v) = refl
key_by_parts_is (key.Text x) (key.Num y) = refl
key_by_parts_is (key.Text x) (key.Text y) = then_Equal (text_cmp x y)
key_by_parts_is (key.Text x) (key.Pair y v) = refl
key_by_parts_is (key.Pair x u) (key.Num y) = refl
key_by_parts_is (key.Pair x u) (key.Text y) = refl
key_by_parts_is (key.Pair x u) (key.Pair y v) = refl

-- the order of keys is total
pub key_cmp_total : IsTotalOrder key_cmp
key_cmp_total =
    subst IsTotalOrder (λ i x y. key_by_parts_is x y i) (then_total (on_total key_rank nat_cmp_total) (then_total (on_total key_number int_cmp_total) (then_total (on_total key_text nat_list_cmp_total) (then_total (on_total key_first atom_cmp_total) (on_total key_second atom_cmp_total)))))
