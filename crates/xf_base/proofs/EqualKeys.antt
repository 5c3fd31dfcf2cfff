-- Keys that are equal are one key.
use Rattle.std.proofs.Common.{◌≡◌, ℕ, ℤ, List, true, refl, ap, subst, ◌∙◌}
use Rattle.std.specs.declared.cmp.Ordering.{Ordering}
use Rattle.std.specs.declared.cmp.Ordering.TheVariants.{Less, Equal, Greater}
use Rattle.std.specs.Ordering.{int_cmp, ordering_then, is_eq}
use Rattle.std.specs.Bool.{Decides}
use Rattle.std.specs.Cmp.{signed_Decides, Equal-is, tied_itself}
use Rattle.std.specs.Cmp.Lexicographic.{texts_ties, bytes_decides, nat_list_cmp_total}
use Rattle.xf_base.specs.KeyOrder.{key_cmp_total}
use Rattle.xf_base.specs.Key.{text_cmp, atom_cmp, key_cmp}
use Rattle.xf_base.specs.declared.key.Atom.{Atom}
use Rattle.xf_base.specs.declared.key.Atom.TheVariants as atom
use Rattle.xf_base.specs.declared.key.Key.{Key}
use Rattle.xf_base.specs.declared.key.Key.TheVariants as key

-- texts that are equal are one text
pub text_cmp-equal : (x y : List ℕ) → text_cmp x y ≡ Equal → x ≡ y
text_cmp-equal x y e = (bytes_decides x y).0 (texts_ties x y ∙ ap is_eq e)

-- numbers that are equal are one number
pub int_cmp-equal : (x y : ℤ) → int_cmp x y ≡ Equal → x ≡ y
int_cmp-equal x y e = (signed_Decides x y).0 (ap is_eq e)

both_equal : (first second : Ordering) → ordering_then first second ≡ Equal → (first ≡ Equal) × (second ≡ Equal)
both_equal Less second e = cc
both_equal Equal second e = (refl, e)
both_equal Greater second e = cc

-- parts that are equal are one part
pub atom_cmp-equal : (x y : Atom) → atom_cmp x y ≡ Equal → x ≡ y
atom_cmp-equal (atom.Num x) (atom.Num y) e = ap atom.Num (int_cmp-equal x y e)
atom_cmp-equal (atom.Num x) (atom.Text y) e = cc
atom_cmp-equal (atom.Text x) (atom.Num y) e = cc
atom_cmp-equal (atom.Text x) (atom.Text y) e = ap atom.Text (text_cmp-equal x y e)

-- keys that are equal are one key
pub key_cmp-equal : (x y : Key) → key_cmp x y ≡ Equal → x ≡ y
key_cmp-equal (key.Num x) (key.Num y) e = ap key.Num (int_cmp-equal x y e)
key_cmp-equal (key.Num x) (key.Text y) e = cc
key_cmp-equal (key.Num x) (key.Pair y v) e = cc
key_cmp-equal (key.Text x) (key.Num y) e = cc
key_cmp-equal (key.Text x) (key.Text y) e = ap key.Text (text_cmp-equal x y e)
key_cmp-equal (key.Text x) (key.Pair y v) e = cc
key_cmp-equal (key.Pair x u) (key.Num y) e = cc
key_cmp-equal (key.Pair x u) (key.Text y) e = cc
key_cmp-equal (key.Pair x u) (key.Pair y v) e =
    let parts = both_equal (atom_cmp x y) (atom_cmp u v) e in
    let first = atom_cmp-equal x y parts.0 in
    let second = atom_cmp-equal u v parts.1 in
    cc

-- `==` on keys holds just of one key and itself
pub eq_by_key_cmp-same : (x y : Key) → Decides (is_eq (key_cmp x y)) (x ≡ y)
eq_by_key_cmp-same x y =
    (λ e. key_cmp-equal x y ((Equal-is (key_cmp x y)).0 e), λ e. subst (λ z. is_eq (key_cmp x z) ≡ true) e (ap is_eq (tied_itself key_cmp_total x)))

-- and `==` on texts
pub eq_by_text_cmp-same : (x y : List ℕ) → Decides (is_eq (text_cmp x y)) (x ≡ y)
eq_by_text_cmp-same x y =
    (λ e. text_cmp-equal x y ((Equal-is (text_cmp x y)).0 e), λ e. subst (λ z. is_eq (text_cmp x z) ≡ true) e (ap is_eq (tied_itself nat_list_cmp_total x)))
