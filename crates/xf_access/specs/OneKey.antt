-- One key, as an accessor that is no array accessor gives it: the law of such an accessor cites this.
use Rattle.std.proofs.Common.{◌≡◌, false, [], ◌∷◌, refl, arith}
use Rattle.std.specs.List.Sorted.{IsStrictlySortedBy}
use Rattle.xf_base.specs.Kind.{kind_of_key}
use Rattle.xf_base.specs.declared.key.Key.{Key}
use Rattle.xf_base.specs.declared.kind.KeyKind.{KeyKind}
use Rattle.xf_access.specs.Keys.{AreKeysOf}

pub one_key : (kind : KeyKind) (own : Key) → kind_of_key own ≡ kind → AreKeysOf kind false (own ∷ [])
unfolding IsStrictlySortedBy
one_key kind own is = record { ascending = (tt, tt); of_kind = (is, tt); one = λ _. refl; few = omega arith }
