-- What the keys of a record are.
use Rattle.std.specs.Prelude.{◌≡◌, ◌≤◌, Bool, false, List, length}
use Rattle.std.specs.List.{AllByRecursion}
use Rattle.std.specs.List.Sorted.{IsStrictlySortedBy}
use Rattle.xf_base.specs.Key.{key_cmp}
use Rattle.xf_base.specs.Kind.{kind_of_key}
use Rattle.xf_base.specs.declared.key.Key.{Key}
use Rattle.xf_base.specs.declared.kind.KeyKind.{KeyKind}
use Rattle.xf_base.specs.declared.limits.TheConstants.Limits.{CELL_VALUES}

-- keys of one record: ascending and distinct, all of one kind, one of them where there are not to be many, and no
-- more than a cell has values
pub record AreKeysOf (kind : KeyKind) (many : Bool) (keys : List Key) : Type 0 where
  pub ascending : IsStrictlySortedBy key_cmp keys
  pub of_kind : AllByRecursion (λ key. kind_of_key key ≡ kind) keys
  pub one : many ≡ false → length keys ≡ 1
  pub few : length keys ≤ CELL_VALUES
