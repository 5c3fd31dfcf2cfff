use Rattle.std.proofs.Common.{◌≡◌, map, take}
use Rattle.xf_base.specs.declared.key.Key.TheVariants as key
use Rattle.xf_access.proofs.stock_accessor.text_keys.Given as goal

abbrev pub invariant-loop-text : goal.invariant-loop-text
invariant-loop-text l = l.keys.items ≡ map key.Text (take l.text-index l.texts)
