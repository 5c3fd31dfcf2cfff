-- A stock rounding keeps the order of keys.
use Rattle.std.proofs.Common.{◌≡◌, true}
use Rattle.std.specs.Ordering.{is_le}
use Rattle.xf_base.specs.Key.{key_cmp, IsPlain}
use Rattle.xf_base.specs.Kind.{kind_of_key}
use Rattle.xf_base.specs.declared.key.Key.{Key}
use Rattle.xf_base.specs.declared.key.Key.TheVariants as key
use Rattle.xf_access.specs.Round.{rounded_key}
use Rattle.xf_access.specs.declared.stock_rounding.StockRounding.{StockRounding}
use Rattle.xf_access.specs.NumberLaws.{rounded_number-keeps}
use Rattle.xf_access.specs.TextLaws.{rounded_text-keeps}

-- numbers are rounded to numbers and texts to texts, pairs stay, and keys of two kinds compare by their kinds
pub rounded_key_keeps_order : (rounding : StockRounding) (a b : Key) → IsPlain a → IsPlain b → kind_of_key a ≡ kind_of_key b → is_le (key_cmp a b) ≡ true → is_le (key_cmp (rounded_key rounding a) (rounded_key rounding b)) ≡ true
rounded_key_keeps_order rounding (key.Num x) (key.Num y) plain_x plain_y same h = rounded_number-keeps rounding x y h
rounded_key_keeps_order rounding (key.Text x) (key.Text y) plain_x plain_y same h = rounded_text-keeps rounding x y plain_x plain_y h
rounded_key_keeps_order rounding (key.Pair x u) (key.Pair y v) plain_x plain_y same h = h
rounded_key_keeps_order rounding (key.Num x) (key.Text y) plain_x plain_y same h = h
rounded_key_keeps_order rounding (key.Num x) (key.Pair y v) plain_x plain_y same h = h
rounded_key_keeps_order rounding (key.Text x) (key.Num y) plain_x plain_y same h = h
rounded_key_keeps_order rounding (key.Text x) (key.Pair y v) plain_x plain_y same h = h
rounded_key_keeps_order rounding (key.Pair x u) (key.Num y) plain_x plain_y same h = h
rounded_key_keeps_order rounding (key.Pair x u) (key.Text y) plain_x plain_y same h = h
