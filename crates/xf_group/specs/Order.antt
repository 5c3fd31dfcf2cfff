-- By which field the entries of a group are ranked.
use Rattle.std.specs.Prelude.{ℕ}
use Rattle.xf_group.specs.declared.order.GroupOrder.{GroupOrder}
use Rattle.xf_group.specs.declared.order.GroupOrder.TheVariants.{By, Natural}

abbrev pub order_field : GroupOrder → ℕ
order_field Natural = 0
order_field (By field) = field
