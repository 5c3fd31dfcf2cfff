-- Two reducers side by side: each sees every row.
use Rattle.std.specs.Prelude.{ℕ, ◌-◌, nat_lt, ℤ, if◌then◌else◌}
use Rattle.xf_model.specs.Group.{Reducer}

-- the fold of both
abbrev pub both_of : {Row X Y : Type 0} → Reducer Row X → Reducer Row Y → Reducer Row (X × Y)
both_of first second = record {
  initial = (first.initial, second.initial);
  step = λ pair row. (first.step pair.0 row, second.step pair.1 row);
}

abbrev pub both_less : {Row X Y : Type 0} → (X → Row → X) → (Y → Row → Y) → X × Y → Row → X × Y
both_less first second pair row = (first pair.0 row, second pair.1 row)

-- the fields of the first, then those of the second
abbrev pub both_field : {X Y : Type 0} → ℕ → (X → ℕ → ℤ) → (Y → ℕ → ℤ) → X × Y → ℕ → ℤ
both_field fields first second pair field = if nat_lt field fields then first pair.0 field else second pair.1 (field - fields)
