-- How many binary digits a number has.
use Rattle.std.specs.Prelude.{ℕ, ◌^◌, nat_le, count_by}
use Rattle.std.specs.List.{range_with_len}

-- as many as powers of two are not above it, for a number below 2 ^ 64
abbrev pub digits : ℕ → ℕ
digits number = count_by (λ digit. nat_le (2 ^ digit) number) (range_with_len 0 64)
