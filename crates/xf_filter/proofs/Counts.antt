-- How large few digits are.
use Rattle.std.proofs.Common.{ℕ, ◌^◌, ◌<◌, ◌≤◌, arith, lit<}
use Rattle.std.proofs.Math.Nat.{pow-le-pow_right}

-- a number below the power of ten of at most 15 digits
pub few_digits-small : (i number : ℕ) → i ≤ 15 → number < 10 ^ i → number < 1000000000000000
few_digits-small i number few small = omega (arith, pow-le-pow_right {n = 10} (lit< tt) {i = i} {j = 15} few)
