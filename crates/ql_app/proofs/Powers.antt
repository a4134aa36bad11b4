-- powers that aren't great
use Rattle.std.proofs.Common.{ℕ, ◌≤◌, ◌<◌, ◌^◌, arith}
use Rattle.std.proofs.Math.Nat.{pow-le-pow_left, pow-le-pow_right}

-- up to five factors of up to 4,000
pub power_small : (n k : ℕ) → n ≤ 4000 → k ≤ 5 → n ^ k < 2 ^ 64
power_small n k small few =
    let less : n ^ k ≤ 4000 ^ k = pow-le-pow_left small k in
    let most : 4000 ^ k ≤ 4000 ^ 5 = pow-le-pow_right (omega arith) few in
    omega (arith, less, most)
