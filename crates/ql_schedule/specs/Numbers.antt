-- Numbers of a schedule: digits without a leading zero, however many they are.
use Rattle.std.specs.Prelude.{ℕ, ◌≡◌, ◌<◌, ◌^◌, ◌⊎◌, List, decimal}
use Rattle.ql_base.specs.Numbers.{IsNumeral}

-- a number that 32 bits can't hold
abbrev pub IsTooGreat : List ℕ → Type 0
IsTooGreat field = IsNumeral field × ((m : ℕ) → m < 2 ^ 32 → field ≡ decimal m → ⊥)

-- a number of 32 bits is the one that is spelled; all greater ones are 2^32
abbrev pub IsNumber : List ℕ → ℕ → Type 0
IsNumber field n = ((n < 2 ^ 32) × (field ≡ decimal n)) ⊎ ((n ≡ 2 ^ 32) × IsTooGreat field)
