use Rattle.std.specs.Prelude.{◌≡◌, ℕ, suc, ◌<◌, ◌⊎◌, min}

-- a count rose in a call: it is greater after the call, or it is at its maximum, where every count stays
abbrev pub Rose : ℕ → ℕ → Type 0
Rose before after = (before < after) ⊎ (after ≡ 18446744073709551615)

-- a count increased by one, up to its maximum
abbrev pub next_count_of : ℕ → ℕ
next_count_of count = min (suc count) 18446744073709551615

-- a count that one more fault would raise
abbrev pub IsCountable : ℕ → Type 0
IsCountable count = count < 18446744073709551615
