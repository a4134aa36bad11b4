-- A list of truth values as bits in words of 64.
use Rattle.std.specs.Prelude.{◌≡◌, ℕ, ◌+◌, ◌/◌, ◌%◌, ◌≤◌, Bool, false, nat_eq, slice_index, List, length, map}
use Rattle.std.specs.Int.{bit_at}
use Rattle.std.specs.List.{range_with_len}

-- the bit at the index k
unfoldable pub bit : List ℕ → ℕ → Bool
bit words k = nat_eq (bit_at (slice_index words (k / 64)) (k % 64)) 1

-- the first bits
unfoldable pub truths : List ℕ → ℕ → List Bool
truths words count = map (bit words) (range_with_len 0 count)

-- there are words for `count` bits and one more, and no bit is set after them
abbrev pub ArePacked : List ℕ → ℕ → Type 0
ArePacked words count = (length words ≡ count / 64 + 1) × ((k : ℕ) → count ≤ k → bit words k ≡ false)
