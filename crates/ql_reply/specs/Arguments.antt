-- The arguments of a command line.
use Rattle.std.specs.Prelude.{◌≢◌, ◌≤◌, ◌==◌, ◌&&◌, ℕ, Bool, List, length, map, nat_le, not, slice_index}
use Rattle.std.specs.Global.{Global, Vec}
use Rattle.std.specs.declared.string.String.{String}
use Rattle.std.specs.String.{string_bytes}

-- the arguments' bytes
abbrev pub word_texts : Vec (String Global) → List (List ℕ)
word_texts words = map string_bytes words.items

-- the name of a file has 1 to 255 bytes, and doesn't begin with '-'
abbrev pub IsFileName : List ℕ → Type 0
IsFileName word = (1 ≤ length word) × (length word ≤ 255) × (slice_index word 0 ≢ 45)

-- the same as a test
abbrev pub is_file_name : List ℕ → Bool
is_file_name word = nat_le 1 (length word) && nat_le (length word) 255 && not (slice_index word 0 == 45)
