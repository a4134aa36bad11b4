use Rattle.std.specs.Prelude.{ℕ, ◌-◌, length, min, List, Bool, nat_eq, String, Vec, string_bytes, slice_index_or, find, Option}
use Rattle.std.specs.Global.{Global}
use Rattle.std.specs.List.{list_any, position_or_len}
use Rattle.std.specs.Option.{option_map}
use Rattle.std.specs.Str.{bytes_eq}

-- byte strings in memory, each with a name
abbrev pub Files : Type 0
Files = List (String Global × Vec ℕ Global)

-- a file has this name
abbrev pub is_named : List ℕ → String Global × Vec ℕ Global → Bool
is_named name file = bytes_eq (string_bytes file.0) name

-- the bytes under a name, those of its first file
abbrev pub bytes_under : Files → List ℕ → Option (List ℕ)
bytes_under files name = option_map (λ file. file.1.items) (find (is_named name) files)

-- the index of the first file with a name, or the number of files
abbrev pub place_of : Files → List ℕ → ℕ
place_of files name = position_or_len (is_named name) files

-- how many faults a name has met: one count is kept for each file, and one for all missing names
abbrev pub count_under : Files → List ℕ → ℕ → List ℕ → ℕ
count_under files counts missing name = slice_index_or counts (place_of files name) missing

-- how many bytes a fetch returns from the offset `at` on: at most a piece, and at most `room`
abbrev pub bytes_given : ℕ → ℕ → ℕ → List ℕ → ℕ
bytes_given piece at room bytes = min (min piece room) (length bytes - at)

-- the call with this number is to fail
abbrev pub is_failing : List ℕ → ℕ → Bool
is_failing failing number = list_any (λ n. nat_eq n number) failing
