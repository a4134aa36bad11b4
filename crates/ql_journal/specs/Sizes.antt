-- How long records are.
use Rattle.std.specs.Prelude.{ℕ, ◌+◌, ◌*◌}

-- how many bytes a record of this many ids has, with its gate
abbrev pub record_size : ℕ → ℕ
record_size count = 5 + 4 * count
