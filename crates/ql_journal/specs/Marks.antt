-- Bytes with a mark for each that was written since the last good sync.
use Rattle.std.specs.Prelude.{ℕ, Bool, false, slice_index_or, List}
use Rattle.ql_journal.specs.Bytes.{DiskBytes}

-- whether the byte of an offset is marked
abbrev pub is_marked : List Bool → ℕ → Bool
is_marked marks k = slice_index_or marks k false

abbrev pub marked_bytes : List ℕ → List ℕ → List Bool → DiskBytes
marked_bytes content base marks = record { content = content; base = base; dirty = is_marked marks }
