use Rattle.std.specs.Prelude.{ℕ, ◌≤◌, List, length}
use Rattle.std.specs.List.{AllPass}
use Rattle.ql_base.specs.Bytes.{is_text_byte}

-- at most 64 bytes, each of which is allowed between quotes
pub record IsText (bytes : List ℕ) : Type 0 where
  pub short : length bytes ≤ 64
  pub plain : AllPass is_text_byte bytes
