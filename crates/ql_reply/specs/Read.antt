-- Files that were read whole.
use Rattle.std.specs.Prelude.{◌≡◌, ℕ, ◌≤◌, List, length, Option, IfSome}

-- a file was read whole: some bytes within a limit, which are those that the shelf holds where it reports them, and this is
-- so of them
pub record IsRead (limit : ℕ) (held : Option (List ℕ)) (P : List ℕ → Type 0) : Type 0 where
  pub bytes : List ℕ
  pub are_held : IfSome held (λ whole. bytes ≡ whole)
  pub short : length bytes ≤ limit
  pub is_so : P bytes
