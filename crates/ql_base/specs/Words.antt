use Rattle.std.specs.Prelude.{◌≡◌, ◌≤◌, ◌-◌, ℕ, List, ◌++◌, length, take, replicate}

-- a name's bytes, padded with zeros to a row of 32
abbrev pub padded : List ℕ → List ℕ
padded bytes = bytes ++ replicate (32 - length bytes) 0

-- the first `len` bytes of a row of 32 are a name, and zeros follow
pub record IsRow (len : ℕ) (row : List ℕ) : Type 0 where
  pub some : 1 ≤ len
  pub few : len ≤ 32
  pub full : length row ≡ 32
  pub rest : row ≡ padded (take len row)
