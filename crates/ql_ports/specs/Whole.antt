use Rattle.std.specs.Prelude.{◌≡◌, ℕ, List, ◌++◌, length, drop}

-- a list is a prefix of another
abbrev pub IsPrefix : List ℕ → List ℕ → Type 0
IsPrefix prefix whole = prefix ++ drop (length prefix) whole ≡ whole
