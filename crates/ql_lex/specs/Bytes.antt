use Rattle.std.specs.Prelude.{ℕ, Bool, ◌==◌, not}

-- the byte before and after a text
abbrev pub is_quote : ℕ → Bool
is_quote b = b == 34

-- what a comment may continue with: anything except a line feed
abbrev pub is_in_line : ℕ → Bool
is_in_line b = not (b == 10)
