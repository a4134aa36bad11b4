use Rattle.std.specs.Prelude.{◌≡◌, ℕ, ◌≤◌, List, ◌++◌, length, take, Option, Some, None}

-- what a sink reports after more bytes were appended, if it reports anything
abbrev pub appended : Option (List ℕ) → List ℕ → Option (List ℕ)
appended None bytes = None
appended (Some was) bytes = Some (was ++ bytes)

-- a prefix of the bytes was appended, and no more
abbrev pub AppendsPrefix : Option (List ℕ) → Option (List ℕ) → List ℕ → Type 0
AppendsPrefix before after bytes =
    (count : ℕ) × (count ≤ length bytes) × (after ≡ appended before (take count bytes))
