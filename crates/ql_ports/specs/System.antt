use Rattle.std.specs.Prelude.{ℕ, List, Option, None}

-- what the system's files and its standard output report of their contents: nothing
abbrev pub unreported : Option (List ℕ)
unreported = None
