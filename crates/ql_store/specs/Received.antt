-- What a replica received.
use Rattle.std.specs.Prelude.{◌≤◌, ℕ, List}
use Rattle.ql_holder.specs.Closed.{Has}

-- one of the first effects, and received
abbrev pub IsReceivedOf : List ℕ → ℕ → ℕ → Type 0
IsReceivedOf received count a = (1 ≤ a) × (a ≤ count) × Has received a
