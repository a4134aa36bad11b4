use Rattle.std.specs.Prelude.{ℕ, ◌≡◌, ◌⊎◌, List, [], Ok, length}
use Rattle.ql_lex.specs.Tokens.{AreSpans, Lexes}
use Rattle.ql_lex.specs.declared.token.Token.{Token}

-- the tokens of a source, within it and in order; none where it has a fault
abbrev pub AreTokensOf : List ℕ → List Token → Type 0
AreTokensOf source tokens =
    (Lexes 0 source (Ok tokens) × AreSpans 0 (length source) tokens) ⊎ ((tokens ≡ []) × ((other : List Token) → Lexes 0 source (Ok other) → ⊥))
