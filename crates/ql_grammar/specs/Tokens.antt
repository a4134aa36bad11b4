use Rattle.std.specs.Prelude.{ℕ, List, [], ◌∷◌, slice_range}
use Rattle.ql_lex.specs.declared.token.TokenKind.{TokenKind}
use Rattle.ql_lex.specs.declared.token.TokenKind.TheVariants.{Name, Int, Text, Mark, Keyword}
use Rattle.ql_lex.specs.declared.token.Token.{Token}
use Rattle.ql_grammar.specs.declared.terminal.Terminal.{Terminal}
use Rattle.ql_grammar.specs.declared.terminal.Terminal.TheVariants.{NameToken, IntToken, TextToken}
use Rattle.ql_grammar.specs.declared.role.Role.{Role}
use Rattle.ql_grammar.specs.Terminals.{keyword, mark}

-- a token as the grammar sees it: its terminal, its bytes and its source offset
pub record Lexeme : Type 0 where
  pub what : Terminal
  pub text : List ℕ
  pub at : ℕ

unfoldable pub terminal_of : TokenKind → List ℕ → Terminal
terminal_of Name text = NameToken
terminal_of Int text = IntToken
terminal_of Text text = TextToken
terminal_of Mark text = mark text
terminal_of Keyword text = keyword text

-- a token of the source `bytes`
abbrev pub lexeme_of : List ℕ → Token → Lexeme
lexeme_of bytes t =
    let text = slice_range bytes t.from t.to in
    record { what = terminal_of t.what text; text = text; at = t.from }

-- a token in its role
pub record Marked : Type 0 where
  pub lexeme : Lexeme
  pub role : Role

abbrev pub marked : Role → Terminal → List ℕ → ℕ → Marked
marked role what text at = record { lexeme = record { what = what; text = text; at = at }; role = role }

abbrev pub lexemes : List Marked → List Lexeme
lexemes [] = []
lexemes (m ∷ ms) = m.lexeme ∷ lexemes ms
