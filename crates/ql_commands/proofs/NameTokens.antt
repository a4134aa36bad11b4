-- The tokens of a text that are names are names of the language.
use Rattle.std.proofs.Common.{◌≡◌, ℕ, List, Ok, take, refl}
use Rattle.std.specs.List.{AllByRecursion}
use Rattle.ql_base.specs.Names.{IsName}
use Rattle.ql_lex.specs.Starts.{StartsWith}
use Rattle.ql_lex.specs.Tokens.{Lexes}
use Rattle.ql_lex.specs.declared.start.Start.TheVariants.{Lexeme}
use Rattle.ql_lex.specs.declared.token.Token.{Token}
use Rattle.ql_lex.specs.declared.token.TokenKind.{TokenKind}
use Rattle.ql_lex.specs.declared.token.TokenKind.TheVariants.{Name as NameKind, Int, Text, Mark, Keyword}
use Rattle.ql_grammar.specs.declared.terminal.Terminal.TheVariants.{NameToken}
use Rattle.ql_grammar.specs.Terminals.{keyword, mark, number}
use Rattle.ql_grammar.specs.Tokens.{Lexeme as ALexeme, terminal_of}
use Rattle.ql_parse.specs.Readers.{lexemes_of}
use Rattle.ql_parse.proofs.Lexemes.{keyword_other, lexes_each, mark_other, name_taken, other_than}

-- the names among tokens are names

abbrev pub IsNamed : ALexeme → Type 0
IsNamed l = l.what ≡ NameToken → IsName l.text

abbrev pub AreNamed : List ALexeme → Type 0
AreNamed ls = AllByRecursion (λ l. IsNamed l) ls

one_named : {text : List ℕ} (what : TokenKind) (n : ℕ) → StartsWith text (Lexeme what n) → terminal_of what (take n text) ≡ NameToken → IsName (take n text)
unfolding terminal_of number
one_named NameKind n front is = name_taken front
one_named Int n front is = cc
one_named Text n front is = cc
one_named {text} Mark n front is = absurd (other_than (mark (take n text)) NameToken (mark_other (take n text)) refl is)
one_named {text} Keyword n front is = absurd (other_than (keyword (take n text)) NameToken (keyword_other (take n text)) refl is)

pub lexes_named : {text : List ℕ} {ts : List Token} (bytes : List ℕ) → text ≡ bytes → Lexes 0 text (Ok ts) → AreNamed (lexemes_of bytes ts)
lexes_named bytes is lexes = lexes_each (λ l. IsNamed l) (λ at text what n front. one_named {text = text} what n front) bytes is lexes
