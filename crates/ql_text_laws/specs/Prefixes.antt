use Rattle.std.specs.Prelude.{ℕ, ◌+◌, List, [], ◌∷◌, ◌++◌, take, drop}
use Rattle.ql_lex.specs.Starts.{StartsWith}
use Rattle.ql_lex.specs.declared.start.Start.TheVariants.{Lexeme}
use Rattle.ql_lex.specs.declared.token.TokenKind.{TokenKind}
use Rattle.ql_grammar.specs.Limits.{Fault, Unexpected, Deep, Wide}
use Rattle.ql_grammar.specs.Tokens.{Marked}
use Rattle.ql_grammar.specs.ContractGrammar.{ReadsContract}
use Rattle.ql_grammar.specs.ProgramGrammar.{ReadsProgram}
use Rattle.ql_text_laws.specs.Printed.{IsInGrammarAs}

-- the source offset of a fault
abbrev pub offset_of : Fault → ℕ
offset_of (Unexpected at) = at
offset_of (Deep at) = at
offset_of (Wide at) = at

-- some text of the grammar begins with these bytes
abbrev pub BeginsText : {A : Type 0} → (List Marked → List Marked → A → Type 0) → List ℕ → Type 0
BeginsText {A = A} Reads bytes = (more : List ℕ) × (a : A) × IsInGrammarAs Reads (bytes ++ more) a

abbrev pub BeginsContract : List ℕ → Type 0
BeginsContract = BeginsText ReadsContract

abbrev pub BeginsSource : List ℕ → Type 0
BeginsSource = BeginsText ReadsProgram

-- At this offset is a token, and with the bytes up to its end, and a line feed, no text of the grammar begins.
pub record EndsTexts {A : Type 0} (Reads : List Marked → List Marked → A → Type 0) (bytes : List ℕ) (at : ℕ) : Type 0 where
  pub what : TokenKind
  pub len : ℕ
  pub token : StartsWith (drop at bytes) (Lexeme what len)
  pub none : BeginsText Reads (take (at + len) bytes ++ 10 ∷ []) → ⊥

abbrev pub EndsContracts : List ℕ → ℕ → Type 0
EndsContracts = EndsTexts ReadsContract

abbrev pub EndsSources : List ℕ → ℕ → Type 0
EndsSources = EndsTexts ReadsProgram
