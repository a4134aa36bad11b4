-- An answer for bytes that are a tree's text.
use Rattle.std.proofs.Common.{◌≡◌, ℕ, List, Result, Ok, Err, refl, ap, ◌∙◌}
use Rattle.ql_lex.specs.Tokens.{Lexes}
use Rattle.ql_lex.specs.declared.token.LexFault.{LexFault}
use Rattle.ql_grammar.specs.Limits as limits
use Rattle.ql_grammar.specs.Tokens.{Marked}
use Rattle.ql_parse.specs.Parsing.{IsParsed, IsFaultAs, IsTextAs}
use Rattle.ql_parse.specs.declared.fault.ParseFault.{ParseFault}
use Rattle.ql_parse.specs.declared.fault.ParseFault.TheVariants.{Lex, Unexpected, Deep, Wide, NoMemory}
use Rattle.ql_text_laws.specs.Printed.{IsTreeAgain}

-- it is this tree, or out of memory
module _ {A T : Type 0} (Reads : List Marked → List Marked → A → Type 0) (tree_of : T → A) (bare : A → A) where
  pub read_as : (bytes : List ℕ) (s t : A) → bare t ≡ bare s → ((u : A) → IsTextAs Reads bytes u → u ≡ t) → ((f : limits.Fault) → IsFaultAs Reads bytes f → ⊥) → ((e : LexFault) → Lexes 0 bytes (Err e) → ⊥) → (r : Result T ParseFault) → IsParsed Reads tree_of bytes r → IsTreeAgain tree_of bare s r
  read_as bytes s t same only no_fault no_lex (Ok c) answer = ap bare (only (tree_of c) answer) ∙ same
  read_as bytes s t same only no_fault no_lex (Err (Lex e)) answer = absurd (no_lex e answer)
  read_as bytes s t same only no_fault no_lex (Err (Unexpected at)) answer = absurd (no_fault (limits.Unexpected at) answer)
  read_as bytes s t same only no_fault no_lex (Err (Deep at)) answer = absurd (no_fault (limits.Deep at) answer)
  read_as bytes s t same only no_fault no_lex (Err (Wide at)) answer = absurd (no_fault (limits.Wide at) answer)
  read_as bytes s t same only no_fault no_lex (Err NoMemory) answer = refl
