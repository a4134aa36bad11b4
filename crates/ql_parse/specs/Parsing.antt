use Rattle.std.specs.Prelude.{ℕ, List, length, Result, Ok, Err}
use Rattle.ql_lang.specs.declared.contract.Contract.{Contract}
use Rattle.ql_lang.specs.declared.program.Program.{Program}
use Rattle.ql_lang.specs.Trees.{Sentence, sentence_of}
use Rattle.ql_lang.specs.Programs.{Source, source_of}
use Rattle.ql_lex.specs.Tokens.{Lexes}
use Rattle.ql_lex.specs.declared.token.LexFault.{LexFault}
use Rattle.ql_lex.specs.declared.token.LexFault.TheVariants.{BadChar, LongWord, BadNumber, NoMemory as NoLexMemory}
use Rattle.ql_lex.specs.declared.token.Token.{Token}
use Rattle.ql_grammar.specs.Limits as limits
use Rattle.ql_grammar.specs.Tokens.{Marked}
use Rattle.ql_grammar.specs.ContractGrammar.{ReadsContract}
use Rattle.ql_grammar.specs.ProgramGrammar.{ReadsProgram}
use Rattle.ql_grammar.specs.Texts.{FirstFault, IsTextOf, ParsesAs}
use Rattle.ql_parse.specs.Readers.{lexemes_of}
use Rattle.ql_parse.specs.declared.fault.ParseFault.{ParseFault}
use Rattle.ql_parse.specs.declared.fault.ParseFault.TheVariants.{Lex, Unexpected, Deep, Wide, NoMemory}
use Rattle.ql_parse.specs.declared.fault.Refusal.{Refusal}
use Rattle.ql_parse.specs.declared.fault.Refusal.TheVariants as refused

-- the bytes have tokens, and these read as the tree within the limits
pub record IsTextAs {A : Type 0} (Reads : List Marked → List Marked → A → Type 0) (bytes : List ℕ) (a : A) : Type 0 where
  pub tokens : List Token
  pub lexes : Lexes 0 bytes (Ok tokens)
  pub parses : ParsesAs Reads (lexemes_of bytes tokens) a

-- the bytes have tokens, and this is the first fault among them
pub record IsFaultAs {A : Type 0} (Reads : List Marked → List Marked → A → Type 0) (bytes : List ℕ) (f : limits.Fault) : Type 0 where
  pub tokens : List Token
  pub lexes : Lexes 0 bytes (Ok tokens)
  pub first : FirstFault (IsTextOf Reads) (lexemes_of bytes tokens) (length bytes) f

-- what a result says about the bytes; running out of memory says nothing
abbrev pub IsParsed : {A T : Type 0} → (List Marked → List Marked → A → Type 0) → (T → A) → List ℕ → Result T ParseFault → Type 0
IsParsed Reads tree_of bytes (Ok t) = IsTextAs Reads bytes (tree_of t)
IsParsed Reads tree_of bytes (Err (Lex f)) = Lexes 0 bytes (Err f)
IsParsed Reads tree_of bytes (Err (Unexpected at)) = IsFaultAs Reads bytes (limits.Unexpected at)
IsParsed Reads tree_of bytes (Err (Deep at)) = IsFaultAs Reads bytes (limits.Deep at)
IsParsed Reads tree_of bytes (Err (Wide at)) = IsFaultAs Reads bytes (limits.Wide at)
IsParsed Reads tree_of bytes (Err NoMemory) = Unit {0}

abbrev pub IsContractText : List ℕ → Sentence → Type 0
IsContractText = IsTextAs ReadsContract

abbrev pub IsContractFault : List ℕ → limits.Fault → Type 0
IsContractFault = IsFaultAs ReadsContract

abbrev pub IsContractAnswer : List ℕ → Result Contract ParseFault → Type 0
IsContractAnswer = IsParsed ReadsContract sentence_of

abbrev pub IsProgramText : List ℕ → Source → Type 0
IsProgramText = IsTextAs ReadsProgram

abbrev pub IsProgramFault : List ℕ → limits.Fault → Type 0
IsProgramFault = IsFaultAs ReadsProgram

abbrev pub IsProgramAnswer : List ℕ → Result Program ParseFault → Type 0
IsProgramAnswer = IsParsed ReadsProgram source_of

-- the same faults, as the public calls name them
abbrev pub of_lex : LexFault → ParseFault
of_lex (BadChar at) = Lex (BadChar at)
of_lex (LongWord at) = Lex (LongWord at)
of_lex (BadNumber at) = Lex (BadNumber at)
of_lex NoLexMemory = NoMemory

abbrev pub of_refusal : Refusal → ParseFault
of_refusal (refused.Unexpected at) = Unexpected at
of_refusal (refused.Deep at) = Deep at
of_refusal (refused.Wide at) = Wide at
of_refusal refused.NoMemory = NoMemory
