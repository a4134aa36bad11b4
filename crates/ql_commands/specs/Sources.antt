-- Which bytes are the source of a typed program, and what is reported of those that aren't.
use Rattle.std.specs.Prelude.{◌≡◌, ℕ, List, [], Option, None, Some, Err, codes}
use Rattle.std.specs.Option.{option_map}
use Rattle.ql_lang.specs.declared.program.Program.{Program}
use Rattle.ql_lang.specs.Programs.{source_of}
use Rattle.ql_lex.specs.declared.token.LexFault.{LexFault}
use Rattle.ql_lex.specs.declared.token.LexFault.TheVariants.{BadChar, LongWord, BadNumber, NoMemory as NoLexMemory}
use Rattle.ql_parse.specs.declared.fault.ParseFault.{ParseFault}
use Rattle.ql_parse.specs.declared.fault.ParseFault.TheVariants.{Lex, Unexpected, Deep, Wide, NoMemory as NoParseMemory}
use Rattle.ql_parse.specs.Parsing.{IsProgramText, IsProgramAnswer}
use Rattle.ql_reply.specs.Lines.{fault_line}
use Rattle.ql_typing.specs.declared.fault.TypeFault.{TypeFault}
use Rattle.ql_typing.specs.declared.fault.TypeFault.TheVariants.{Unknown, Twice, Kind, TooMany, TxnClosure, Variables, TxnAtom, NoMemory as NoTypeMemory}
use Rattle.ql_typing.specs.Faults.{ReportsFirst}
use Rattle.ql_typing.specs.Programs.{program_faults}
use Rattle.ql_commands.specs.declared.source_fault.SourceFault.{SourceFault}
use Rattle.ql_commands.specs.declared.source_fault.SourceFault.TheVariants.{Parse, Typing}

-- the bytes read as the program, and nothing is wrong in it
abbrev pub IsSourceOf : List ℕ → Program → Type 0
IsSourceOf bytes p = IsProgramText bytes (source_of p) × (program_faults p ≡ [])

-- the bytes are the source of a typed program
abbrev pub IsSource : List ℕ → Type 0
IsSource bytes = (p : Program) × IsSourceOf bytes p

-- the first fault of bytes that are none: of their syntax, and else of the typing of the program that they read as
abbrev pub IsSourceFault : List ℕ → SourceFault → Type 0
IsSourceFault bytes (Parse f) = IsProgramAnswer bytes (Err f)
IsSourceFault bytes (Typing f) = (p : Program) × IsProgramText bytes (source_of p) × ReportsFirst (program_faults p) f

-- the offset of a fault and the name of its rule, and none where memory ran out
abbrev pub lexical_fault : LexFault → Option (ℕ × List ℕ)
lexical_fault (BadChar at) = Some (at, codes "BadChar")
lexical_fault (LongWord at) = Some (at, codes "LongWord")
lexical_fault (BadNumber at) = Some (at, codes "BadNumber")
lexical_fault NoLexMemory = None

abbrev pub syntax_fault : ParseFault → Option (ℕ × List ℕ)
syntax_fault (Lex f) = lexical_fault f
syntax_fault (Unexpected at) = Some (at, codes "Unexpected")
syntax_fault (Deep at) = Some (at, codes "Deep")
syntax_fault (Wide at) = Some (at, codes "Wide")
syntax_fault NoParseMemory = None

abbrev pub typing_fault : TypeFault → Option (ℕ × List ℕ)
typing_fault (Unknown at) = Some (at, codes "Unknown")
typing_fault (Twice at) = Some (at, codes "Twice")
typing_fault (Kind at) = Some (at, codes "Kind")
typing_fault (TooMany at) = Some (at, codes "TooMany")
typing_fault (TxnClosure at) = Some (at, codes "TxnClosure")
typing_fault (Variables at) = Some (at, codes "Variables")
typing_fault (TxnAtom at) = Some (at, codes "TxnAtom")
typing_fault NoTypeMemory = None

abbrev pub reported_fault : SourceFault → Option (ℕ × List ℕ)
reported_fault (Parse f) = syntax_fault f
reported_fault (Typing f) = typing_fault f

-- the line that reports a source's first fault, and none where memory ran out
abbrev pub source_fault_text : SourceFault → Option (List ℕ)
source_fault_text f = option_map (λ reported. fault_line (codes "source") reported.0 reported.1) (reported_fault f)

-- a fault that is reported is none of a source
abbrev pub DeniesSource : List ℕ → SourceFault → Type 0
DeniesSource bytes f = (text : List ℕ) → source_fault_text f ≡ Some text → IsSource bytes → ⊥

-- what is said of bytes that are no source of a typed program
abbrev pub BadSourceSays : List ℕ → List ℕ → Type 0
BadSourceSays bytes text = (IsSource bytes → ⊥) × (f : SourceFault) × IsSourceFault bytes f × (source_fault_text f ≡ Some text)
