-- A source of a typed program has no fault.
use Rattle.std.proofs.Common.{◌≡◌, ℕ, List, [], Some, Err, arith, subst, ◌∙◌}
use Rattle.ql_grammar.specs.Limits as limits
use Rattle.ql_lang.specs.Programs.{Source, source_of}
use Rattle.ql_lex.specs.Tokens.{Lexes}
use Rattle.ql_lex.specs.declared.token.LexFault.{LexFault}
use Rattle.ql_parse.specs.Parsing.{IsProgramText, IsProgramFault}
use Rattle.ql_parse.specs.declared.fault.ParseFault.TheVariants.{Lex, Unexpected, Deep, Wide, NoMemory as NoParseMemory}
use Rattle.ql_typing.specs.Faults.{IsFirstOf, ReportsFirst}
use Rattle.ql_typing.specs.Programs.{program_faults}
use Rattle.ql_typing.specs.declared.fault.TypeFault.{TypeFault}
use Rattle.ql_typing.specs.declared.fault.TypeFault.TheVariants.{Unknown, Twice, Kind, TooMany, TxnClosure, Variables, TxnAtom, NoMemory as NoTypeMemory}
use Rattle.ql_commands.specs.Sources.{IsSourceFault, DeniesSource, source_fault_text}
use Rattle.ql_commands.specs.declared.source_fault.SourceFault.{SourceFault}
use Rattle.ql_commands.specs.declared.source_fault.SourceFault.TheVariants.{Parse, Typing}
use Rattle.ql_typing.proofs.SameSource.{same_faults}

no-member : (f : TypeFault) → IsFirstOf [] f → ⊥
no-member f first = let less = first.member.1 in omega (arith, less)

-- a first fault is that of a list that isn't empty, but for out of memory, which isn't reported
none-of : (faults : List TypeFault) (f : TypeFault) (text : List ℕ) → faults ≡ [] → ReportsFirst faults f → source_fault_text (Typing f) ≡ Some text → ⊥
unfolding ReportsFirst
none-of faults (Unknown at) text empty h reported = no-member (Unknown at) (subst (λ fs. IsFirstOf fs (Unknown at)) empty h)
none-of faults (Twice at) text empty h reported = no-member (Twice at) (subst (λ fs. IsFirstOf fs (Twice at)) empty h)
none-of faults (Kind at) text empty h reported = no-member (Kind at) (subst (λ fs. IsFirstOf fs (Kind at)) empty h)
none-of faults (TooMany at) text empty h reported = no-member (TooMany at) (subst (λ fs. IsFirstOf fs (TooMany at)) empty h)
none-of faults (TxnClosure at) text empty h reported = no-member (TxnClosure at) (subst (λ fs. IsFirstOf fs (TxnClosure at)) empty h)
none-of faults (Variables at) text empty h reported = no-member (Variables at) (subst (λ fs. IsFirstOf fs (Variables at)) empty h)
none-of faults (TxnAtom at) text empty h reported = no-member (TxnAtom at) (subst (λ fs. IsFirstOf fs (TxnAtom at)) empty h)
none-of faults NoTypeMemory text empty h reported = absurd (cc)

pub denies :
    (tree : (bytes : List ℕ) (s t : Source) → IsProgramText bytes s → IsProgramText bytes t → s ≡ t)
    (apart : (bytes : List ℕ) (s : Source) (f : limits.Fault) → IsProgramText bytes s → IsProgramFault bytes f → ⊥)
    (lexical : (bytes : List ℕ) (s : Source) (e : LexFault) → IsProgramText bytes s → Lexes 0 bytes (Err e) → ⊥)
    (bytes : List ℕ) (f : SourceFault) → IsSourceFault bytes f → DeniesSource bytes f
denies tree apart lexical bytes (Parse (Lex e)) h text reported source = lexical bytes (source_of source.0) e source.1.0 h
denies tree apart lexical bytes (Parse (Unexpected at)) h text reported source = apart bytes (source_of source.0) (limits.Unexpected at) source.1.0 h
denies tree apart lexical bytes (Parse (Deep at)) h text reported source = apart bytes (source_of source.0) (limits.Deep at) source.1.0 h
denies tree apart lexical bytes (Parse (Wide at)) h text reported source = apart bytes (source_of source.0) (limits.Wide at) source.1.0 h
denies tree apart lexical bytes (Parse NoParseMemory) h text reported source = absurd (cc)
denies tree apart lexical bytes (Typing f) h text reported source =
    let same = tree bytes (source_of h.0) (source_of source.0) h.1 source.1.0 in
    none-of (program_faults h.0) f text (same_faults h.0 source.0 same ∙ source.1.1) h.2 reported
