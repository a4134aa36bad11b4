use Rattle.std.proofs.Common.{Result}
use Rattle.ql_lang.specs.Programs.{Source, source_of}
use Rattle.ql_lang.specs.ProgramSpelling.{program_text}
use Rattle.ql_lang.specs.declared.program.Program.{Program}
use Rattle.ql_grammar.specs.ProgramGrammar.{ReadsProgram}
use Rattle.ql_parse.specs.Parsing.{IsProgramAnswer}
use Rattle.ql_parse.specs.declared.fault.ParseFault.{ParseFault}
use Rattle.ql_text_laws.specs.PrintedPrograms.{SourceFits, HasFewNodes, HasFewBrackets, IsSourceReadAs, unplaced_source}
use Rattle.ql_text_laws.proofs.ReadAs.{read_as}
use Rattle.ql_text_laws.proofs.ProgramPrinting.{source_grammar, source_text}
use Rattle.ql_text_laws.proofs.ReadSources.{source_read_fits, source_read_few}
use Rattle.ql_text_laws.proofs.SameText.{source_same}
use Rattle.ql_text_laws.proofs.printed_sources.source_printed_again.Goals as goal

answered : goal.After-one_program_answer → (p : Source) (r : Result Program ParseFault) → SourceFits p → HasFewNodes p → HasFewBrackets p → IsProgramAnswer (program_text p) r → IsSourceReadAs p r
answered c p r fits nodes brackets answer =
    let again = source_text p fits nodes brackets in
    let laws = c.one_program_answer.ensures in
    read_as ReadsProgram source_of unplaced_source (program_text p) p again.0 again.2
    (λ u q. laws.tree (program_text p) u again.0 q again.1)
    (λ f q. laws.apart (program_text p) again.0 f again.1 q)
    (λ e q. laws.no_lexical (program_text p) again.0 e again.1 q) r answer

pub returns-clause-places : goal.returns-clause-places
returns-clause-places c = source_same

pub returns-clause-grammar : goal.returns-clause-grammar
returns-clause-grammar c = source_grammar

pub returns-clause-fits : goal.returns-clause-fits
returns-clause-fits c = source_read_fits

pub returns-clause-few : goal.returns-clause-few
returns-clause-few c = source_read_few

pub returns-clause-text : goal.returns-clause-text
returns-clause-text c = source_text

pub returns-clause-answer : goal.returns-clause-answer
returns-clause-answer c = answered c

pub returns-clause-again : goal.returns-clause-again
returns-clause-again c = λ bytes p r text brackets answer. answered c p r (source_read_fits bytes p text) (source_read_few bytes p text) brackets answer
