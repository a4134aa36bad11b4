use Rattle.ql_grammar.specs.ProgramGrammar.{ReadsProgram}
use Rattle.ql_grammar.proofs.Laws.{a_program}
use Rattle.ql_text_laws.proofs.Prefixes.{inside, prefix}
use Rattle.ql_text_laws.proofs.NoText.{token_ends, not_itself}
use Rattle.ql_text_laws.proofs.source_prefixes.sources_begin_before_faults.Goals as goal

pub returns-clause-inside : goal.returns-clause-inside
returns-clause-inside c = inside a_program

pub returns-clause-begins : goal.returns-clause-begins
returns-clause-begins c = prefix a_program

pub returns-clause-token : goal.returns-clause-token
returns-clause-token c = token_ends ReadsProgram c.one_answer.ensures.some c.one_answer.ensures.one

pub returns-clause-whole : goal.returns-clause-whole
returns-clause-whole c = not_itself ReadsProgram c.one_answer.ensures.one
