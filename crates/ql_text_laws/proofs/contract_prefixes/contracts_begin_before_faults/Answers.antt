use Rattle.ql_grammar.specs.ContractGrammar.{ReadsContract}
use Rattle.ql_grammar.proofs.Laws.{a_contract}
use Rattle.ql_text_laws.proofs.Prefixes.{inside, prefix}
use Rattle.ql_text_laws.proofs.NoText.{token_ends, not_itself}
use Rattle.ql_text_laws.proofs.contract_prefixes.contracts_begin_before_faults.Goals as goal

pub returns-clause-inside : goal.returns-clause-inside
returns-clause-inside c = inside a_contract

pub returns-clause-begins : goal.returns-clause-begins
returns-clause-begins c = prefix a_contract

pub returns-clause-token : goal.returns-clause-token
returns-clause-token c = token_ends ReadsContract c.one_answer.ensures.some c.one_answer.ensures.one

pub returns-clause-whole : goal.returns-clause-whole
returns-clause-whole c = not_itself ReadsContract c.one_answer.ensures.one
