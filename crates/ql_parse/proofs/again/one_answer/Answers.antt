use Rattle.ql_grammar.proofs.Laws.{a_contract}
use Rattle.ql_parse.proofs.OneReading.{some_answer, one_tree, one_fault, not_both, no_lexical, no_lexical_fault}
use Rattle.ql_parse.proofs.again.one_answer.Goals as goal

pub returns-clause-tree : goal.returns-clause-tree
returns-clause-tree c = one_tree c.one_answer.ensures.one c.one_answer-2.ensures.tree

pub returns-clause-fault : goal.returns-clause-fault
returns-clause-fault c = one_fault c.one_answer.ensures.one c.one_answer-2.ensures.fault

pub returns-clause-apart : goal.returns-clause-apart
returns-clause-apart c = not_both c.one_answer.ensures.one c.one_answer-2.ensures.apart

pub returns-clause-no_lexical : goal.returns-clause-no_lexical
returns-clause-no_lexical c = no_lexical c.one_answer.ensures.one

pub returns-clause-no_lexical_fault : goal.returns-clause-no_lexical_fault
returns-clause-no_lexical_fault c = no_lexical_fault c.one_answer.ensures.one

pub returns-clause-some : goal.returns-clause-some
returns-clause-some c = some_answer a_contract c.one_answer.ensures.some
