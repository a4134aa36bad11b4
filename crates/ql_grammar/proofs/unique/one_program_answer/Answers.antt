use Rattle.ql_grammar.proofs.Laws.{a_program}
use Rattle.ql_grammar.proofs.Uniqueness.{one_tree, one_fault, not_both}
use Rattle.ql_grammar.proofs.unique.one_program_answer.Goals as goal

pub returns-clause-tree : goal.returns-clause-tree
returns-clause-tree c = one_tree a_program

pub returns-clause-fault : goal.returns-clause-fault
returns-clause-fault c = one_fault a_program

pub returns-clause-apart : goal.returns-clause-apart
returns-clause-apart c = not_both a_program
