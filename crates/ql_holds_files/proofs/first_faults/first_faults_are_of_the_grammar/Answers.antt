use Rattle.ql_holds_files.proofs.FaultLaws.{fault_outcome, first_fault}
use Rattle.ql_holds_files.proofs.Firsts.{none_begins}
use Rattle.ql_holds_files.proofs.first_faults.first_faults_are_of_the_grammar.Goals as goal

pub returns-clause-fault : goal.returns-clause-fault
returns-clause-fault c = λ file f. (first_fault file f, fault_outcome file f)

pub returns-clause-none : goal.returns-clause-none
returns-clause-none c = none_begins c.one_answer.ensures.tree
