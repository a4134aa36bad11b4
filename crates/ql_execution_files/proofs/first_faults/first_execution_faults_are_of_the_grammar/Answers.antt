use Rattle.ql_execution_files.proofs.Breaking.{none_begins}
use Rattle.ql_execution_files.proofs.FaultLaws.{fault_outcome, first_fault, some}
use Rattle.ql_execution_files.proofs.first_faults.first_execution_faults_are_of_the_grammar.Goals as goal

pub returns-clause-fault : goal.returns-clause-fault
returns-clause-fault c = λ p file f. (first_fault p file f, fault_outcome p file f)

pub returns-clause-none : goal.returns-clause-none
returns-clause-none c = none_begins

pub returns-clause-some : goal.returns-clause-some
returns-clause-some c = some
