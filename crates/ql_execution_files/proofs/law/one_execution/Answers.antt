use Rattle.ql_execution_files.proofs.Files.{apart, one_execution, one_fault, some}
use Rattle.ql_execution_files.proofs.law.one_execution.Goals as goal

pub returns-clause-one : goal.returns-clause-one
returns-clause-one c = one_execution

pub returns-clause-fault : goal.returns-clause-fault
returns-clause-fault c = one_fault

pub returns-clause-apart : goal.returns-clause-apart
returns-clause-apart c = apart

pub returns-clause-some : goal.returns-clause-some
returns-clause-some c = some
