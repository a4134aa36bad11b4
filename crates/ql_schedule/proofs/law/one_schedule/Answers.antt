use Rattle.ql_schedule.proofs.OneFile.{apart, one_fault, one_schedule, some_outcome_of}
use Rattle.ql_schedule.proofs.law.one_schedule.Goals as goal

pub returns-clause-one : goal.returns-clause-one
returns-clause-one c = one_schedule

pub returns-clause-fault : goal.returns-clause-fault
returns-clause-fault c = one_fault

pub returns-clause-apart : goal.returns-clause-apart
returns-clause-apart c = apart

pub returns-clause-some : goal.returns-clause-some
returns-clause-some c = some_outcome_of
