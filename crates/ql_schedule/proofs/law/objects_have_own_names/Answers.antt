use Rattle.ql_schedule.proofs.ObjectNames.{file_names, found_by_name}
use Rattle.ql_schedule.proofs.law.objects_have_own_names.Goals as goal

pub returns-clause-names : goal.returns-clause-names
returns-clause-names c = file_names

pub returns-clause-found : goal.returns-clause-found
returns-clause-found c = λ p file s o is less. found_by_name s.objects o (file_names p file s is) less
