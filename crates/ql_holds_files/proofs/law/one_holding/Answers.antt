use Rattle.ql_holds_files.proofs.OneFile.{one, some}
use Rattle.ql_holds_files.proofs.law.one_holding.Goals as goal

pub returns-clause-one : goal.returns-clause-one
returns-clause-one c = one c.one_answer.ensures.tree

pub returns-clause-some : goal.returns-clause-some
returns-clause-some c = some
