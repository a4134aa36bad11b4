use Rattle.ql_lex.proofs.OneLexing.{one, some}
use Rattle.ql_lex.proofs.unique.one_answer.Goals as goal

pub returns-clause-some : goal.returns-clause-some
returns-clause-some c = some

pub returns-clause-one : goal.returns-clause-one
returns-clause-one c = λ text r s p q. one p s q
