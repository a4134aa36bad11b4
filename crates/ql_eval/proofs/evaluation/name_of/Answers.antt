use Rattle.ql_eval.proofs.CallValues.{named_value}
use Rattle.ql_eval.proofs.evaluation.name_of.Goals as goal

pub returns-in-Var : goal.returns-in-Var
returns-in-Var c = λ env. named_value env c.args.e.now c.in-Var.name c.in-Var.is
