use Rattle.ql_lang.proofs.OperandLaws.{operands-arguments}
use Rattle.ql_lang.proofs.expression.Exprs.items.Goals as goal

pub returns-clause-operands : goal.returns-clause-operands
returns-clause-operands c = rw c.as_slice.ensures.value (operands-arguments c.args.self.now)
