use Rattle.ql_classify.proofs.OneOutcome.{one_op_level, one_txn_level}
use Rattle.ql_classify.proofs.laws.least_levels_are_unique.Goals as goal

pub returns-clause-op : goal.returns-clause-op
returns-clause-op c = one_op_level

pub returns-clause-txn : goal.returns-clause-txn
returns-clause-txn c = one_txn_level
