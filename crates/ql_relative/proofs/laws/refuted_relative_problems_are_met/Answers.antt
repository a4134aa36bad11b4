use Rattle.ql_relative.proofs.Carried.{op_carried, txn_carried}
use Rattle.ql_relative.proofs.Refuted.{op_relative-sound, txn_relative-sound}
use Rattle.ql_relative.proofs.laws.refuted_relative_problems_are_met.Goals as goal

pub returns-clause-op : goal.returns-clause-op
returns-clause-op c types levels o f contract none = op_carried types levels o f (op_relative-sound types levels o f contract none)

pub returns-clause-txn : goal.returns-clause-txn
returns-clause-txn c types levels uses d f contract none = txn_carried types levels uses d f (txn_relative-sound types levels uses d f contract none)
