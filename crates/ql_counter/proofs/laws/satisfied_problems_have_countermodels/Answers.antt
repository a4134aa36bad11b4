use Rattle.ql_counter.proofs.OpCounters.{op-counter}
use Rattle.ql_counter.proofs.TxnCounters.{txn-counter}
use Rattle.ql_counter.proofs.laws.satisfied_problems_have_countermodels.Goals as goal

pub returns-clause-op : goal.returns-clause-op
returns-clause-op c = op-counter

pub returns-clause-txn : goal.returns-clause-txn
returns-clause-txn c = txn-counter
