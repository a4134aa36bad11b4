use Rattle.ql_implication.proofs.Same.{op_implied, txn_implied}
use Rattle.ql_implication.proofs.OfPrograms.{problem_gives}
use Rattle.ql_implication.proofs.transfer.implied_in_executions.Goals as goal

pub returns-clause-op : goal.returns-clause-op
returns-clause-op c = op_implied

pub returns-clause-txn : goal.returns-clause-txn
returns-clause-txn c = txn_implied

pub returns-clause-goal : goal.returns-clause-goal
returns-clause-goal c = problem_gives
