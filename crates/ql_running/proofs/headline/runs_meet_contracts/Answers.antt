use Rattle.ql_machine.proofs.Growth.{answers-hold}
use Rattle.ql_running.specs.Stores.{rules_of}
use Rattle.ql_running.proofs.AtLevels.{op-contract, run-fits, txn-contract}
use Rattle.ql_running.proofs.headline.runs_meet_contracts.Goals as goal

pub returns-clause-fits : goal.returns-clause-fits
returns-clause-fits c = run-fits

pub returns-clause-answers : goal.returns-clause-answers
returns-clause-answers c = λ p levels. answers-hold (rules_of p levels)

pub returns-clause-operations : goal.returns-clause-operations
returns-clause-operations c = op-contract

pub returns-clause-transactions : goal.returns-clause-transactions
returns-clause-transactions c = txn-contract
