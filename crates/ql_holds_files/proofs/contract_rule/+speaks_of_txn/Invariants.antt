use Rattle.ql_holds_files.proofs.contract_rule.+speaks_of_txn.Given as goal

abbrev pub decreases-speaks_of_txn : goal.decreases-speaks_of_txn
decreases-speaks_of_txn l = goal.size-speaks_of_txn l
