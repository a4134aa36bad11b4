use Rattle.ql_machine.proofs.Formulas.{txn_level_holds}
use Rattle.ql_machine.proofs.Runs.{kept}
use Rattle.ql_machine.proofs.levels.transactions_meet_their_levels.Goals as goal

pub returns : goal.returns
returns c = λ rules n events replies last is run decl named. txn_level_holds rules.promises n last (kept rules n events replies last is) run decl named
