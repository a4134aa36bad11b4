use Rattle.ql_counter.specs.Blocks.{no_parts, slots_of}
use Rattle.ql_counter.proofs.Arranged.{built-lawful}
use Rattle.ql_counter.proofs.TxnLevels.{txn-grouped, txn-holds}
use Rattle.ql_counter.proofs.Arranging.{slots-arranged}
use Rattle.ql_counter.proofs.pattern_laws.blocks_show_transactions.Goals as goal

pub returns-clause-execution : goal.returns-clause-execution
returns-clause-execution c = λ p current name law txns. built-lawful p law no_parts (slots_of p no_parts) (slots-arranged p law no_parts) (txn-grouped p law current name txns)

pub returns-clause-levels : goal.returns-clause-levels
returns-clause-levels c = λ p current name law txns. txn-holds p law current name txns (slots_of p no_parts) (slots-arranged p law no_parts)
