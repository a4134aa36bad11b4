-- Goals of a program whose level implies their contract.
use Rattle.std.specs.Prelude.{◌≡◌, Some, slice_get}
use Rattle.ql_ground.specs.declared.goal.Goal.{Goal}
use Rattle.ql_ground.specs.declared.goal.Goal.TheVariants.{OpAt, TxnAt}
use Rattle.ql_lang.specs.Formulas.{Resolved}
use Rattle.ql_lang.specs.declared.program.Program.{Program}
use Rattle.ql_typing.specs.Operations.{op_contracts, op_kinds, txn_contracts}
use Rattle.ql_implication.specs.Executions.{IsImplied, IsImpliedTxn}

-- The target has a contract, and its level implies it: in every execution of the program, at each effect of the
-- operation, or for each begun transaction.
abbrev pub GivesContract : Program → Goal → Type 0
GivesContract p (OpAt o level) = (f : Resolved) × (slice_get (op_contracts p.types) o.0 ≡ Some f) × IsImplied (op_kinds p.types) o.0 level f
GivesContract p (TxnAt d level) = (f : Resolved) × (slice_get (txn_contracts p) d.0 ≡ Some f) × IsImpliedTxn (op_kinds p.types) level f
