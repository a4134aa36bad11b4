use Rattle.std.proofs.Common.{◌≡◌, map, take}
use Rattle.ql_lang.specs.Formulas.{resolved_of}
use Rattle.ql_typing.specs.Operations.{txn_contract}
use Rattle.ql_typing.proofs.formulas.formulas_of_txns.Given as goal

abbrev pub invariant-loop-declared : goal.invariant-loop-declared
invariant-loop-declared l = map resolved_of l.formulas.items ≡ map (txn_contract l.ops) (take l.declared-index l.txns)
