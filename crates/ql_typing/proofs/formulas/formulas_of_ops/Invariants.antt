use Rattle.std.proofs.Common.{◌≡◌, map, take}
use Rattle.ql_lang.specs.Formulas.{resolved_of}
use Rattle.ql_typing.specs.Operations.{all_ops, op_contract}
use Rattle.ql_typing.proofs.formulas.formulas_of_ops.Given as goal

abbrev pub invariant-loop-declared : goal.invariant-loop-declared
invariant-loop-declared l = map resolved_of l.formulas.items ≡ map (op_contract l.ops) (all_ops (take l.declared-index l.types))
