use Rattle.std.proofs.Common.{◌≡◌, ◌++◌, map, take}
use Rattle.ql_lang.specs.Formulas.{resolved_of}
use Rattle.ql_typing.specs.Operations.{op_contract}
use Rattle.ql_typing.proofs.formulas.put_own.Given as goal

abbrev pub invariant-loop-op : goal.invariant-loop-op
invariant-loop-op l = map resolved_of l.formulas.items ≡ map resolved_of l.initial.formulas.items ++ map (op_contract l.ops) (take l.op-index l.own)
