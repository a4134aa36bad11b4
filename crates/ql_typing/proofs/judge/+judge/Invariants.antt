use Rattle.std.proofs.Common.{◌≡◌, drop}
use Rattle.ql_lang.specs.Expressions.{operands_of}
use Rattle.ql_typing.specs.Faults.{earlier, first_fault}
use Rattle.ql_typing.specs.Kinds.{operand_faults}
use Rattle.ql_typing.proofs.judge.+judge.Given as goal

abbrev pub invariant-faults_inside-loop-arg : goal.invariant-faults_inside-loop-arg
invariant-faults_inside-loop-arg l =
    earlier l.fault (first_fault (operand_faults l.scope (operands_of (drop l.arg-index l.args)))) ≡ first_fault (operand_faults l.scope (operands_of l.args))
