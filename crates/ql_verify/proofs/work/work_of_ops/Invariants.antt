use Rattle.std.proofs.Common.{◌≡◌, ◌≤◌, ◌+◌, ◌*◌, ◌^◌, drop, length}
use Rattle.ql_typing.specs.Operations.{op_contracts}
use Rattle.ql_verify.specs.Work.{effects_of, work_from}
use Rattle.ql_verify.proofs.work.work_of_ops.Given as goal

abbrev pub invariant-loop-o : goal.invariant-loop-o
invariant-loop-o l =
    (l.work + work_from (length l.effects) (effects_of l.effects) l.o (drop l.o (op_contracts l.t.program.types)) ≡ work_from (length l.effects) (effects_of l.effects) 0 (op_contracts l.t.program.types))
    × (l.work ≤ l.o * 4000 ^ 6)
