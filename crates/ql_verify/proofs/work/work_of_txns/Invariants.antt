use Rattle.std.proofs.Common.{◌≡◌, ◌≤◌, ◌+◌, ◌*◌, ◌^◌, drop, length}
use Rattle.ql_typing.specs.Operations.{txn_contracts}
use Rattle.ql_verify.specs.Work.{runs_of, work_from}
use Rattle.ql_verify.proofs.work.work_of_txns.Given as goal

abbrev pub invariant-loop-d : goal.invariant-loop-d
invariant-loop-d l =
    (l.work + work_from (length l.effects) (λ d. length (runs_of l.effects d)) l.d (drop l.d (txn_contracts l.t.program)) ≡ work_from (length l.effects) (λ d. length (runs_of l.effects d)) 0 (txn_contracts l.t.program))
    × (l.work ≤ l.d * 4000 ^ 6)
