use Rattle.ql_typing.specs.ContractFaults.{point_faults}
use Rattle.ql_typing.specs.Invariant.{SoFar}
use Rattle.ql_typing.proofs.contract.points_fault.Given as goal

abbrev pub invariant-loop-point : goal.invariant-loop-point
invariant-loop-point l = SoFar (point_faults l.for_txn l.vars) l.fault l.point-index l.points
