use Rattle.std.proofs.Common.{◌≡◌, false, length}
use Rattle.std.specs.List.{list_any}
use Rattle.ql_typing.specs.Faults.{each}
use Rattle.ql_typing.specs.ContractFaults.{point_faults}
use Rattle.ql_holds_files.specs.ContractLine.{is_unknown_name}
use Rattle.ql_holds_files.proofs.contract_rule.has_unbound.Given as goal

abbrev pub invariant-loop-point : goal.invariant-loop-point
invariant-loop-point l = list_any is_unknown_name (each (point_faults false l.vars) l.rest) ≡ list_any is_unknown_name (each (point_faults false l.vars) l.points)

abbrev pub decreases-loop-point : goal.decreases-loop-point
decreases-loop-point l = length l.rest
