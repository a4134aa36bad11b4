use Rattle.ql_typing.specs.ContractFaults.{op_faults}
use Rattle.std.specs.Prelude.{option_copied}
use Rattle.ql_typing.specs.Invariant.{SoFar}
use Rattle.ql_typing.proofs.contract.ops_fault.Given as goal

abbrev pub invariant-loop-name : goal.invariant-loop-name
invariant-loop-name l = SoFar (op_faults (option_copied l.known)) l.fault l.name-index l.names
