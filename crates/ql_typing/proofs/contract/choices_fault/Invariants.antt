use Rattle.ql_typing.specs.ContractFaults.{choice_faults}
use Rattle.std.specs.Prelude.{option_copied}
use Rattle.ql_typing.specs.Invariant.{SoFar}
use Rattle.ql_typing.proofs.contract.choices_fault.Given as goal

abbrev pub invariant-loop-var : goal.invariant-loop-var
invariant-loop-var l = SoFar (choice_faults (option_copied l.known)) l.fault l.var-index l.vars
