use Rattle.ql_typing.specs.ContractFaults.{extra_var}
use Rattle.ql_typing.specs.Invariant.{SoFar}
use Rattle.ql_typing.proofs.contract.extra_fault.Given as goal

abbrev pub invariant-loop-var : goal.invariant-loop-var
invariant-loop-var l = SoFar (λ v. extra_var v.name) l.fault l.var-index l.vars
