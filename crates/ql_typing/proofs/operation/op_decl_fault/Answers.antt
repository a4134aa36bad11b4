use Rattle.std.proofs.lemmas.Result.{err_from_is_err_and}
use Rattle.std.proofs.Common.{refl}
use Rattle.ql_typing.specs.Programs.{op_decl_faults}
use Rattle.ql_typing.proofs.FirstFault.{earlier_assoc, first_append}
use Rattle.ql_typing.proofs.Mapped.{map-twice}
use Rattle.ql_typing.proofs.operation.op_decl_fault.Goals as goal

pub returns-clause-fault : goal.returns-clause-fault
unfolding op_decl_faults
returns-clause-fault c =
    simp (first_append, earlier_assoc, c.first-2.ensures, c.first.ensures, c.in_ok-listed.ensures.fault, c.in_ok-listed.ensures.same, c.in_ok-contract.ensures, c.in_ok-call.ensures.fault, c.over-scope.ensures, c.in_ok-params.ensures, c.items.ensures, c.items-2.ensures, map-twice) refl

pub returns-in_err-call-clause-fault : goal.returns-in_err-call-clause-fault
returns-in_err-call-clause-fault c = let p = err_from_is_err_and c.from_residual-in_err-call.result c.from_residual-in_err-call.ensures.1 in rw p.1 tt

pub returns-in_err-call-clause-names : goal.returns-in_err-call-clause-names
returns-in_err-call-clause-names c = let p = err_from_is_err_and c.from_residual-in_err-call.result c.from_residual-in_err-call.ensures.1 in rw p.1 tt

pub returns-in_err-contract-clause-fault : goal.returns-in_err-contract-clause-fault
returns-in_err-contract-clause-fault c = let p = err_from_is_err_and c.from_residual-in_err-contract.result c.from_residual-in_err-contract.ensures.1 in rw p.1 tt

pub returns-in_err-contract-clause-names : goal.returns-in_err-contract-clause-names
returns-in_err-contract-clause-names c = let p = err_from_is_err_and c.from_residual-in_err-contract.result c.from_residual-in_err-contract.ensures.1 in rw p.1 tt

pub returns-in_err-listed-clause-fault : goal.returns-in_err-listed-clause-fault
returns-in_err-listed-clause-fault c = let p = err_from_is_err_and c.from_residual.result c.from_residual.ensures.1 in rw p.1 tt

pub returns-in_err-listed-clause-names : goal.returns-in_err-listed-clause-names
returns-in_err-listed-clause-names c = let p = err_from_is_err_and c.from_residual.result c.from_residual.ensures.1 in rw p.1 tt

pub returns-in_err-params-clause-fault : goal.returns-in_err-params-clause-fault
returns-in_err-params-clause-fault c = let p = err_from_is_err_and c.from_residual-in_err-params.result c.from_residual-in_err-params.ensures.1 in rw p.1 tt

pub returns-in_err-params-clause-names : goal.returns-in_err-params-clause-names
returns-in_err-params-clause-names c = let p = err_from_is_err_and c.from_residual-in_err-params.result c.from_residual-in_err-params.ensures.1 in rw p.1 tt
