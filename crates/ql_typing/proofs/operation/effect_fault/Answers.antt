use Rattle.std.proofs.lemmas.Result.{err_from_is_err_and}
use Rattle.std.proofs.Common.{refl}
use Rattle.ql_typing.specs.Programs.{effect_faults}
use Rattle.ql_typing.proofs.FirstFault.{earlier_assoc, first_append}
use Rattle.ql_typing.proofs.Mapped.{map-twice}
use Rattle.ql_typing.proofs.operation.effect_fault.Goals as goal

pub returns-clause-fault : goal.returns-clause-fault
unfolding effect_faults
returns-clause-fault c =
    simp (first_append, earlier_assoc, c.first-3.ensures, c.first-2.ensures, c.first.ensures, c.in_ok-listed.ensures.fault, c.binds_fault-values.ensures, c.fault_as-test.ensures, c.in_ok-applied.ensures, c.items-binds.ensures, map-twice) refl

pub returns-in_err-applied-clause-fault : goal.returns-in_err-applied-clause-fault
returns-in_err-applied-clause-fault c = let p = err_from_is_err_and c.from_residual-in_err-applied.result c.from_residual-in_err-applied.ensures.1 in rw p.1 tt

pub returns-in_err-applied-clause-names : goal.returns-in_err-applied-clause-names
returns-in_err-applied-clause-names c = let p = err_from_is_err_and c.from_residual-in_err-applied.result c.from_residual-in_err-applied.ensures.1 in rw p.1 tt

pub returns-in_err-listed-clause-fault : goal.returns-in_err-listed-clause-fault
returns-in_err-listed-clause-fault c = let p = err_from_is_err_and c.from_residual.result c.from_residual.ensures.1 in rw p.1 tt

pub returns-in_err-listed-clause-names : goal.returns-in_err-listed-clause-names
returns-in_err-listed-clause-names c = let p = err_from_is_err_and c.from_residual.result c.from_residual.ensures.1 in rw p.1 tt
