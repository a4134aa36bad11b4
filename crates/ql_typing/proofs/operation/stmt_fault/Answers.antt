use Rattle.std.proofs.Common.{refl}
use Rattle.ql_typing.specs.Programs.{stmt_faults}
use Rattle.ql_typing.proofs.FirstFault.{first_append}
use Rattle.ql_typing.proofs.operation.stmt_fault.Goals as goal

pub returns : goal.returns
unfolding stmt_faults
returns c = simp (first_append, c.first.ensures, c.target_fault.ensures, c.fault_as.ensures, c.find-wanted.ensures) refl
