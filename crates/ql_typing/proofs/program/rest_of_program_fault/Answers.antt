use Rattle.std.proofs.Common.{refl}
use Rattle.ql_typing.specs.Programs.{program_faults}
use Rattle.ql_typing.proofs.FirstFault.{first_append}
use Rattle.ql_typing.proofs.program.rest_of_program_fault.Goals as goal

pub returns : goal.returns
unfolding program_faults
returns c =
    simp (first_append, c.first-4.ensures, c.first-3.ensures, c.first-2.ensures, c.first.ensures, c.requires.known, c.requires.repeated, c.in_ok-named.ensures, c.limits_fault-many.ensures, c.in_ok-of_types.ensures, c.in_ok-of_txns.ensures, c.items-types.ensures, c.items-txns.ensures) refl
