use Rattle.std.proofs.Common.{refl}
use Rattle.ql_typing.specs.Programs.{type_faults}
use Rattle.ql_typing.proofs.FirstFault.{first_append}
use Rattle.ql_typing.proofs.program.type_fault.Goals as goal

pub returns : goal.returns
unfolding type_faults
returns c =
    simp (first_append, c.first-3.ensures, c.first-2.ensures, c.first.ensures, c.in_ok-repeated.ensures.fault, c.in_ok-repeated.ensures.names, c.new-names.ensures, c.above_limit-many.ensures, c.inits_fault.ensures, c.in_ok-ops.ensures, c.items-fields.ensures) refl
