use Rattle.std.proofs.Common.{refl}
use Rattle.std.proofs.lemmas.List.{map-id}
use Rattle.ql_typing.specs.ContractFaults.{choice_faults}
use Rattle.ql_typing.proofs.FirstFault.{first_append}
use Rattle.ql_typing.proofs.contract.choice_fault.Goals as goal

pub returns : goal.returns
unfolding choice_faults
returns c = simp (first_append, c.first.ensures, c.in_ok-repeated.ensures, c.ops_fault.ensures, c.items-ops.ensures, map-id) refl
