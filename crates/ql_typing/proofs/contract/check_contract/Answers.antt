use Rattle.std.proofs.Common.{refl}
use Rattle.std.proofs.lemmas.List.{drop-map}
use Rattle.ql_typing.specs.ContractFaults.{contract_faults}
use Rattle.ql_typing.proofs.FirstFault.{first_append}
use Rattle.ql_typing.proofs.contract.check_contract.Goals as goal

pub returns-clause-fault : goal.returns-clause-fault
unfolding contract_faults
returns-clause-fault c =
    simp (first_append, c.first-3.ensures, c.first-2.ensures, c.first.ensures, c.extra_fault-extra.ensures, c.in_ok-choice.ensures, c.prop_fault-body.ensures, c.in_ok-repeated.ensures.fault, c.in_ok-repeated.ensures.names, c.past_limit.ensures, c.items-named.ensures, c.requires, drop-map) refl
