use Rattle.std.proofs.Common.{refl}
use Rattle.std.proofs.lemmas.List.{map-id}
use Rattle.ql_typing.specs.Programs.{txn_faults}
use Rattle.ql_typing.proofs.FirstFault.{first_append}
use Rattle.ql_typing.proofs.program.txn_fault.Goals as goal

pub returns : goal.returns
unfolding txn_faults
returns c = simp (first_append, c.first-2.ensures, c.first.ensures, c.in_ok-repeated.ensures, c.ops_fault-unknown.ensures, c.in_ok-contract.ensures, c.items-uses.ensures, map-id) refl
