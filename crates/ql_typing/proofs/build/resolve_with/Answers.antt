use Rattle.std.proofs.Common.{sym, ◌∙◌, None}
use Rattle.ql_lang.specs.Trees.{sentence_of}
use Rattle.ql_typing.specs.ContractFaults.{contract_faults}
use Rattle.ql_typing.proofs.FirstFault.{no_fault, refusal, tells}
use Rattle.ql_typing.proofs.Growing.{few_vars}
use Rattle.ql_typing.proofs.build.resolve_with.Goals as goal

pub returns-in-Some-clause-refused : goal.returns-in-Some-clause-refused
returns-in-Some-clause-refused c = refusal (contract_faults None c.args.for_txn (sentence_of c.args.contract.now)) c.in-Some.fault (sym c.in-Ok.ensures.fault ∙ c.in-Some.is)

pub returns-in-Ok-number_or_undo-clause-typed : goal.returns-in-Ok-number_or_undo-clause-typed
returns-in-Ok-number_or_undo-clause-typed c = no_fault (contract_faults None c.args.for_txn (sentence_of c.args.contract.now)) (sym c.in-Ok.ensures.fault ∙ c.in-None.is)

pub returns-in-Some-clause-first : goal.returns-in-Some-clause-first
returns-in-Some-clause-first c = tells (contract_faults None c.args.for_txn (sentence_of c.args.contract.now)) c.in-Some.fault (sym c.in-Ok.ensures.fault ∙ c.in-Some.is)

pub number_or_undo-requires-clause-few : goal.number_or_undo-requires-clause-few
number_or_undo-requires-clause-few c = few_vars None c.args.for_txn (sentence_of c.args.contract.now) (no_fault (contract_faults None c.args.for_txn (sentence_of c.args.contract.now)) (sym c.in-Ok.ensures.fault ∙ c.in-None.is))
