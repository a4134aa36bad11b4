use Rattle.std.proofs.Common.{arith, codes}
use Rattle.ql_lang.specs.Trees.{sentence_of}
use Rattle.ql_holds_files.proofs.LineRefusals.{no_contract}
use Rattle.ql_holds_files.specs.NamedOperations.{rest_within, shorter}
use Rattle.ql_holds_files.proofs.contract_line.contract_line.Goals as goal

pub parse_contract-requires : goal.parse_contract-requires
parse_contract-requires c = shorter _ _ (rest_within c.args.text.now (codes "contract") c.in-Some.rest.now c.in-Some.ensures) c.requires

pub returns-in-Ok-clause-few : goal.returns-in-Ok-clause-few
returns-in-Ok-clause-few c =
    let few = c.few_operations.ensures c.in-Some.rest.now (sentence_of c.in-Ok.contract) c.in-Ok.ensures in
    omega (arith, few, rest_within c.args.text.now (codes "contract") c.in-Some.rest.now c.in-Some.ensures, c.requires)

pub returns-in_default-fault-clause-line : goal.returns-in_default-fault-clause-line
returns-in_default-fault-clause-line c = no_contract c.one_answer.ensures.apart c.one_answer.ensures.no_lexical c.args.text.now c.in-Some.rest.now c.in-Some.ensures c.in-Err.fault c.in-Err.ensures c.in_default-fault.not-NoMemory
