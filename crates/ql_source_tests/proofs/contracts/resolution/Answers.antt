use Rattle.std.proofs.Common.{arith}
use Rattle.ql_lang.specs.Trees.{sentence_of}
use Rattle.ql_typing.proofs.Growing.{ops_few}
use Rattle.ql_source_tests.proofs.contracts.resolution.Goals as goal

pub resolve-requires : goal.resolve-requires
resolve-requires c =
    let few = c.few_operations.ensures _ (sentence_of c.in-Ok.contract) c.in-Ok.ensures in
    omega (arith, few, ops_few c.args.operations.now c.in-Ok.contract.vars)
