use Rattle.std.proofs.Common.{[], arith}
use Rattle.ql_lang.specs.Trees.{sentence_of}
use Rattle.ql_typing.proofs.Growing.{ops_few}
use Rattle.ql_execution_tests.proofs.formulas.formula.Goals as goal

pub resolve-requires : goal.resolve-requires
resolve-requires c =
    let few = c.few_operations.ensures _ (sentence_of c.in-Ok.tree) c.in-Ok.ensures in
    rw c.new-operations.ensures (omega (arith, few, ops_few [] c.in-Ok.tree.vars))
