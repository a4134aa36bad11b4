use Rattle.std.proofs.Common.{[], arith}
use Rattle.ql_lang.specs.Trees.{sentence_of}
use Rattle.ql_typing.proofs.Growing.{ops_few}
use Rattle.ql_notes.proofs.contracts.fault_in.Goals as goal

pub resolve-requires : goal.resolve-requires
resolve-requires c =
    let few = c.few_operations.ensures c.args.contract.now (sentence_of c.in-Ok.tree) c.in-Ok.ensures in
    rw c.new-ops.ensures (omega (arith, few, ops_few [] c.in-Ok.tree.vars, c.requires))
