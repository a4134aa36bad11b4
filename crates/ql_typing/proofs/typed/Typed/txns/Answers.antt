use Rattle.std.proofs.Common.{arith, ◌≤◌, length}
use Rattle.ql_typing.proofs.Parts.{none_indeed}
use Rattle.ql_typing.proofs.FaultFree.{few_txns}
use Rattle.ql_typing.proofs.typed.Typed.txns.Goals as goal

pub overflow_cast-result : goal.overflow_cast-result
overflow_cast-result c =
    let few : length c.args.self.now.program.txns ≤ 16 = few_txns c.args.self.now.program (none_indeed _ c.args.self.now.well_typed) in
    grind (arith, few, c.items.ensures)

pub returns-clause-few : goal.returns-clause-few
returns-clause-few c =
    let few : length c.args.self.now.program.txns ≤ 16 = few_txns c.args.self.now.program (none_indeed _ c.args.self.now.well_typed) in
    grind (arith, few, c.items.ensures)
