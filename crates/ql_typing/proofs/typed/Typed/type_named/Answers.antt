use Rattle.std.proofs.Common.{arith, ◌≤◌, length}
use Rattle.ql_typing.proofs.Parts.{none_indeed}
use Rattle.ql_typing.proofs.FaultFree.{few_types}
use Rattle.ql_typing.proofs.typed.Typed.type_named.Goals as goal

pub overflow_cast-result : goal.overflow_cast-result
overflow_cast-result c =
    let few : length c.args.self.now.program.types ≤ 16 = few_types c.args.self.now.program (none_indeed _ c.args.self.now.well_typed) in
    grind (arith, few, c.items.ensures, c.in_ok-place.ensures.within)
