use Rattle.std.proofs.Common.{◌≤◌, arith, length, ap, ◌∙◌, is_some}
use Rattle.ql_typing.specs.Operations.{op_kinds}
use Rattle.ql_typing.proofs.Flat.{is_there, length-kinds}
use Rattle.ql_typing.proofs.Parts.{none_indeed}
use Rattle.ql_typing.proofs.FaultFree.{few_types}
use Rattle.ql_typing.proofs.typed.Typed.kind_of.Goals as goal

pub unwrap-kind-requires : goal.unwrap-kind-requires
unwrap-kind-requires c =
    ap is_some c.find_kind.ensures.kind
    ∙ rw c.items.ensures (is_there (op_kinds c.args.self.now.program.types) c.args.o.0 (omega (arith, c.requires, length-kinds 0 c.args.self.now.program.types)))

pub overflow_cast-result : goal.overflow_cast-result
overflow_cast-result c =
    let few : length c.args.self.now.program.types ≤ 16 = few_types c.args.self.now.program (none_indeed _ c.args.self.now.well_typed) in
    grind (arith, few, c.items.ensures, c.unwrap-kind.ensures, c.find_kind.ensures.within)
