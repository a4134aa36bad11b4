use Rattle.std.proofs.Common.{refl, arith}
use Rattle.std.proofs.lemmas.Option.{slice_get_within}
use Rattle.ql_typing.specs.Operations.{op_kinds}
use Rattle.ql_ground.proofs.Typing.{count_types}
use Rattle.ql_warnings.proofs.clash.are_apart.Goals as goal

pub returns : goal.returns
returns c = λ is o kind at first second.
    c.loop-o.invariant o kind
    (omega (arith, slice_get_within (op_kinds c.args.scene.program.now.program.types) o kind at, count_types c.args.scene.program.now.program.types (op_kinds c.args.scene.program.now.program.types) refl, c.ops-o-end.ensures.count)) at first second
