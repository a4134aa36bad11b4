use Rattle.std.proofs.Common.{arith}
use Rattle.std.proofs.lemmas.Bool.Decides.{Decides-eqb}
use Rattle.std.proofs.lemmas.Slice.Eq.{slice_eq-Decides}
use Rattle.ql_commands.proofs.Expected.{op_not, op_reported}
use Rattle.ql_commands.proofs.order.is_op_expected.Goals as goal

pub returns-then-place-ops : goal.returns-then-place-ops
returns-then-place-ops c =
    let count = c.ops.ensures.count in
    let past = c.if-place-ops.true in
    op_not c.args.t.now.program c.args.place c.args.name.now (omega (arith, count, past))

pub returns : goal.returns
returns c = op_reported c.args.t.now.program c.args.place c.args.name.now c.eq.result c.bytes.result.now c.op.result.now c.op.ensures c.bytes.ensures.same (slice_eq-Decides Decides-eqb _ _ _ c.eq.ensures)
