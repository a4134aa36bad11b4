use Rattle.ql_typing.proofs.Flat.{found_op, passed_op}
use Rattle.ql_typing.proofs.lookup.find_op.Goals as goal

pub returns-then-left-ops : goal.returns-then-left-ops
returns-then-left-ops c =
    found_op c.args.types.now c.loop-declared.declared-index c.declared-item.result c.items-ops.result.now c.loop-declared.left c.args.number c.loop-declared-test.true c.declared-item.is c.items-ops.ensures
    c.index-ops-left.result c.if-left-ops.true c.index-ops-left.is c.loop-declared.invariant

pub loop-declared-preserved : goal.loop-declared-preserved
loop-declared-preserved c =
    passed_op c.args.types.now c.loop-declared.declared-index c.declared-item.result c.items-ops.result.now c.loop-declared.left c.args.number c.loop-declared-test.true c.declared-item.is c.items-ops.ensures
    c.if-left-ops.false c.loop-declared.invariant
