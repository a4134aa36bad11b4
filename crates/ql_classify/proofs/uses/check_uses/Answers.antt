use Rattle.ql_classify.proofs.TestOrder.{weak_next, weak_all, strong_refused}
use Rattle.ql_classify.proofs.uses.check_uses.Goals as goal

pub returns-in-Some-clause-strong : goal.returns-in-Some-clause-strong
returns-in-Some-clause-strong c =
    strong_refused c.args.t.now.program c.args.d c.txn.result.now c.items-name-items.result.now c.loop-name.name-index c.name-item.result c.bytes.result.now c.in-Some.op c.txn.ensures c.items-name-items.ensures c.loop-name-test.true c.loop-name.invariant c.name-item.is c.bytes.ensures.same c.in-Some.ensures.strong

pub loop-name-preserved : goal.loop-name-preserved
loop-name-preserved c =
    weak_next _ _ _ _ c.name-item.result c.bytes.result.now c.loop-name-test.true c.loop-name.invariant c.name-item.is c.bytes.ensures.same c.in_default.ensures.weak

pub returns-clause-passed : goal.returns-clause-passed
returns-clause-passed c =
    weak_all c.args.t.now.program c.args.d.0 c.txn.result.now c.items-name-items.result.now c.loop-name.name-index c.txn.ensures c.items-name-items.ensures c.loop-name-test.false c.loop-name.invariant
