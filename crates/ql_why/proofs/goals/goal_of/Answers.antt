use Rattle.std.proofs.Common.{◌≡◌, ◌+◌, ◌-◌, length, arith}
use Rattle.ql_why.proofs.Lower.{op_goal, txn_goal}
use Rattle.ql_why.proofs.goals.goal_of.Goals as goal

pub returns-then-target-ops-clause-at : goal.returns-then-target-ops-clause-at
returns-then-target-ops-clause-at c = op_goal c.args.t.now.program c.args.levels.now c.args.target c.op.result c.op.ensures

pub returns-else-target-ops-clause-at : goal.returns-else-target-ops-clause-at
returns-else-target-ops-clause-at c =
    let ops = c.requires.ops in
    let first = c.ops.ensures.count in
    let again = c.ops-else-target-ops.ensures.count in
    let past = c.if-target-ops.false in
    let d = c.args.target - c.ops-else-target-ops.result in
    let place : c.args.target ≡ length c.args.levels.now.ops + (c.args.target - c.ops-else-target-ops.result) = omega (arith, ops, first, again, past) in
    txn_goal c.args.t.now.program c.args.levels.now c.args.target d c.txn.result place c.txn.ensures
