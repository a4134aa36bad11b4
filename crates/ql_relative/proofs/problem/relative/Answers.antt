use Rattle.std.proofs.Common.{◌-◌, ℕ, arith, subst}
use Rattle.std.proofs.lemmas.Result.{IfOk-weaker}
use Rattle.ql_cnf.specs.Satisfaction.{ClauseList, IsUnsatisfiable}
use Rattle.ql_relative.specs.OfPrograms.{IsOpRelative, IsRelative, IsTxnRelative, OpMeets, TargetMeets, TxnMeets}
use Rattle.ql_relative.proofs.Problems.{op_meets_of, op_relative_of, txn_meets_of, txn_relative_of}
use Rattle.ql_relative.proofs.problem.relative.Goals as goal

pub returns-then-target-ops-clause-list : goal.returns-then-target-ops-clause-list
returns-then-target-ops-clause-list c =
    IfOk-weaker c.op_relative.result (IsOpRelative c.args.t.now.program c.args.levels.now c.args.target) (IsRelative c.args.t.now.program c.args.levels.now c.args.target)
    (λ (r : ClauseList). op_relative_of c.args.t.now.program c.args.levels.now c.args.target r (omega (arith, c.if-target-ops.true, c.ops.ensures.count)))
    c.op_relative.ensures.list

pub returns-then-target-ops-clause-sound : goal.returns-then-target-ops-clause-sound
returns-then-target-ops-clause-sound c =
    IfOk-weaker c.op_relative.result (λ (r : ClauseList). IsUnsatisfiable r → OpMeets c.args.t.now.program c.args.levels.now c.args.target) (λ (r : ClauseList). IsUnsatisfiable r → TargetMeets c.args.t.now.program c.args.levels.now c.args.target)
    (λ (r : ClauseList) h none. op_meets_of c.args.t.now.program c.args.levels.now c.args.target (omega (arith, c.if-target-ops.true, c.ops.ensures.count)) (h none))
    c.op_relative.ensures.sound

pub returns-else-target-ops-clause-list : goal.returns-else-target-ops-clause-list
returns-else-target-ops-clause-list c =
    IfOk-weaker c.txn_relative.result (IsTxnRelative c.args.t.now.program c.args.levels.now (c.args.target - c.ops-else-target-ops.result)) (IsRelative c.args.t.now.program c.args.levels.now c.args.target)
    (λ (r : ClauseList) h. txn_relative_of c.args.t.now.program c.args.levels.now c.args.target r (omega (arith, c.if-target-ops.false, c.ops.ensures.count))
    (subst (λ (n : ℕ). IsTxnRelative c.args.t.now.program c.args.levels.now (c.args.target - n) r) c.ops-else-target-ops.ensures.count h))
    c.txn_relative.ensures.list

pub returns-else-target-ops-clause-sound : goal.returns-else-target-ops-clause-sound
returns-else-target-ops-clause-sound c =
    IfOk-weaker c.txn_relative.result (λ (r : ClauseList). IsUnsatisfiable r → TxnMeets c.args.t.now.program c.args.levels.now (c.args.target - c.ops-else-target-ops.result)) (λ (r : ClauseList). IsUnsatisfiable r → TargetMeets c.args.t.now.program c.args.levels.now c.args.target)
    (λ (r : ClauseList) h none. txn_meets_of c.args.t.now.program c.args.levels.now c.args.target (omega (arith, c.if-target-ops.false, c.ops.ensures.count))
    (subst (λ (n : ℕ). TxnMeets c.args.t.now.program c.args.levels.now (c.args.target - n)) c.ops-else-target-ops.ensures.count (h none)))
    c.txn_relative.ensures.sound
