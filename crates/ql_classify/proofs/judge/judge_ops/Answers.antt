use Rattle.std.proofs.Common.{◌≡◌, ◌<◌, ◌∙◌, [], ◌∷◌, length, arith, length-append, ap}
use Rattle.std.proofs.lemmas.Result.{err_from_is_err_and}
use Rattle.ql_typing.specs.Operations.{all_ops}
use Rattle.ql_classify.specs.Outcome.{OpHasLevel}
use Rattle.ql_classify.proofs.TargetLists.{ops_more, each_op_level}
use Rattle.ql_classify.proofs.TestOrder.{refusal_upto, ops_pass}
use Rattle.ql_classify.proofs.judge.judge_ops.Goals as goal

pub returns-in_err-level-clause-refused : goal.returns-in_err-level-clause-refused
returns-in_err-level-clause-refused c =
    let p = err_from_is_err_and c.from_residual.result c.from_residual.ensures.1 in
    let within : c.loop-o.o < length (all_ops c.args.t.now.program.types) = omega (arith, c.loop-o-test.true, c.ops-o-end.ensures.count) in
    rw (p.1, p.2) (refusal_upto c.args.t.now.program (length (all_ops c.args.t.now.program.types)) c.loop-o.o (λ o. OpHasLevel o ∷ []) _ within
    (ops_pass c.args.t.now.program c.loop-o.o c.loop-o.levels.items c.loop-o.invariant.0 (each_op_level c.args.t.now.program c.loop-o.levels.items c.loop-o.evidence.items c.loop-o.invariant.1))
    c.in_err-level.ensures.none)

pub returns-in_err-push-clause-refused : goal.returns-in_err-push-clause-refused
returns-in_err-push-clause-refused c =
    let p = err_from_is_err_and c.from_residual-in_err-push.result c.from_residual-in_err-push.ensures.1 in
    rw (p.1, p.2) tt

pub returns-in_err-push-2-clause-refused : goal.returns-in_err-push-2-clause-refused
returns-in_err-push-2-clause-refused c =
    let p = err_from_is_err_and c.from_residual-in_err-push-2.result c.from_residual-in_err-push-2.ensures.1 in
    rw (p.1, p.2) tt

pub loop-o-preserved : goal.loop-o-preserved
loop-o-preserved c = (
  omega (arith, ap length c.in_ok-push.ensures.items, length-append c.loop-o.levels.items (c.in_ok-level.level ∷ []), c.loop-o.invariant.0),
  ops_more c.args.t.now.program c.loop-o.levels.items c.push.new.self.items c.loop-o.evidence.items c.push-in-loop-o.new.self.items c.loop-o.o c.in_ok-level.level c.in_ok-level.found c.loop-o.invariant.0 c.in_ok-push.ensures.items c.in_ok-push-2.ensures.items c.loop-o.invariant.1 c.in_ok-level.ensures.least,
)

-- at the loop's end each operation was judged
each : (c : goal.After-loop-o) → c.loop-o.o ≡ length (all_ops c.args.t.now.program.types)
each c = omega (arith, c.loop-o-test.false, c.loop-o.auto.o-end, c.ops-o-end.ensures.count)

pub returns-clause-count : goal.returns-clause-count
returns-clause-count c = c.loop-o.invariant.0 ∙ each c

pub returns-clause-evidence : goal.returns-clause-evidence
returns-clause-evidence c = c.loop-o.invariant.1

pub returns-in_err-level-clause-count : goal.returns-in_err-level-clause-count
returns-in_err-level-clause-count c = let p = err_from_is_err_and c.from_residual.result c.from_residual.ensures.1 in rw p.1 tt

pub returns-in_err-level-clause-evidence : goal.returns-in_err-level-clause-evidence
returns-in_err-level-clause-evidence c = let p = err_from_is_err_and c.from_residual.result c.from_residual.ensures.1 in rw p.1 tt

pub returns-in_err-push-2-clause-count : goal.returns-in_err-push-2-clause-count
returns-in_err-push-2-clause-count c = let p = err_from_is_err_and c.from_residual-in_err-push-2.result c.from_residual-in_err-push-2.ensures.1 in rw p.1 tt

pub returns-in_err-push-2-clause-evidence : goal.returns-in_err-push-2-clause-evidence
returns-in_err-push-2-clause-evidence c = let p = err_from_is_err_and c.from_residual-in_err-push-2.result c.from_residual-in_err-push-2.ensures.1 in rw p.1 tt

pub returns-in_err-push-clause-count : goal.returns-in_err-push-clause-count
returns-in_err-push-clause-count c = let p = err_from_is_err_and c.from_residual-in_err-push.result c.from_residual-in_err-push.ensures.1 in rw p.1 tt

pub returns-in_err-push-clause-evidence : goal.returns-in_err-push-clause-evidence
returns-in_err-push-clause-evidence c = let p = err_from_is_err_and c.from_residual-in_err-push.result c.from_residual-in_err-push.ensures.1 in rw p.1 tt
