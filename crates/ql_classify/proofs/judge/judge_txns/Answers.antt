use Rattle.std.proofs.Common.{◌≡◌, ◌<◌, ◌∙◌, [], ◌∷◌, length, arith, length-append, ap, subst}
use Rattle.std.specs.List.{All}
use Rattle.std.proofs.lemmas.Result.{err_from_is_err_and}
use Rattle.ql_base.specs.Ranges.{upto}
use Rattle.ql_classify.specs.Outcome.{Passes, txn_tests}
use Rattle.ql_classify.proofs.TargetLists.{txns_more}
use Rattle.ql_classify.proofs.TestOrder.{refusal_upto, upto_more}
use Rattle.ql_classify.proofs.judge.judge_txns.Goals as goal

pub returns-in_err-level-clause-refused : goal.returns-in_err-level-clause-refused
returns-in_err-level-clause-refused c =
    let p = err_from_is_err_and c.from_residual.result c.from_residual.ensures.1 in
    let within : c.loop-d.d < length c.args.t.now.program.txns = omega (arith, c.loop-d-test.true, c.txns-d-end.ensures.count) in
    rw (p.1, p.2) (refusal_upto c.args.t.now.program (length c.args.t.now.program.txns) c.loop-d.d (txn_tests c.args.t.now.program) _ within c.loop-d.invariant.2 c.in_err-level.ensures.refused)

pub returns-in_err-push-clause-refused : goal.returns-in_err-push-clause-refused
returns-in_err-push-clause-refused c =
    let p = err_from_is_err_and c.from_residual-in_err-push.result c.from_residual-in_err-push.ensures.1 in
    rw (p.1, p.2) tt

pub returns-in_err-push-2-clause-refused : goal.returns-in_err-push-2-clause-refused
returns-in_err-push-2-clause-refused c =
    let p = err_from_is_err_and c.from_residual-in_err-push-2.result c.from_residual-in_err-push-2.ensures.1 in
    rw (p.1, p.2) tt

pub loop-d-preserved : goal.loop-d-preserved
loop-d-preserved c = (
  omega (arith, ap length c.in_ok-push.ensures.items, length-append c.loop-d.levels.items (c.in_ok-level.level ∷ []), c.loop-d.invariant.0),
  txns_more c.args.t.now.program c.loop-d.levels.items c.push.new.self.items c.loop-d.evidence.items c.push-in-loop-d.new.self.items c.loop-d.d c.in_ok-level.level c.in_ok-level.found c.loop-d.invariant.0 c.in_ok-push.ensures.items c.in_ok-push-2.ensures.items c.loop-d.invariant.1 c.in_ok-level.ensures.evidence,
  upto_more c.args.t.now.program c.loop-d.d (txn_tests c.args.t.now.program) c.loop-d.invariant.2 c.in_ok-level.ensures.passed,
)

pub judge_txn-requires : goal.judge_txn-requires
judge_txn-requires c = record {
  txn = omega (arith, c.loop-d-test.true, c.txns-d-end.ensures.count);
  few = omega (arith, c.txns-d-end.ensures.count, c.txns-d-end.ensures.few);
  levels = c.requires.levels;
}

-- at the loop's end each transaction was judged
each : (c : goal.After-loop-d) → c.loop-d.d ≡ length c.args.t.now.program.txns
each c = omega (arith, c.loop-d-test.false, c.loop-d.auto.d-end, c.txns-d-end.ensures.count)

pub returns-clause-count : goal.returns-clause-count
returns-clause-count c = c.loop-d.invariant.0 ∙ each c

pub returns-clause-evidence : goal.returns-clause-evidence
returns-clause-evidence c = c.loop-d.invariant.1

pub returns-clause-passed : goal.returns-clause-passed
returns-clause-passed c = subst (λ n. All (Passes c.args.t.now.program) (upto n (txn_tests c.args.t.now.program))) (each c) c.loop-d.invariant.2

pub returns-in_err-level-clause-count : goal.returns-in_err-level-clause-count
returns-in_err-level-clause-count c = let p = err_from_is_err_and c.from_residual.result c.from_residual.ensures.1 in rw p.1 tt

pub returns-in_err-level-clause-evidence : goal.returns-in_err-level-clause-evidence
returns-in_err-level-clause-evidence c = let p = err_from_is_err_and c.from_residual.result c.from_residual.ensures.1 in rw p.1 tt

pub returns-in_err-level-clause-passed : goal.returns-in_err-level-clause-passed
returns-in_err-level-clause-passed c = let p = err_from_is_err_and c.from_residual.result c.from_residual.ensures.1 in rw p.1 tt

pub returns-in_err-push-2-clause-count : goal.returns-in_err-push-2-clause-count
returns-in_err-push-2-clause-count c = let p = err_from_is_err_and c.from_residual-in_err-push-2.result c.from_residual-in_err-push-2.ensures.1 in rw p.1 tt

pub returns-in_err-push-2-clause-evidence : goal.returns-in_err-push-2-clause-evidence
returns-in_err-push-2-clause-evidence c = let p = err_from_is_err_and c.from_residual-in_err-push-2.result c.from_residual-in_err-push-2.ensures.1 in rw p.1 tt

pub returns-in_err-push-2-clause-passed : goal.returns-in_err-push-2-clause-passed
returns-in_err-push-2-clause-passed c = let p = err_from_is_err_and c.from_residual-in_err-push-2.result c.from_residual-in_err-push-2.ensures.1 in rw p.1 tt

pub returns-in_err-push-clause-count : goal.returns-in_err-push-clause-count
returns-in_err-push-clause-count c = let p = err_from_is_err_and c.from_residual-in_err-push.result c.from_residual-in_err-push.ensures.1 in rw p.1 tt

pub returns-in_err-push-clause-evidence : goal.returns-in_err-push-clause-evidence
returns-in_err-push-clause-evidence c = let p = err_from_is_err_and c.from_residual-in_err-push.result c.from_residual-in_err-push.ensures.1 in rw p.1 tt

pub returns-in_err-push-clause-passed : goal.returns-in_err-push-clause-passed
returns-in_err-push-clause-passed c = let p = err_from_is_err_and c.from_residual-in_err-push.result c.from_residual-in_err-push.ensures.1 in rw p.1 tt
