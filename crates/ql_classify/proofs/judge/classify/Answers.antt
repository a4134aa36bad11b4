use Rattle.std.proofs.Common.{refl, length, sym, subst}
use Rattle.std.proofs.lemmas.Result.{err_from_is_err_and}
use Rattle.ql_typing.specs.Operations.{all_ops}
use Rattle.ql_classify.specs.Outcome.{op_tests, every_txn_tests}
use Rattle.ql_classify.specs.Targets.{AreOpLevels}
use Rattle.ql_classify.proofs.TargetLists.{op_levels, classified}
use Rattle.ql_classify.proofs.TestOrder.{refusal_longer, refusal_after, ops_pass, all_pass}
use Rattle.ql_classify.proofs.judge.classify.Goals as goal

pub returns-in_err-ops-clause-refused : goal.returns-in_err-ops-clause-refused
returns-in_err-ops-clause-refused c =
    let p = err_from_is_err_and c.from_residual.result c.from_residual.ensures.1 in
    rw (p.1, p.2) (refusal_longer c.args.t.now.program (op_tests c.args.t.now.program) (every_txn_tests c.args.t.now.program) _ c.in_err-ops.ensures.refused)

pub judge_txns-requires : goal.judge_txns-requires
judge_txns-requires c = record {
  levels = subst (λ z. AreOpLevels c.args.t.now.program z) (sym c.deref.ensures.value)
      (op_levels c.args.t.now.program c.in_ok-ops.ops.items c.in_ok-ops.evidence.items c.in_ok-ops.ensures.count c.in_ok-ops.ensures.evidence);
}

pub returns-in_err-txns-clause-refused : goal.returns-in_err-txns-clause-refused
returns-in_err-txns-clause-refused c =
    let p = err_from_is_err_and c.from_residual-in_err-txns.result c.from_residual-in_err-txns.ensures.1 in
    let levels = op_levels c.args.t.now.program c.in_ok-ops.ops.items c.in_ok-ops.evidence.items c.in_ok-ops.ensures.count c.in_ok-ops.ensures.evidence in
    rw (p.1, p.2) (refusal_after c.args.t.now.program (op_tests c.args.t.now.program) (every_txn_tests c.args.t.now.program) _
    (ops_pass c.args.t.now.program (length (all_ops c.args.t.now.program.types)) c.in_ok-ops.ops.items c.in_ok-ops.ensures.count levels.each)
    c.in_err-txns.ensures.refused)

pub of-requires-2 : goal.of-requires-2
of-requires-2 c =
    let levels = op_levels c.args.t.now.program c.in_ok-ops.ops.items c.in_ok-ops.evidence.items c.in_ok-ops.ensures.count c.in_ok-ops.ensures.evidence in
    let accepted = all_pass c.args.t.now.program
    (ops_pass c.args.t.now.program (length (all_ops c.args.t.now.program.types)) c.in_ok-ops.ops.items c.in_ok-ops.ensures.count levels.each)
    c.in_ok-txns.ensures.passed in
    rw c.of.ensures (classified c.args.t.now.program c.in_ok-ops.ops.items c.in_ok-ops.ops.items c.in_ok-txns.txns.items c.in_ok-ops.evidence.items c.in_ok-txns.more.items c.append.new.self.items refl c.in_ok-ops.ensures.count c.in_ok-txns.ensures.count c.in_ok-ops.ensures.evidence c.in_ok-txns.ensures.evidence c.in_ok-append.ensures.items accepted)

pub returns-in_err-append-clause-accepted : goal.returns-in_err-append-clause-accepted
returns-in_err-append-clause-accepted c = let p = err_from_is_err_and c.from_residual-in_err-append.result c.from_residual-in_err-append.ensures.1 in rw p.1 tt

pub returns-in_err-append-clause-same : goal.returns-in_err-append-clause-same
returns-in_err-append-clause-same c = let p = err_from_is_err_and c.from_residual-in_err-append.result c.from_residual-in_err-append.ensures.1 in rw p.1 tt

pub returns-in_err-ops-clause-accepted : goal.returns-in_err-ops-clause-accepted
returns-in_err-ops-clause-accepted c = let p = err_from_is_err_and c.from_residual.result c.from_residual.ensures.1 in rw p.1 tt

pub returns-in_err-ops-clause-same : goal.returns-in_err-ops-clause-same
returns-in_err-ops-clause-same c = let p = err_from_is_err_and c.from_residual.result c.from_residual.ensures.1 in rw p.1 tt

pub returns-in_err-txns-clause-accepted : goal.returns-in_err-txns-clause-accepted
returns-in_err-txns-clause-accepted c = let p = err_from_is_err_and c.from_residual-in_err-txns.result c.from_residual-in_err-txns.ensures.1 in rw p.1 tt

pub returns-in_err-txns-clause-same : goal.returns-in_err-txns-clause-same
returns-in_err-txns-clause-same c = let p = err_from_is_err_and c.from_residual-in_err-txns.result c.from_residual-in_err-txns.ensures.1 in rw p.1 tt
