use Rattle.std.proofs.lemmas.Result.{err_from_is_err_and}
use Rattle.std.proofs.Common.{length, ap, ◌∙◌, arith}
use Rattle.ql_classify.specs.Targets.{txn_goals, step_txn_level}
use Rattle.ql_classify.proofs.Climbing.{search_refuted}
use Rattle.ql_classify.proofs.LeastLevels.{txn_evidence}
use Rattle.ql_classify.proofs.evidence.find_txn_level.Goals as goal

pub overflow_add-result : goal.overflow_add-result
overflow_add-result c = omega (arith, c.requires.txn, c.requires.few, c.ops.ensures.few)

pub returns-in-Refuted-clause-least : goal.returns-in-Refuted-clause-least
returns-in-Refuted-clause-least c =
    txn_evidence c.args.t.now.program c.args.d.0 c.txn_level_above.result c.in-Refuted.evidence
    (search_refuted c.args.t.now.program (txn_goals c.args.d.0) c.in_ok-evidence.field-0 c.in-Refuted.evidence c.in_ok-evidence.ensures c.in-Refuted.is)
    (c.txn_level_above.ensures ∙ ap (λ z. step_txn_level (length z)) c.deref.ensures.value)

pub returns-in_err-evidence-clause-least : goal.returns-in_err-evidence-clause-least
returns-in_err-evidence-clause-least c = let p = err_from_is_err_and c.from_residual.result c.from_residual.ensures.1 in rw p.1 tt
