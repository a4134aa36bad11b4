use Rattle.std.proofs.lemmas.Result.{err_from_is_err_and}
use Rattle.std.proofs.Common.{length, ap, ◌∙◌}
use Rattle.ql_classify.specs.Targets.{op_goals, step_level}
use Rattle.ql_classify.proofs.Climbing.{search_refuted}
use Rattle.ql_classify.proofs.LeastLevels.{op_evidence}
use Rattle.ql_classify.proofs.evidence.find_level.Goals as goal

pub returns-in-Refuted-clause-least : goal.returns-in-Refuted-clause-least
returns-in-Refuted-clause-least c =
    op_evidence c.args.t.now.program c.args.o.0 c.level_above.result c.in-Refuted.evidence
    (search_refuted c.args.t.now.program (op_goals c.args.o.0) c.in_ok-evidence.field-0 c.in-Refuted.evidence c.in_ok-evidence.ensures c.in-Refuted.is)
    (c.level_above.ensures ∙ ap (λ z. step_level (length z)) c.deref.ensures.value)

pub returns-in_err-evidence-clause-least : goal.returns-in_err-evidence-clause-least
returns-in_err-evidence-clause-least c = let p = err_from_is_err_and c.from_residual.result c.from_residual.ensures.1 in rw p.1 tt
