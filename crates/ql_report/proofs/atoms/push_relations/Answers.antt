use Rattle.std.proofs.lemmas.Result.{err_from_is_err_and, on_ok_weaker}
use Rattle.ql_report.specs.Atoms.{relations_text}
use Rattle.ql_report.proofs.Loops.{relation_pieces}
use Rattle.ql_report.proofs.atoms.push_relations.Goals as goal

pub returns-in_err-push_relation : goal.returns-in_err-push_relation
returns-in_err-push_relation c = let p = err_from_is_err_and c.from_residual.result c.from_residual.ensures.1 in rw p.1 tt

pub returns-in_err-push_relation-2 : goal.returns-in_err-push_relation-2
returns-in_err-push_relation-2 c = let p = err_from_is_err_and c.from_residual-in_err-push_relation-2.result c.from_residual-in_err-push_relation-2.ensures.1 in rw p.1 tt

pub returns-in_err-push_relation-3 : goal.returns-in_err-push_relation-3
returns-in_err-push_relation-3 c = let p = err_from_is_err_and c.from_residual-in_err-push_relation-3.result c.from_residual-in_err-push_relation-3.ensures.1 in rw p.1 tt

pub returns-in_err-push_relation-4 : goal.returns-in_err-push_relation-4
returns-in_err-push_relation-4 c = let p = err_from_is_err_and c.from_residual-in_err-push_relation-4.result c.from_residual-in_err-push_relation-4.ensures.1 in rw p.1 tt

pub returns-in_err-push_relation-5 : goal.returns-in_err-push_relation-5
returns-in_err-push_relation-5 c = let p = err_from_is_err_and c.from_residual-in_err-push_relation-5.result c.from_residual-in_err-push_relation-5.ensures.1 in rw p.1 tt

pub returns-in_err-push_relation-6 : goal.returns-in_err-push_relation-6
returns-in_err-push_relation-6 c = let p = err_from_is_err_and c.from_residual-in_err-push_relation-6.result c.from_residual-in_err-push_relation-6.ensures.1 in rw p.1 tt

pub returns : goal.returns
unfolding relations_text
returns c = on_ok_weaker c.push_relation-7.result (λ last. relation_pieces _ _ _ _ _ _ _ _ _ _ _ _ _ _ _ c.in_ok-push_relation.ensures c.in_ok-push_relation-2.ensures c.in_ok-push_relation-3.ensures c.in_ok-push_relation-4.ensures c.in_ok-push_relation-5.ensures c.in_ok-push_relation-6.ensures last) c.push_relation-7.ensures
