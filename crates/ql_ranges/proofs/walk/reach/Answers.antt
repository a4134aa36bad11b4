use Rattle.std.proofs.lemmas.Result.{err_from_is_err_and}
use Rattle.ql_ranges.proofs.walk.reach.Goals as goal

pub visit_all-requires-clause-walk : goal.visit_all-requires-clause-walk
visit_all-requires-clause-walk c = c.in_ok-walk.ensures.walk c.effects.result.now

pub returns-in_err-visit_all : goal.returns-in_err-visit_all
returns-in_err-visit_all c = let p = err_from_is_err_and c.from_residual-in_err-visit_all.result c.from_residual-in_err-visit_all.ensures.1 in rw p.1 tt

pub returns-in_err-walk : goal.returns-in_err-walk
returns-in_err-walk c = let p = err_from_is_err_and c.from_residual.result c.from_residual.ensures.1 in rw p.1 tt
