use Rattle.std.proofs.lemmas.Result.{err_from_is_err_and}
use Rattle.ql_counter.proofs.blocks.push_block.Goals as goal

pub returns-in_err-push_part : goal.returns-in_err-push_part
returns-in_err-push_part c = let p = err_from_is_err_and c.from_residual.result c.from_residual.ensures.1 in rw p.1 tt

pub returns-in_err-push_part-2 : goal.returns-in_err-push_part-2
returns-in_err-push_part-2 c = let p = err_from_is_err_and c.from_residual-in_err-push_part-2.result c.from_residual-in_err-push_part-2.ensures.1 in rw p.1 tt

pub returns-in_err-push_part-3 : goal.returns-in_err-push_part-3
returns-in_err-push_part-3 c = let p = err_from_is_err_and c.from_residual-in_err-push_part-3.result c.from_residual-in_err-push_part-3.ensures.1 in rw p.1 tt
