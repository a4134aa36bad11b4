use Rattle.std.proofs.lemmas.Result.{err_from_is_err_and}
use Rattle.ql_typing.proofs.build.+relation.Goals as goal

pub copy_boxed-returns-in_err-copy : goal.copy_boxed-returns-in_err-copy
copy_boxed-returns-in_err-copy t c = let p = err_from_is_err_and c.from_residual.result c.from_residual.ensures.1 in rw p.1 tt

pub copy_boxed-returns-in_err-new : goal.copy_boxed-returns-in_err-new
copy_boxed-returns-in_err-new t c = let p = err_from_is_err_and c.from_residual-in_err-new.result c.from_residual-in_err-new.ensures.1 in rw p.1 tt

pub copy_rel-returns-in_err-left-in-Inter : goal.copy_rel-returns-in_err-left-in-Inter
copy_rel-returns-in_err-left-in-Inter t c = let p = err_from_is_err_and c.from_residual-in_err-left-in-Inter.result c.from_residual-in_err-left-in-Inter.ensures.1 in rw p.1 tt

pub copy_rel-returns-in_err-left-in-Union : goal.copy_rel-returns-in_err-left-in-Union
copy_rel-returns-in_err-left-in-Union t c = let p = err_from_is_err_and c.from_residual.result c.from_residual.ensures.1 in rw p.1 tt

pub copy_rel-returns-in_err-right-in-Inter : goal.copy_rel-returns-in_err-right-in-Inter
copy_rel-returns-in_err-right-in-Inter t c = let p = err_from_is_err_and c.from_residual-in_err-right-in-Inter.result c.from_residual-in_err-right-in-Inter.ensures.1 in rw p.1 tt

pub copy_rel-returns-in_err-right-in-Union : goal.copy_rel-returns-in_err-right-in-Union
copy_rel-returns-in_err-right-in-Union t c = let p = err_from_is_err_and c.from_residual-in_err-right-in-Union.result c.from_residual-in_err-right-in-Union.ensures.1 in rw p.1 tt
