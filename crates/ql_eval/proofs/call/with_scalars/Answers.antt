use Rattle.std.proofs.lemmas.Result.{err_from_is_err_and}
use Rattle.ql_eval.proofs.call.with_scalars.Goals as goal

pub returns-in_err-get-in-Get : goal.returns-in_err-get-in-Get
returns-in_err-get-in-Get c = let p = err_from_is_err_and c.from_residual-in_err-get-in-Get.result c.from_residual-in_err-get-in-Get.ensures.1 in rw p.1 tt

pub returns-in_err-put-in-Put : goal.returns-in_err-put-in-Put
returns-in_err-put-in-Put c = let p = err_from_is_err_and c.from_residual.result c.from_residual.ensures.1 in rw p.1 tt
