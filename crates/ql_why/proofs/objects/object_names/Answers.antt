use Rattle.std.proofs.lemmas.Result.{err_from_is_err_and}
use Rattle.ql_why.proofs.objects.object_names.Goals as goal

pub returns-in_err-number : goal.returns-in_err-number
returns-in_err-number c = let p = err_from_is_err_and c.from_residual.result c.from_residual.ensures.1 in rw p.1 tt

pub returns-in_err-number-2 : goal.returns-in_err-number-2
returns-in_err-number-2 c = let p = err_from_is_err_and c.from_residual-in_err-number-2.result c.from_residual-in_err-number-2.ensures.1 in rw p.1 tt

pub returns-in_err-number-3 : goal.returns-in_err-number-3
returns-in_err-number-3 c = let p = err_from_is_err_and c.from_residual-in_err-number-3.result c.from_residual-in_err-number-3.ensures.1 in rw p.1 tt

pub returns-in_err-number-4 : goal.returns-in_err-number-4
returns-in_err-number-4 c = let p = err_from_is_err_and c.from_residual-in_err-number-4.result c.from_residual-in_err-number-4.ensures.1 in rw p.1 tt

pub returns-in_err-number-5 : goal.returns-in_err-number-5
returns-in_err-number-5 c = let p = err_from_is_err_and c.from_residual-in_err-number-5.result c.from_residual-in_err-number-5.ensures.1 in rw p.1 tt

pub returns-in_err-number-6 : goal.returns-in_err-number-6
returns-in_err-number-6 c = let p = err_from_is_err_and c.from_residual-in_err-number-6.result c.from_residual-in_err-number-6.ensures.1 in rw p.1 tt

pub returns-in_err-number-7 : goal.returns-in_err-number-7
returns-in_err-number-7 c = let p = err_from_is_err_and c.from_residual-in_err-number-7.result c.from_residual-in_err-number-7.ensures.1 in rw p.1 tt
