use Rattle.std.proofs.lemmas.Result.{err_from_is_err_and}
use Rattle.ql_holds_files.proofs.effect_line.effect_line.Goals as goal

pub returns-in_err-seen : goal.returns-in_err-seen
returns-in_err-seen c = let p = err_from_is_err_and c.from_residual.result c.from_residual.ensures.1 in rw p.1 tt
