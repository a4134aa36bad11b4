use Rattle.std.proofs.lemmas.Result.{err_from_is_err_and}
use Rattle.ql_warnings.proofs.words.warning_text.Goals as goal

pub returns-in_err-from_slice-in-AsksNothing : goal.returns-in_err-from_slice-in-AsksNothing
returns-in_err-from_slice-in-AsksNothing c = let p = err_from_is_err_and c.from_residual.result c.from_residual.ensures.1 in rw p.1 tt
