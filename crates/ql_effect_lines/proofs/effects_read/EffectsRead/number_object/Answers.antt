use Rattle.std.proofs.lemmas.Result.{err_from_is_err_and}
use Rattle.ql_effect_lines.proofs.effects_read.EffectsRead.number_object.Goals as goal

pub returns-in_err-number-clause-named : goal.returns-in_err-number-clause-named
returns-in_err-number-clause-named c = let p = err_from_is_err_and c.from_residual.result c.from_residual.ensures.1 in rw p.1 tt
