use Rattle.std.proofs.lemmas.Result.{err_from_is_err_and}
use Rattle.std.proofs.Common.{◌∙◌}
use Rattle.std.proofs.lemmas.List.{take_all}
use Rattle.ql_schedule.proofs.making.groups.Goals as goal

pub returns : goal.returns
returns c = c.of.ensures ∙ c.loop-number.invariant ∙ take_all c.loop-number.number-index c.args.numbers.now c.loop-number-test.false

pub returns-in_err-push : goal.returns-in_err-push
returns-in_err-push c = let p = err_from_is_err_and c.from_residual.result c.from_residual.ensures.1 in rw p.1 tt
