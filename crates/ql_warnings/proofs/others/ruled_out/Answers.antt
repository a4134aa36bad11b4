use Rattle.std.proofs.lemmas.Result.{err_from_is_err_and}
use Rattle.std.proofs.Common.{◌+◌, refl}
use Rattle.ql_warnings.proofs.Breaking.{op_known}
use Rattle.ql_warnings.proofs.others.ruled_out.Goals as goal

pub breaks-requires-clause-counter : goal.breaks-requires-clause-counter
breaks-requires-clause-counter c = (c.args.g, c.requires.counter)

pub breaks-requires-clause-there : goal.breaks-requires-clause-there
breaks-requires-clause-there c = (c.get.result.now, c.get.ensures, refl)

pub breaks-requires-clause-known : goal.breaks-requires-clause-known
breaks-requires-clause-known c = op_known c.args.t.now.program c.args.g c.args.c.now (c.loop-k.k + 1) c.get.result.now c.requires.counter c.get.ensures

pub returns-in_err-relations : goal.returns-in_err-relations
returns-in_err-relations c = let p = err_from_is_err_and c.from_residual.result c.from_residual.ensures.1 in rw p.1 tt
