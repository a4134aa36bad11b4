use Rattle.std.proofs.lemmas.Result.{err_from_is_err_and}
use Rattle.std.proofs.Common.{◌∙◌, arith, sym}
use Rattle.ql_eval.specs.Folds.{bind_word}
use Rattle.ql_eval.proofs.FoldSteps.{no_under}
use Rattle.ql_eval.proofs.emitted.with_emitted.Goals as goal

pub returns : goal.returns
returns c = sym (c.loop-k.invariant ∙ no_under bind_word c.loop-k.env c.args.binds.now c.args.values.now c.loop-k.k (omega arith))

pub returns-in_err-copy : goal.returns-in_err-copy
returns-in_err-copy c = let p = err_from_is_err_and c.from_residual.result c.from_residual.ensures.1 in rw p.1 tt

pub returns-in_err-push : goal.returns-in_err-push
returns-in_err-push c = let p = err_from_is_err_and c.from_residual-in_err-push.result c.from_residual-in_err-push.ensures.1 in rw p.1 tt
