use Rattle.std.proofs.lemmas.Result.{err_from_is_err_and}
use Rattle.ql_cnf.specs.Circuits.{circuit_of}
use Rattle.ql_ground.proofs.Growth.{group_step}
use Rattle.ql_ground.proofs.body.ground_all.Goals as goal

pub loop-lit-preserved : goal.loop-lit-preserved
loop-lit-preserved c = group_step (circuit_of c.loop-lit.all) (circuit_of c.in_ok-all.all) c.in-Some.first.now c.in-Some.rest.now c.loop-lit.lit-index _ c.loop-lit-test.true c.loop-lit.invariant c.in_ok-all.ensures

pub returns-in_err-all : goal.returns-in_err-all
returns-in_err-all c = let p = err_from_is_err_and c.from_residual.result c.from_residual.ensures.1 in rw p.1 tt
