use Rattle.ql_lang.specs.Formulas.{resolved_of}
use Rattle.ql_verify.proofs.Judged.{first_at}
use Rattle.ql_verify.proofs.judging.first_among.Goals as goal

pub returns-in-Some : goal.returns-in-Some
returns-in-Some c = first_at c.args.execution.now (resolved_of c.args.contract.now) c.args.runs.now c.loop-run.run-index _ c.loop-run-test.true c.in-Some.ensures c.loop-run.invariant
