use Rattle.ql_verify.specs.Firsts.{IsFirstBelow}
use Rattle.ql_verify.proofs.judging.first_run.Given as goal

abbrev pub invariant-loop-d : goal.invariant-loop-d
invariant-loop-d l = IsFirstBelow l.t.program l.execution l.d l.first
