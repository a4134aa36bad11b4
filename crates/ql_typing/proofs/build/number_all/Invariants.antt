use Rattle.std.proofs.Common.{drop}
use Rattle.ql_typing.specs.Resolved.{ops_met}
use Rattle.ql_typing.specs.Invariant.{IsRestMet}
use Rattle.ql_typing.proofs.build.number_all.Given as goal

abbrev pub invariant-loop-var : goal.invariant-loop-var
invariant-loop-var l = IsRestMet ops_met l.initial.ops l.ops (drop l.var-index l.vars) l.vars
