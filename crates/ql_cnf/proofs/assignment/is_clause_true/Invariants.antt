use Rattle.std.proofs.Common.{◌≡◌, take, false}
use Rattle.ql_cnf.specs.Satisfaction.{clause_true}
use Rattle.ql_cnf.proofs.assignment.is_clause_true.Given as goal

abbrev pub invariant-loop-lit : goal.invariant-loop-lit
invariant-loop-lit l = clause_true l.values (take l.lit-index l.clause) ≡ false
