use Rattle.std.proofs.Common.{◌≡◌, take, true}
use Rattle.ql_cnf.specs.Satisfaction.{all_true}
use Rattle.ql_cnf.proofs.assignment.are_clauses_true.Given as goal

abbrev pub invariant-loop-clause : goal.invariant-loop-clause
invariant-loop-clause l = all_true l.values (take l.clause-index l.clauses) ≡ true
