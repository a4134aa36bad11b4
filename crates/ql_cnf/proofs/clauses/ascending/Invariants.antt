use Rattle.std.proofs.Common.{◌≡◌, drop}
use Rattle.ql_cnf.specs.Literals.{clause_of, with_literals, IsAscendingByVariable}
use Rattle.ql_cnf.proofs.clauses.ascending.Given as goal

abbrev pub invariant-loop-lit : goal.invariant-loop-lit
invariant-loop-lit l = record {
  sorted : IsAscendingByVariable l.items.items;
  rest : clause_of l.lits ≡ with_literals l.items.items (drop l.lit-index l.lits);
}
