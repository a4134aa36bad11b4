use Rattle.ql_cnf.specs.Circuits.{circuit_of}
use Rattle.ql_cnf.proofs.CircuitLemmas.{nodes}
use Rattle.ql_cnf.proofs.tseitin.+define.Given as goal

abbrev pub decreases-define : goal.decreases-define
decreases-define l = nodes (circuit_of l.g.now)
