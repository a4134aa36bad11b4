-- The least level of a contract: the first whose ground problem no assignment satisfies, where each lower
-- one is satisfied by some; none where every level's is satisfied.
use Rattle.std.specs.Prelude.{ℕ, Bool, List}
use Rattle.ql_cnf.specs.Satisfaction.{ClauseList, Satisfies, IsUnsatisfiable}
use Rattle.ql_lang.specs.Formulas.{Resolved}
use Rattle.ql_levels.specs.declared.level.Level.{Level}
use Rattle.ql_levels.specs.declared.level.Level.TheVariants.{Eventual, Causal, Wide, Strong}
use Rattle.ql_levels.specs.declared.level.TxnLevel.{TxnLevel}
use Rattle.ql_levels.specs.declared.level.TxnLevel.TheVariants.{Rc, Mav, Rr}
use Rattle.ql_ground.specs.Ground.{op_problem, txn_problem}

abbrev pub IsSatisfied : ClauseList → Type 0
IsSatisfied p = (a : List Bool) × Satisfies a p

abbrev pub IsLeastOpLevel : List ℕ → ℕ → Resolved → Level → Type 0
IsLeastOpLevel types o f Eventual = IsUnsatisfiable (op_problem types o Eventual f)
IsLeastOpLevel types o f Causal = IsSatisfied (op_problem types o Eventual f) × IsUnsatisfiable (op_problem types o Causal f)
IsLeastOpLevel types o f Wide =
    IsSatisfied (op_problem types o Eventual f) × IsSatisfied (op_problem types o Causal f)
    × IsUnsatisfiable (op_problem types o Wide f)
IsLeastOpLevel types o f Strong =
    IsSatisfied (op_problem types o Eventual f) × IsSatisfied (op_problem types o Causal f)
    × IsSatisfied (op_problem types o Wide f) × IsUnsatisfiable (op_problem types o Strong f)

abbrev pub IsLeastTxn : List ℕ → Resolved → TxnLevel → Type 0
IsLeastTxn types f Rc = IsUnsatisfiable (txn_problem types Rc f)
IsLeastTxn types f Mav = IsSatisfied (txn_problem types Rc f) × IsUnsatisfiable (txn_problem types Mav f)
IsLeastTxn types f Rr =
    IsSatisfied (txn_problem types Rc f) × IsSatisfied (txn_problem types Mav f)
    × IsUnsatisfiable (txn_problem types Rr f)
