-- What satisfies the problem of a level satisfies the problems of the levels below it.
use Rattle.std.specs.Prelude.{ℕ, Bool, List}
use Rattle.ql_cnf.specs.Satisfaction.{ClauseList, Satisfies}
use Rattle.ql_lang.specs.Formulas.{Resolved}
use Rattle.ql_levels.specs.declared.level.Level.{Level}
use Rattle.ql_levels.specs.declared.level.TxnLevel.{TxnLevel}
use Rattle.ql_ground.specs.Ground.{op_problem, txn_problem}

-- each assignment that satisfies the first clause list satisfies the second
abbrev pub SatisfiesToo : ClauseList → ClauseList → Type 0
SatisfiesToo p q = (a : List Bool) → Satisfies a p → Satisfies a q

-- the problem of the higher level requires all that the problem of the lower one does
abbrev pub GivesLevel : Level → Level → Type 0
GivesLevel higher lower = (types : List ℕ) (o : ℕ) (f : Resolved) → SatisfiesToo (op_problem types o higher f) (op_problem types o lower f)

abbrev pub GivesTxnLevel : TxnLevel → TxnLevel → Type 0
GivesTxnLevel higher lower = (types : List ℕ) (f : Resolved) → SatisfiesToo (txn_problem types higher f) (txn_problem types lower f)
