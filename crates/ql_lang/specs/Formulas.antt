use Rattle.std.specs.Prelude.{List}
use Rattle.ql_lang.specs.Trees.{Relation, relation_of}
use Rattle.ql_lang.specs.declared.formula.Formula.{Formula}
use Rattle.ql_lang.specs.declared.formula.OpChoice.{OpChoice}
use Rattle.ql_lang.specs.declared.formula.Term.{Term}
use Rattle.ql_lang.specs.declared.formula.Body.{Body, True, Apply, And', Or', Implies', Txn}

-- The trees of formulas as such, without the boxes that hold them.

-- what a formula says
pub data Statement : Type 0 where
  Always : Statement
  Related : Relation → Term → Term → Statement
  BothOf : Statement → Statement → Statement
  OneOf : Statement → Statement → Statement
  IfThen : Statement → Statement → Statement
  InOneTxn : List Term → List Term → Statement

-- the operations that each variable ranges over, and what holds of the variables
pub record Resolved : Type 0 where
  pub vars : List OpChoice
  pub body : Statement

abbrev pub statement_of : Body → Statement
statement_of True = Always
statement_of (Apply r x y) = Related (relation_of r) x y
statement_of (And' p a q b) = BothOf (statement_of a) (statement_of b)
statement_of (Or' p a q b) = OneOf (statement_of a) (statement_of b)
statement_of (Implies' p a q b) = IfThen (statement_of a) (statement_of b)
statement_of (Txn members others) = InOneTxn members others

abbrev pub resolved_of : Formula → Resolved
resolved_of f = record { vars = f.vars; body = statement_of f.body }
