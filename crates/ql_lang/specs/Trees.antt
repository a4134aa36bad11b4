use Rattle.std.specs.Prelude.{ℕ, List}
use Rattle.ql_lang.specs.declared.relation.RelName.{RelName}
use Rattle.ql_lang.specs.declared.relation.Rel.{Rel, Base, Union', Inter'}
use Rattle.ql_lang.specs.declared.contract.Point.{Point}
use Rattle.ql_lang.specs.declared.contract.Var.{Var}
use Rattle.ql_lang.specs.declared.contract.Prop.{Prop, True, Apply, And', Or', Implies', Txn}
use Rattle.ql_lang.specs.declared.contract.Contract.{Contract}

-- The trees of contracts as such, without the boxes that hold them.

-- a relation: a named one with its source offset, or the union or intersection of two
pub data Relation : Type 0 where
  Basic : RelName → ℕ → Relation
  Union : Relation → Relation → Relation
  Intersection : Relation → Relation → Relation

-- what a contract says
pub data Proposition : Type 0 where
  Truth : Proposition
  Application : Relation → Point → Point → Proposition
  Conjunction : Proposition → Proposition → Proposition
  Disjunction : Proposition → Proposition → Proposition
  Implication : Proposition → Proposition → Proposition
  InTxn : ℕ → List Point → List Point → Proposition

-- variables and what holds of them
pub record Sentence : Type 0 where
  pub vars : List Var
  pub body : Proposition

abbrev pub relation_of : Rel → Relation
relation_of (Base name at) = Basic name at
relation_of (Union' p a q b) = Union (relation_of a) (relation_of b)
relation_of (Inter' p a q b) = Intersection (relation_of a) (relation_of b)

abbrev pub proposition_of : Prop → Proposition
proposition_of True = Truth
proposition_of (Apply r a b) = Application (relation_of r) a b
proposition_of (And' p a q b) = Conjunction (proposition_of a) (proposition_of b)
proposition_of (Or' p a q b) = Disjunction (proposition_of a) (proposition_of b)
proposition_of (Implies' p a q b) = Implication (proposition_of a) (proposition_of b)
proposition_of (Txn at first second) = InTxn at first second

abbrev pub sentence_of : Contract → Sentence
sentence_of c = record { vars = c.vars; body = proposition_of c.body }
