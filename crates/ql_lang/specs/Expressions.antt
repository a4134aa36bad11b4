use Rattle.std.specs.Prelude.{ℕ, ℤ, Bool, List, [], ◌∷◌}
use Rattle.ql_lang.specs.declared.name.Name.{Name}
use Rattle.ql_lang.specs.declared.expression.BinOp.{BinOp}
use Rattle.ql_lang.specs.declared.expression.Expr.{Expr}
use Rattle.ql_lang.specs.declared.expression.ExprNode.{ExprNode}
use Rattle.ql_lang.specs.declared.expression.Exprs.{Exprs}
use Rattle.ql_lang.specs.declared.expression.ExprNode.TheBlock as node

-- The trees of expressions as such, without the boxes that hold them. Each has its source offset first.
mutual
  pub data Expression : Type 0 where
    Number : ℕ → ℤ → Expression
    Literal : ℕ → List ℕ → Expression
    Truth : ℕ → Bool → Expression
    Nothing : ℕ → Expression
    Reading : ℕ → Name → Expression
    Calling : ℕ → Name → Operands → Expression
    Choosing : ℕ → Expression → Expression → Expression → Expression
    Combining : ℕ → BinOp → Expression → Expression → Expression
    Denying : ℕ → Expression → Expression
    Negating : ℕ → Expression → Expression

  pub data Operands : Type 0 where
    NoMore : Operands
    More : Expression → Operands → Operands

unfoldable mutual
  pub node_of : ℕ → ExprNode → Expression
  node_of at (node.Int n) = Number at n
  node_of at (node.Text text) = Literal at text
  node_of at (node.Bool b) = Truth at b
  node_of at node.Unit = Nothing at
  node_of at (node.Var name) = Reading at name
  node_of at (node.Call name args) = Calling at name (operands_in args)
  node_of at (node.If' p a x q b y r c z) = Choosing at (node_of a x) (node_of b y) (node_of c z)
  node_of at (node.Binary' op p a x q b y) = Combining at op (node_of a x) (node_of b y)
  node_of at (node.Not' p a x) = Denying at (node_of a x)
  node_of at (node.Neg' p a x) = Negating at (node_of a x)

  pub operands_in : Exprs → Operands
  operands_in (node.struct-Exprs shape all) = row_of all

  pub row_of : {m : _} → node.Row_of-Expr m → Operands
  row_of node.end_of-Expr = NoMore
  row_of (node.more_of-Expr a x rest) = More (node_of a x) (row_of rest)

abbrev pub expression_of : Expr → Expression
expression_of e = node_of e.at e.node

abbrev pub operands_of : List Expr → Operands
operands_of [] = NoMore
operands_of (e ∷ es) = More (expression_of e) (operands_of es)
