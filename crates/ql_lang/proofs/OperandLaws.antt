use Rattle.std.proofs.Common.{◌≡◌, refl, ap, rules}
use Rattle.ql_lang.specs.declared.expression.Exprs.{Exprs, items-the_row-Expr}
use Rattle.ql_lang.specs.declared.expression.ExprNode.{the_lemmas}
use Rattle.ql_lang.specs.declared.expression.ExprNode.TheBlock as node
use Rattle.ql_lang.specs.Arguments.{arguments}
use Rattle.ql_lang.specs.Expressions.{More, node_of, operands_of, operands_in, row_of}

rows : {m : _} (all : node.Row_of-Expr m) → operands_of (items-the_row-Expr m all) ≡ row_of all
unfolding row_of
rows node.end_of-Expr = refl
rows (node.more_of-Expr a x rest) = ap (λ r. More (node_of a x) r) (rows rest)

-- a call's arguments are seen alike as a list and in their tree
pub operands-arguments : (list : Exprs) → operands_of (arguments list) ≡ operands_in list
unfolding operands_in
operands-arguments (node.struct-Exprs shape all) = search (rules, the_lemmas, rows all)
