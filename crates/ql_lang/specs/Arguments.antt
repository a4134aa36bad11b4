use Rattle.std.specs.Prelude.{List}
use Rattle.ql_lang.specs.declared.expression.Expr.{Expr}
use Rattle.ql_lang.specs.declared.expression.Exprs.{Exprs, out-Exprs}

-- the arguments of a call
abbrev pub arguments : Exprs → List Expr
arguments list = (out-Exprs list).items.items
