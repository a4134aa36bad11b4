use Rattle.std.proofs.Common.{refl}
use Rattle.ql_lang.specs.Expressions.{node_of}
use Rattle.ql_parse.proofs.expression.combination.Goals as goal

pub returns-clause-tree : goal.returns-clause-tree
unfolding node_of
returns-clause-tree c = rw (c.in_ok-first.ensures.left, c.in_ok-first.ensures.right) refl
