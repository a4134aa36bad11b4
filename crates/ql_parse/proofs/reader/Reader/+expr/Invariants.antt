use Rattle.std.proofs.Common.{◌∷◌, length, map, drop, ◌+◌, ◌*◌}
use Rattle.ql_lang.specs.Expressions.{expression_of}
use Rattle.ql_grammar.specs.ExpressionGrammar.{Chosen}
use Rattle.ql_grammar.specs.Table.{APart, AnExpr, ExprAt, TheExprs, Arguments, MoreArguments}
use Rattle.ql_parse.specs.Precedences.{Begun}
use Rattle.ql_parse.specs.Readings.{Listing}
use Rattle.ql_parse.specs.declared.expression.Operand.{Operand}
use Rattle.ql_parse.proofs.reader.Reader.+expr.Given as goal

abbrev pub decreases-named : goal.decreases-named
decreases-named l = 9 * length l.self.now.tokens

abbrev pub decreases-bracketed : goal.decreases-bracketed
decreases-bracketed l = 9 * length l.self.now.tokens

abbrev pub decreases-arguments_of_call : goal.decreases-arguments_of_call
decreases-arguments_of_call l = 9 * length l.self.now.tokens + 8

abbrev pub decreases-group : goal.decreases-group
decreases-group l = 9 * length l.self.now.tokens

abbrev pub decreases-denial : goal.decreases-denial
decreases-denial l = 9 * length l.self.now.tokens

abbrev pub decreases-negation : goal.decreases-negation
decreases-negation l = 9 * length l.self.now.tokens

abbrev pub decreases-unary : goal.decreases-unary
decreases-unary l = 9 * length l.self.now.tokens + 1

abbrev pub decreases-operand : goal.decreases-operand
decreases-operand l = 9 * length l.self.now.tokens + 3

abbrev pub decreases-combined : goal.decreases-combined
decreases-combined l = 9 * length l.self.now.tokens

abbrev pub decreases-more_operands : goal.decreases-more_operands
decreases-more_operands l = 9 * length l.self.now.tokens + 1

abbrev pub decreases-operands : goal.decreases-operands
decreases-operands l = 9 * length l.self.now.tokens + 2

abbrev pub decreases-branch : goal.decreases-branch
decreases-branch l = 9 * length l.self.now.tokens

abbrev pub decreases-branches : goal.decreases-branches
decreases-branches l = 9 * length l.self.now.tokens + 1

abbrev pub decreases-choice : goal.decreases-choice
decreases-choice l = 9 * length l.self.now.tokens

abbrev pub decreases-whole_expression : goal.decreases-whole_expression
decreases-whole_expression l = 9 * length l.self.now.tokens + 7

abbrev pub invariant-arguments_of_call-more : goal.invariant-arguments_of_call-more
invariant-arguments_of_call-more l = Listing (λ below. APart Arguments ∷ below) (λ below. APart (ExprAt Chosen) ∷ below) MoreArguments (λ (o : Operand). AnExpr o.start (expression_of o.expr)) (λ (o : Operand). o.expr) (λ es. TheExprs (map expression_of es)) l.found.items l.fn.self l.self

abbrev pub decreases-arguments_of_call-more : goal.decreases-arguments_of_call-more
decreases-arguments_of_call-more l = length l.self.tokens

abbrev pub invariant-operands-loop-level : goal.invariant-operands-loop-level
invariant-operands-loop-level l = Begun l.fn.precedence (drop l.level-index l.level-items) (AnExpr l.left.start (expression_of l.left.expr)) l.fn.self l.self
