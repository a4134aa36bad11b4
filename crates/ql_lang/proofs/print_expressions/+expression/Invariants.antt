use Rattle.std.proofs.Common.{◌≡◌, ◌++◌, codes, map, drop}
use Rattle.std.specs.List.{concat}
use Rattle.ql_lang.specs.Expressions.{operands_of}
use Rattle.ql_lang.specs.ExpressionSpelling.{operand_texts}
use Rattle.ql_lang.specs.Spelling.{listed}
use Rattle.ql_lang.proofs.print_expressions.+expression.Given as goal

abbrev pub invariant-push_arguments-loop-arg : goal.invariant-push_arguments-loop-arg
invariant-push_arguments-loop-arg l =
    l.out.items ++ concat (map (λ u. (codes ", ") ++ u) (operand_texts (operands_of (drop l.arg-index l.others)))) ≡ l.fn.out.items ++ listed (codes ", ") (operand_texts (operands_of l.args))
