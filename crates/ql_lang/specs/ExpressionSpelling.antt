use Rattle.std.specs.Prelude.{ℕ, Bool, true, false, List, [], ◌∷◌, ◌++◌, codes}
use Rattle.std.specs.Fmt.{signed_decimal}
use Rattle.ql_lang.specs.declared.expression.BinOp.{BinOp}
use Rattle.ql_lang.specs.declared.expression.BinOp.TheVariants.{Or, And, Eq, Ne, Lt, Le, Gt, Ge, Add, Sub, Mul}
use Rattle.ql_lang.specs.Expressions.{Expression, Number, Literal, Truth, Nothing, Reading, Calling, Choosing, Combining, Denying, Negating, Operands, NoMore, More}
use Rattle.ql_lang.specs.Spelling.{in_brackets, listed}

-- How expressions are spelled: one text for each tree, whatever its source offsets. There is a blank on both sides of a
-- binary operator and after `not` and a comma, and none between a minus and its operand. There are brackets around each
-- operand that is made by an operator or an `if`, and around the arguments of a call, and no others.

abbrev pub operator_word : BinOp → List ℕ
operator_word Or = codes "or"
operator_word And = codes "and"
operator_word Eq = codes "=="
operator_word Ne = codes "!="
operator_word Lt = codes "<"
operator_word Le = codes "<="
operator_word Gt = codes ">"
operator_word Ge = codes ">="
operator_word Add = codes "+"
operator_word Sub = codes "-"
operator_word Mul = codes "*"

abbrev pub truth_word : Bool → List ℕ
truth_word true = codes "true"
truth_word false = codes "false"

abbrev pub quoted : List ℕ → List ℕ
quoted text = codes "\"" ++ text ++ codes "\""

-- whether an expression is made by an operator or an `if`
abbrev pub is_compound : Expression → Bool
is_compound (Choosing at test a b) = true
is_compound (Combining at op a b) = true
is_compound (Denying at a) = true
is_compound (Negating at a) = true
is_compound _ = false

unfoldable mutual
  pub expression_text : Expression → List ℕ
  expression_text (Number at n) = signed_decimal n
  expression_text (Literal at text) = quoted text
  expression_text (Truth at b) = truth_word b
  expression_text (Nothing at) = codes "unit"
  expression_text (Reading at name) = name.word
  expression_text (Calling at name args) = name.word ++ codes "(" ++ listed (codes ", ") (operand_texts args) ++ codes ")"
  expression_text (Choosing at test a b) = codes "if " ++ expression_text test ++ codes " then " ++ expression_text a ++ codes " else " ++ expression_text b
  expression_text (Combining at op a b) =
      in_brackets (is_compound a) (expression_text a) ++ codes " " ++ operator_word op ++ codes " " ++ in_brackets (is_compound b) (expression_text b)
  expression_text (Denying at a) = codes "not " ++ in_brackets (is_compound a) (expression_text a)
  expression_text (Negating at a) = codes "-" ++ in_brackets (is_compound a) (expression_text a)

  pub operand_texts : Operands → List (List ℕ)
  operand_texts NoMore = []
  operand_texts (More a more) = expression_text a ∷ operand_texts more
