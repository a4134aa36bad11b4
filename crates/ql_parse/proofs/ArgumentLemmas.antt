use Rattle.std.proofs.Common.{◌≡◌, ℕ, List, [], ◌∷◌, ◌++◌, map, refl, sym, ap, ◌∙◌}
use Rattle.ql_lang.specs.declared.expression.Expr.{Expr}
use Rattle.ql_lang.specs.declared.expression.Exprs.{Exprs}
use Rattle.ql_lang.specs.Arguments.{arguments}
use Rattle.ql_lang.specs.Expressions.{Expression, More, expression_of, operands_in, operands_of}
use Rattle.ql_lang.proofs.OperandLaws.{operands-arguments}
use Rattle.ql_grammar.specs.ExpressionGrammar.{operands}
use Rattle.ql_grammar.specs.Machine.{Reading, read}
use Rattle.ql_grammar.specs.Table.{AnExpr, Sym, Value}

operands_map : (es : List Expr) → operands (map expression_of es) ≡ operands_of es
operands_map [] = refl
operands_map (e ∷ es) = ap (λ o. More (expression_of e) o) (operands_map es)

-- the arguments of a call are those that were read
pub called : (list : Exprs) (es : List Expr) → arguments list ≡ es → operands (map expression_of es) ≡ operands_in list
called list es are = operands_map es ∙ ap (λ l. operands_of l) (sym are) ∙ operands-arguments list

-- one more
pub map_more : {A B : Type 0} (f : A → B) (xs : List A) (x : A) → map f (xs ++ x ∷ []) ≡ map f xs ++ f x ∷ []
map_more f [] x = refl
map_more f (y ∷ ys) x = ap (λ l. f y ∷ l) (map_more f ys x)

-- an operand is known by where it starts and by its tree
pub same_operand : (r : Reading) (below : List Sym) (vs : List Value) {m n : ℕ} {a b : Expression} → m ≡ n → a ≡ b → read r below (AnExpr n b ∷ vs) ≡ read r below (AnExpr m a ∷ vs)
same_operand r below vs start tree = rw (start, tree) refl
