-- a call by the values of its arguments
use Rattle.std.proofs.Common.{◌≡◌, ◌≤◌, ◌<◌, ℕ, List, [], ◌∷◌, Option, None, Result, IfOk, length, get_or, drop, refl, sym, ap, ◌∙◌, subst, arith}
use Rattle.ql_lang.specs.declared.name.Name.{Name}
use Rattle.ql_lang.specs.declared.expression.Expr.{Expr}
use Rattle.ql_lang.specs.declared.expression.Exprs.{Exprs}
use Rattle.ql_lang.specs.declared.expression.ExprNode.TheBlock as node
use Rattle.ql_lang.specs.Expressions.{expression_of, node_of, operands_in, operands_of}
use Rattle.ql_typing.specs.declared.function.Function.{Function}
use Rattle.ql_typing.specs.Functions.{function_named}
use Rattle.ql_value.specs.declared.value.Value.{Value}
use Rattle.ql_eval.specs.Evaluation.{Bindings, call_value, called, called_on, value_in, value_of, values_of}

-- a name's value
pub named_value : (env : Bindings) (x : Expr) (n : Name) → x.node ≡ node.Var n → value_of env (expression_of x) ≡ value_in env n.word
unfolding value_of node_of
named_value env x n e = rw e refl

pub empty_call : (env : Bindings) (f : List ℕ) (xs : List Expr) → length xs ≡ 0 → None ≡ call_value env f (operands_of xs)
unfolding value_of
empty_call env f [] e = refl
empty_call env f (x ∷ xs) e = absurd (omega arith)

-- a call by its first argument and the others
pub call_is : (env : Bindings) (f : List ℕ) (xs : List Expr) (x : Expr) → 0 < length xs → x ≡ get_or xs 0 x
    → call_value env f (operands_of xs) ≡ called_on (function_named f) (value_of env (expression_of x)) (values_of env (operands_of (drop 1 xs)))
unfolding value_of
call_is env f [] x lt is = absurd (omega arith)
call_is env f (y ∷ xs) x lt is = ap (λ z. called_on (function_named f) (value_of env (expression_of z)) (values_of env (operands_of xs))) (sym is)

-- the same, by what was found of the function and the first argument
pub call_again : (env : Bindings) (f : List ℕ) (xs : List Expr) (x : Expr) (args : Exprs) (g : Option Function) (v : Option Value) → 0 < length xs → x ≡ get_or xs 0 x
    → operands_of xs ≡ operands_in args → g ≡ function_named f → value_of env (expression_of x) ≡ v
    → called_on g v (values_of env (operands_of (drop 1 xs))) ≡ call_value env f (operands_in args)
call_again env f xs x args g v lt is same g_is v_is =
    ap (λ h. called_on h v (values_of env (operands_of (drop 1 xs)))) g_is
    ∙ ap (λ w. called_on (function_named f) w (values_of env (operands_of (drop 1 xs)))) (sym v_is)
    ∙ sym (call_is env f xs x lt is) ∙ ap (λ os. call_value env f os) same

-- the arguments behind the first
pub no_others : (env : Bindings) (xs : List Expr) → length xs ≤ 1 → values_of env (operands_of (drop 1 xs)) ≡ []
unfolding value_of
no_others env [] few = refl
no_others env (x ∷ []) few = refl
no_others env (x ∷ y ∷ xs) few = absurd (omega arith)

pub one_other : (env : Bindings) (xs : List Expr) (b : Expr) (v : Option Value) → length xs ≡ 2 → b ≡ get_or xs 1 b → v ≡ value_of env (expression_of b)
    → values_of env (operands_of (drop 1 xs)) ≡ v ∷ []
unfolding value_of
one_other env [] b v long is v_is = absurd (omega arith)
one_other env (x ∷ []) b v long is v_is = absurd (omega arith)
one_other env (x ∷ y ∷ []) b v long is v_is = rw (v_is, is) refl
one_other env (x ∷ y ∷ z ∷ xs) b v long is v_is = absurd (omega arith)

pub two_others : (env : Bindings) (xs : List Expr) (b c : Expr) (v w : Option Value) → length xs ≡ 3 → b ≡ get_or xs 1 b → c ≡ get_or xs 2 c
    → v ≡ value_of env (expression_of b) → w ≡ value_of env (expression_of c)
    → values_of env (operands_of (drop 1 xs)) ≡ v ∷ w ∷ []
unfolding value_of
two_others env [] b c v w long is js v_is w_is = absurd (omega arith)
two_others env (x ∷ []) b c v w long is js v_is w_is = absurd (omega arith)
two_others env (x ∷ y ∷ []) b c v w long is js v_is w_is = absurd (omega arith)
two_others env (x ∷ y ∷ z ∷ []) b c v w long is js v_is w_is = rw (v_is, w_is, is, js) refl
two_others env (x ∷ y ∷ z ∷ u ∷ xs) b c v w long is js v_is w_is = absurd (omega arith)

pub more_others : (env : Bindings) (f : Option Function) (a : Value) (xs : List Expr) → 1 < length xs → ¬ length xs ≡ 2 → ¬ length xs ≡ 3
    → called f a (values_of env (operands_of (drop 1 xs))) ≡ None
unfolding value_of
more_others env f a [] some h k = absurd (omega arith)
more_others env f a (x ∷ []) some h k = absurd (omega arith)
more_others env f a (x ∷ y ∷ []) some h k = absurd (h (omega arith))
more_others env f a (x ∷ y ∷ z ∷ []) some h k = absurd (k (omega arith))
more_others env f a (x ∷ y ∷ z ∷ u ∷ xs) some h k = refl

-- an answer for one of two equal values is one for the other
pub same_answer : {E : Type 0} (r : Result (Option Value) E) (a b : Option Value) → a ≡ b → IfOk r (λ v. v ≡ a) → IfOk r (λ v. v ≡ b)
same_answer r a b e h = subst (λ s. IfOk r (λ v. v ≡ s)) e h
