use Rattle.std.proofs.Common.{◌≡◌, List, [], ◌∷◌, Option, Some, None, Bool, true, false, refl, sym, ap, subst, cond}
use Rattle.ql_lang.specs.declared.expression.BinOp.{BinOp}
use Rattle.ql_grammar.specs.declared.precedence.Precedence.{Precedence}
use Rattle.ql_grammar.specs.declared.precedence.Precedence.TheVariants.{Product, Sum, Comparison, Conjunction, Disjunction}
use Rattle.ql_grammar.specs.declared.terminal.Terminal.{Terminal}
use Rattle.ql_grammar.specs.Terminals.{is_same, number}
use Rattle.ql_grammar.specs.Tokens.{Lexeme}
use Rattle.ql_grammar.specs.ExpressionGrammar.{IsOperator, times, plus, minus, equal, unequal, less, at_most, greater, at_least, and, or}
use Rattle.ql_grammar.specs.Table.{operators, operator_in, operator_at}
use Rattle.ql_grammar.specs.Machine.{is_ahead, operator_of, operator_ahead}
use Rattle.ql_grammar.proofs.TerminalLemmas.{same_terminal}

-- what was found is an operator
abbrev pub Found : Precedence → Terminal → Option BinOp → Type 0
Found l k (Some o) = IsOperator l k o
Found l k None = Unit {0}

abbrev AreOperators : Precedence → List (Terminal × BinOp) → Type 0
AreOperators l [] = Unit {0}
AreOperators l (row ∷ rows) = IsOperator l row.0 row.1 × AreOperators l rows

found_if : (l : Precedence) (k j : Terminal) (o : BinOp) (other : Option BinOp) (b : Bool) → (b ≡ true → k ≡ j) → IsOperator l j o → Found l k other → Found l k (cond b (Some o) other)
found_if l k j o other true same is rest = subst (λ i. IsOperator l i o) (sym (same refl)) is
found_if l k j o other false same is rest = rest

found_in : (l : Precedence) (k : Terminal) (rows : List (Terminal × BinOp)) → AreOperators l rows → Found l k (operator_in rows k)
found_in l k [] all = tt
found_in l k (row ∷ rows) all = found_if l k row.0 row.1 (operator_in rows k) (is_same k row.0) (same_terminal k row.0) all.0 (found_in l k rows all.1)

are_operators : (l : Precedence) → AreOperators l (operators l)
are_operators Product = (times, tt)
are_operators Sum = (plus, (minus, tt))
are_operators Comparison = (equal, (unequal, (less, (at_most, (greater, (at_least, tt))))))
are_operators Conjunction = (and, tt)
are_operators Disjunction = (or, tt)

-- the operator that a terminal is by the table is one of the precedence
pub is_operator : (l : Precedence) (k : Terminal) → Found l k (operator_at l k)
unfolding operator_at
is_operator l k = found_in l k (operators l) (are_operators l)

-- the table has each operator
pub operator_found : {l : Precedence} {k : Terminal} {o : BinOp} → IsOperator l k o → operator_at l k ≡ Some o
unfolding operator_at is_same number
operator_found times = refl
operator_found plus = refl
operator_found minus = refl
operator_found equal = refl
operator_found unequal = refl
operator_found less = refl
operator_found at_most = refl
operator_found greater = refl
operator_found at_least = refl
operator_found and = refl
operator_found or = refl

-- each precedence has an operator
pub some_operator : (l : Precedence) → (k : Terminal) × (o : BinOp) × IsOperator l k o
some_operator Product = (_, _, times)
some_operator Sum = (_, _, plus)
some_operator Comparison = (_, _, equal)
some_operator Conjunction = (_, _, and)
some_operator Disjunction = (_, _, or)

of_token : (rows : List (Terminal × BinOp)) (t : Lexeme) (ts : List Lexeme) → operator_of rows (t ∷ ts) ≡ operator_in rows t.what
unfolding is_ahead
of_token [] t ts = refl
of_token (row ∷ rows) t ts = ap (λ o. cond (is_same t.what row.0) (Some row.1) o) (of_token rows t ts)

-- the operator ahead is that of the next token
pub ahead_is : (l : Precedence) (t : Lexeme) (ts : List Lexeme) → operator_ahead l (t ∷ ts) ≡ operator_at l t.what
unfolding operator_at
ahead_is l t ts = of_token (operators l) t ts

none_of : (rows : List (Terminal × BinOp)) → operator_of rows [] ≡ None
unfolding is_ahead
none_of [] = refl
none_of (row ∷ rows) = none_of rows

-- at the end there is none
pub none_ahead : (l : Precedence) → operator_ahead l [] ≡ None
none_ahead l = none_of (operators l)
