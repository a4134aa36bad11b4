use Rattle.std.proofs.Common.{◌≡◌, ℕ, List, [], ◌∷◌, Some, None, false, refl}
use Rattle.ql_lang.specs.declared.expression.BinOp.{BinOp}
use Rattle.ql_lang.specs.Expressions.{Expression}
use Rattle.ql_grammar.specs.declared.precedence.Precedence.TheVariants.{Product, Sum, Comparison as Compare, Conjunction, Disjunction}
use Rattle.ql_grammar.specs.declared.terminal.Terminal.{Terminal}
use Rattle.ql_grammar.specs.declared.terminal.Terminal.TheVariants.{IfWord, ThenWord, ElseWord, WhenWord, OpenParen, CloseParen, Comma, Semicolon}
use Rattle.ql_grammar.specs.Terminals.{is_same, number as number_in}
use Rattle.ql_grammar.specs.declared.role.Role.TheVariants.{Makes, Closes}
use Rattle.ql_grammar.specs.Tokens.{Marked}
use Rattle.ql_grammar.specs.ExpressionGrammar.{ExprPart, Unary, Multiplied, Added, Compared, Conjoined, Disjoined, Chosen, IsOperator, times, plus, minus, equal, unequal, less, at_most, greater, at_least, and, or, ReadsExpr, ReadsArguments, number, text, true_value, false_value, unit_value, variable, call, group, denial, negation, unary, product, multiplied, sum, added, comparison, compared, both, conjoined, either, disjoined, choice, one, more}
use Rattle.ql_grammar.specs.Table.{Value, AnOperator, AnExpr, TheExprs, Sym, Word, Do, APart, Then, ExprAt, Arguments, MoreTimes, MorePlus, Comparison, MoreConjoined, MoreDisjoined, Called, MoreArguments, operator_at, combine, to_group, to_call, to_denial, to_negation, to_choice, to_arguments, add_argument}
use Rattle.ql_grammar.specs.Machine.{lead, first_fit, step, finish}
use Rattle.ql_grammar.proofs.Operators.{operator_found}
use Rattle.ql_grammar.proofs.Paths.{Path, SameHead, take, via, then, doing, IsClear, IsNoOperator, pass, as_part}

-- What the grammar of expressions reads, the machine reads too: to the same tree, each token in the same role.

-- what may not follow a part

abbrev pub NoCall : List Marked → Type 0
NoCall rest = IsClear OpenParen rest

abbrev pub NoTimes : List Marked → Type 0
NoTimes rest = NoCall rest × IsNoOperator Product rest

abbrev pub NoPlus : List Marked → Type 0
NoPlus rest = NoTimes rest × IsNoOperator Sum rest

abbrev pub NoComparison : List Marked → Type 0
NoComparison rest = NoPlus rest × IsNoOperator Compare rest

abbrev pub NoAnd : List Marked → Type 0
NoAnd rest = NoComparison rest × IsNoOperator Conjunction rest

abbrev pub NoOr : List Marked → Type 0
NoOr rest = NoAnd rest × IsNoOperator Disjunction rest

abbrev ClearExpr : ExprPart → List Marked → Type 0
ClearExpr Unary rest = NoCall rest
ClearExpr Multiplied rest = NoCall rest
ClearExpr Added rest = NoTimes rest
ClearExpr Compared rest = NoComparison rest
ClearExpr Conjoined rest = NoComparison rest
ClearExpr Disjoined rest = NoAnd rest
ClearExpr Chosen rest = NoOr rest

abbrev after_expr : ExprPart → List Sym → List Sym
after_expr Unary below = below
after_expr Multiplied below = Then MoreTimes ∷ below
after_expr Added below = Then MorePlus ∷ below
after_expr Compared below = below
after_expr Conjoined below = Then MoreConjoined ∷ below
after_expr Disjoined below = Then MoreDisjoined ∷ below
after_expr Chosen below = below

-- the same of a token that does follow

abbrev NoCallAt : Terminal → Type 0
NoCallAt k = is_same k OpenParen ≡ false

abbrev NoTimesAt : Terminal → Type 0
NoTimesAt k = NoCallAt k × (operator_at Product k ≡ None)

abbrev NoPlusAt : Terminal → Type 0
NoPlusAt k = NoTimesAt k × (operator_at Sum k ≡ None)

abbrev NoComparisonAt : Terminal → Type 0
NoComparisonAt k = NoPlusAt k × (operator_at Compare k ≡ None)

abbrev NoAndAt : Terminal → Type 0
NoAndAt k = NoComparisonAt k × (operator_at Conjunction k ≡ None)

abbrev NoOrAt : Terminal → Type 0
NoOrAt k = NoAndAt k × (operator_at Disjunction k ≡ None)

-- before an operator nothing that binds more follows

times_clear : {k : Terminal} {o : BinOp} → IsOperator Product k o → NoCallAt k
unfolding is_same number_in operator_at
times_clear times = refl

plus_clear : {k : Terminal} {o : BinOp} → IsOperator Sum k o → NoTimesAt k
unfolding is_same number_in operator_at
plus_clear plus = (refl, refl)
plus_clear minus = (refl, refl)

comparison_clear : {k : Terminal} {o : BinOp} → IsOperator Compare k o → NoPlusAt k
unfolding is_same number_in operator_at
comparison_clear equal = ((refl, refl), refl)
comparison_clear unequal = ((refl, refl), refl)
comparison_clear less = ((refl, refl), refl)
comparison_clear at_most = ((refl, refl), refl)
comparison_clear greater = ((refl, refl), refl)
comparison_clear at_least = ((refl, refl), refl)

and_clear : {k : Terminal} {o : BinOp} → IsOperator Conjunction k o → NoComparisonAt k
unfolding is_same number_in operator_at
and_clear and = (((refl, refl), refl), refl)

or_clear : {k : Terminal} {o : BinOp} → IsOperator Disjunction k o → NoAndAt k
unfolding is_same number_in operator_at
or_clear or = ((((refl, refl), refl), refl), refl)

-- what ends a whole expression

pub at_paren : NoOrAt CloseParen
unfolding is_same number_in operator_at
at_paren = (((((refl, refl), refl), refl), refl), refl)

pub at_comma : NoOrAt Comma
unfolding is_same number_in operator_at
at_comma = (((((refl, refl), refl), refl), refl), refl)

pub at_then : NoOrAt ThenWord
unfolding is_same number_in operator_at
at_then = (((((refl, refl), refl), refl), refl), refl)

pub at_else : NoOrAt ElseWord
unfolding is_same number_in operator_at
at_else = (((((refl, refl), refl), refl), refl), refl)

pub at_semicolon : NoOrAt Semicolon
unfolding is_same number_in operator_at
at_semicolon = (((((refl, refl), refl), refl), refl), refl)

pub at_when : NoOrAt WhenWord
unfolding is_same number_in operator_at
at_when = (((((refl, refl), refl), refl), refl), refl)

-- no part but a whole expression begins with `if`

abbrev IsNoChoice : ExprPart → Type 0
IsNoChoice Chosen = ⊥
IsNoChoice _ = Unit {0}

no_if : {part : ExprPart} {ts rest : List Marked} {s : ℕ} {e : Expression} → ReadsExpr part ts rest s e → IsNoChoice part → IsClear IfWord ts
unfolding is_same number_in
no_if number is = refl
no_if text is = refl
no_if true_value is = refl
no_if false_value is = refl
no_if unit_value is = refl
no_if variable is = refl
no_if (call reads) is = refl
no_if (group reads) is = refl
no_if (denial reads) is = refl
no_if (negation reads) is = refl
no_if (unary reads) is = no_if reads tt
no_if (product o a b) is = no_if a tt
no_if (multiplied reads) is = no_if reads tt
no_if (sum o a b) is = no_if a tt
no_if (added reads) is = no_if reads tt
no_if (comparison o a b) is = no_if a tt
no_if (compared reads) is = no_if reads tt
no_if (both o a b) is = no_if a tt
no_if (conjoined reads) is = no_if reads tt
no_if (either o a b) is = no_if a tt
no_if (disjoined reads) is = absurd is
no_if (choice a b c) is = absurd is

from_disjoined : (ts : List Marked) → IsClear IfWord ts → (below : List Sym) (vs : List Value) → SameHead (APart (ExprAt Chosen) ∷ below) vs (APart (ExprAt Disjoined) ∷ below) vs ts
unfolding lead first_fit step finish
from_disjoined [] clear below vs = λ end. refl
from_disjoined (m ∷ ms) clear below vs = rw clear refl

-- an operator leads on

module _ {k : Terminal} {o : BinOp} (below : List Sym) (vs : List Value) (x : List ℕ) (n : ℕ) where
  times_step : IsOperator Product k o → step (Then MoreTimes ∷ below) vs k x n ≡ Some (record { role = Makes 1; stack = APart (ExprAt Unary) ∷ Do combine ∷ Then MoreTimes ∷ below; values = AnOperator o ∷ vs })
  unfolding step lead
  times_step is = rw (operator_found is) refl

  plus_step : IsOperator Sum k o → step (Then MorePlus ∷ below) vs k x n ≡ Some (record { role = Makes 1; stack = APart (ExprAt Multiplied) ∷ Do combine ∷ Then MorePlus ∷ below; values = AnOperator o ∷ vs })
  unfolding step lead
  plus_step is = rw (operator_found is) refl

  comparison_step : IsOperator Compare k o → step (Then Comparison ∷ below) vs k x n ≡ Some (record { role = Makes 1; stack = APart (ExprAt Added) ∷ Do combine ∷ below; values = AnOperator o ∷ vs })
  unfolding step lead
  comparison_step is = rw (operator_found is) refl

  and_step : IsOperator Conjunction k o → step (Then MoreConjoined ∷ below) vs k x n ≡ Some (record { role = Makes 1; stack = APart (ExprAt Compared) ∷ Do combine ∷ Then MoreConjoined ∷ below; values = AnOperator o ∷ vs })
  unfolding step lead
  and_step is = rw (operator_found is) refl

  or_step : IsOperator Disjunction k o → step (Then MoreDisjoined ∷ below) vs k x n ≡ Some (record { role = Makes 1; stack = APart (ExprAt Conjoined) ∷ Do combine ∷ Then MoreDisjoined ∷ below; values = AnOperator o ∷ vs })
  unfolding step lead
  or_step is = rw (operator_found is) refl

mutual
  unfolding is_same number_in lead first_fit step operator_at

  pub again_expr : {part : ExprPart} {ts rest : List Marked} {s : ℕ} {e : Expression} → ReadsExpr part ts rest s e → (below : List Sym) (vs : List Value) → ClearExpr part rest → Path (APart (ExprAt part) ∷ below) vs ts (after_expr part below) (AnExpr s e ∷ vs) rest
  again_expr number below vs clear = take refl doing
  again_expr text below vs clear = take refl doing
  again_expr true_value below vs clear = take refl doing
  again_expr false_value below vs clear = take refl doing
  again_expr unit_value below vs clear = take refl doing
  again_expr variable below vs clear = take refl (then doing (pass Called clear))
  again_expr (call reads) below vs clear = take refl (then doing (take refl (then (again_arguments reads (Word CloseParen Closes ∷ Do to_call ∷ below) _ at_paren) (take refl doing))))
  again_expr (group reads) below vs clear = take refl (then (again_expr reads (Word CloseParen Closes ∷ Do to_group ∷ below) _ at_paren) (take refl doing))
  again_expr (denial reads) below vs clear = take refl (then (again_expr reads (Do to_denial ∷ below) _ clear) doing)
  again_expr (negation reads) below vs clear = take refl (then (again_expr reads (Do to_negation ∷ below) _ clear) doing)
  again_expr (unary reads) below vs clear = then (as_part (ExprAt Multiplied) (ExprAt Unary) below (Then MoreTimes ∷ below) refl) (again_expr reads (Then MoreTimes ∷ below) vs clear)
  again_expr (product {x = x} {n = n} is a b) below vs clear =
      then (again_expr a below vs (times_clear is)) (take (times_step below _ x n is) (then (again_expr b (Do combine ∷ Then MoreTimes ∷ below) _ clear) doing))
  again_expr (multiplied reads) below vs clear =
      then (as_part (ExprAt Added) (ExprAt Multiplied) below (Then MorePlus ∷ below) refl) (then (again_expr reads (Then MorePlus ∷ below) vs clear.0) (pass MoreTimes clear.1))
  again_expr (sum {x = x} {n = n} is a b) below vs clear =
      then (again_expr a below vs (plus_clear is)) (take (plus_step below _ x n is) (then (again_expr b (Do combine ∷ Then MorePlus ∷ below) _ clear.0) (then (pass MoreTimes clear.1) doing)))
  again_expr (added reads) below vs clear =
      then (as_part (ExprAt Compared) (ExprAt Added) below (Then Comparison ∷ below) refl) (then (again_expr reads (Then Comparison ∷ below) vs clear.0.0) (then (pass MorePlus clear.0.1) (pass Comparison clear.1)))
  again_expr (comparison {x = x} {n = n} is a b) below vs clear =
      let before = comparison_clear is in
      then (as_part (ExprAt Compared) (ExprAt Added) below (Then Comparison ∷ below) refl) (then (again_expr a (Then Comparison ∷ below) vs before.0)
      (then (pass MorePlus before.1) (take (comparison_step below _ x n is) (then (again_expr b (Do combine ∷ below) _ clear.0.0) (then (pass MorePlus clear.0.1) doing)))))
  again_expr (compared reads) below vs clear = then (as_part (ExprAt Conjoined) (ExprAt Compared) below (Then MoreConjoined ∷ below) refl) (again_expr reads (Then MoreConjoined ∷ below) vs clear)
  again_expr (both {x = x} {n = n} is a b) below vs clear =
      then (again_expr a below vs (and_clear is)) (take (and_step below _ x n is) (then (again_expr b (Do combine ∷ Then MoreConjoined ∷ below) _ clear) doing))
  again_expr (conjoined reads) below vs clear =
      then (as_part (ExprAt Disjoined) (ExprAt Conjoined) below (Then MoreDisjoined ∷ below) refl) (then (again_expr reads (Then MoreDisjoined ∷ below) vs clear.0) (pass MoreConjoined clear.1))
  again_expr (either {x = x} {n = n} is a b) below vs clear =
      then (again_expr a below vs (or_clear is)) (take (or_step below _ x n is) (then (again_expr b (Do combine ∷ Then MoreDisjoined ∷ below) _ clear.0) (then (pass MoreConjoined clear.1) doing)))
  again_expr {ts = ts} (disjoined reads) below vs clear =
      via (from_disjoined ts (no_if reads tt) below vs) (then (again_expr reads below vs clear.0) (pass MoreDisjoined clear.1))
  again_expr (choice a b c) below vs clear =
      take refl (then (again_expr a _ _ at_then) (take refl (then (again_expr b _ _ at_else) (take refl (then (again_expr c (Do to_choice ∷ below) _ clear) doing)))))

  again_arguments : {ts rest : List Marked} {es : List Expression} → ReadsArguments ts rest es → (below : List Sym) (vs : List Value) → NoOr rest → Path (APart Arguments ∷ below) vs ts (Then MoreArguments ∷ below) (TheExprs es ∷ vs) rest
  again_arguments (one e) below vs clear =
      then (as_part Arguments (ExprAt Chosen) below (Do to_arguments ∷ Then MoreArguments ∷ below) refl) (then (again_expr e (Do to_arguments ∷ Then MoreArguments ∷ below) vs clear) doing)
  again_arguments (more es e) below vs clear =
      then (again_arguments es below vs at_comma) (take refl (then (again_expr e (Do add_argument ∷ Then MoreArguments ∷ below) _ clear) doing))
