use Rattle.std.specs.Prelude.{ℕ, ◌-◌, List, [], ◌∷◌, ◌++◌, true, false, pos, length, slice_range}
use Rattle.std.specs.Str.Parse.{digits_value}
use Rattle.ql_lang.specs.declared.expression.BinOp.{BinOp}
use Rattle.ql_lang.specs.declared.expression.BinOp.TheVariants.{Or, And, Eq, Ne, Lt, Le, Gt, Ge, Add, Sub, Mul}
use Rattle.ql_lang.specs.Expressions.{Expression, Number, Literal, Truth, Nothing, Reading, Calling, Choosing, Combining, Denying, Negating, Operands, NoMore, More}
use Rattle.ql_grammar.specs.declared.precedence.Precedence.{Precedence}
use Rattle.ql_grammar.specs.declared.precedence.Precedence.TheVariants.{Product, Sum, Comparison, Conjunction, Disjunction}
use Rattle.ql_grammar.specs.declared.terminal.Terminal.{Terminal}
use Rattle.ql_grammar.specs.declared.terminal.Terminal.TheVariants.{NameToken, IntToken, TextToken, TrueWord, FalseWord, UnitWord, IfWord, ThenWord, ElseWord, AndWord, OrWord, NotWord, OpenParen, CloseParen, Comma, IsEqual, NotEqual, Less, LessEqual, Greater, GreaterEqual, Plus, Minus, Times}
use Rattle.ql_grammar.specs.declared.role.Role.TheVariants.{Plain, Makes, Opens, Closes}
use Rattle.ql_grammar.specs.Tokens.{Marked, marked}

-- The grammar of expressions. `ReadsExpr part ts rest start tree` says that the tokens `ts` begin with a text
-- that reads as `tree`, that its first token is at the source offset `start`, and that `rest` follows it. An
-- operator's tree has the offset where its first operand starts, which may be that of a bracket.

-- The parts of an expression: a value, name, call or bracket with `not` and `-` before it; parts with `*` between
-- them; with `+` and `-`; two that are compared; with `and`; with `or`; and a whole expression.
pub data ExprPart : Type 0 where
  Unary : ExprPart
  Multiplied : ExprPart
  Added : ExprPart
  Compared : ExprPart
  Conjoined : ExprPart
  Disjoined : ExprPart
  Chosen : ExprPart

-- the operators of each precedence
pub data IsOperator : Precedence → Terminal → BinOp → Type 0 where
  times : IsOperator Product Times Mul
  plus : IsOperator Sum Plus Add
  minus : IsOperator Sum Minus Sub
  equal : IsOperator Comparison IsEqual Eq
  unequal : IsOperator Comparison NotEqual Ne
  less : IsOperator Comparison Less Lt
  at_most : IsOperator Comparison LessEqual Le
  greater : IsOperator Comparison Greater Gt
  at_least : IsOperator Comparison GreaterEqual Ge
  and : IsOperator Conjunction AndWord And
  or : IsOperator Disjunction OrWord Or

-- the number that digits spell
abbrev pub number_spelled : List ℕ → ℕ
number_spelled digits = digits_value 10 digits

-- the bytes between the quotes of a text
abbrev pub between_quotes : List ℕ → List ℕ
between_quotes text = slice_range text 1 (length text - 1)

-- expressions in order, as the arguments of a call
abbrev pub operands : List Expression → Operands
operands [] = NoMore
operands (e ∷ es) = More e (operands es)

mutual
  pub data ReadsExpr : ExprPart → List Marked → List Marked → ℕ → Expression → Type 0 where
    number : {x : List ℕ} {n : ℕ} {rest : List Marked} → ReadsExpr Unary (marked (Makes 1) IntToken x n ∷ rest) rest n (Number n (pos (number_spelled x)))
    text : {x : List ℕ} {n : ℕ} {rest : List Marked} → ReadsExpr Unary (marked (Makes 1) TextToken x n ∷ rest) rest n (Literal n (between_quotes x))
    true_value : {x : List ℕ} {n : ℕ} {rest : List Marked} → ReadsExpr Unary (marked (Makes 1) TrueWord x n ∷ rest) rest n (Truth n true)
    false_value : {x : List ℕ} {n : ℕ} {rest : List Marked} → ReadsExpr Unary (marked (Makes 1) FalseWord x n ∷ rest) rest n (Truth n false)
    unit_value : {x : List ℕ} {n : ℕ} {rest : List Marked} → ReadsExpr Unary (marked (Makes 1) UnitWord x n ∷ rest) rest n (Nothing n)
    variable : {x : List ℕ} {n : ℕ} {rest : List Marked} → ReadsExpr Unary (marked (Makes 1) NameToken x n ∷ rest) rest n (Reading n (record { word = x; at = n }))
    call : {x y z : List ℕ} {n m k : ℕ} {ts rest : List Marked} {es : List Expression} → ReadsArguments ts (marked Closes CloseParen z k ∷ rest) es → ReadsExpr Unary (marked (Makes 1) NameToken x n ∷ marked (Opens 0) OpenParen y m ∷ ts) rest n (Calling n (record { word = x; at = n }) (operands es))
    group : {x y : List ℕ} {n m s : ℕ} {ts rest : List Marked} {e : Expression} → ReadsExpr Chosen ts (marked Closes CloseParen y m ∷ rest) s e → ReadsExpr Unary (marked (Opens 0) OpenParen x n ∷ ts) rest n e
    denial : {x : List ℕ} {n s : ℕ} {ts rest : List Marked} {e : Expression} → ReadsExpr Unary ts rest s e → ReadsExpr Unary (marked (Makes 1) NotWord x n ∷ ts) rest n (Denying n e)
    negation : {x : List ℕ} {n s : ℕ} {ts rest : List Marked} {e : Expression} → ReadsExpr Unary ts rest s e → ReadsExpr Unary (marked (Makes 1) Minus x n ∷ ts) rest n (Negating n e)
    unary : {s : ℕ} {ts rest : List Marked} {e : Expression} → ReadsExpr Unary ts rest s e → ReadsExpr Multiplied ts rest s e
    product : {k : Terminal} {op : BinOp} {x : List ℕ} {n s t : ℕ} {ts us rest : List Marked} {a b : Expression} → IsOperator Product k op → ReadsExpr Multiplied ts (marked (Makes 1) k x n ∷ us) s a → ReadsExpr Unary us rest t b → ReadsExpr Multiplied ts rest s (Combining s op a b)
    multiplied : {s : ℕ} {ts rest : List Marked} {e : Expression} → ReadsExpr Multiplied ts rest s e → ReadsExpr Added ts rest s e
    sum : {k : Terminal} {op : BinOp} {x : List ℕ} {n s t : ℕ} {ts us rest : List Marked} {a b : Expression} → IsOperator Sum k op → ReadsExpr Added ts (marked (Makes 1) k x n ∷ us) s a → ReadsExpr Multiplied us rest t b → ReadsExpr Added ts rest s (Combining s op a b)
    added : {s : ℕ} {ts rest : List Marked} {e : Expression} → ReadsExpr Added ts rest s e → ReadsExpr Compared ts rest s e
    comparison : {k : Terminal} {op : BinOp} {x : List ℕ} {n s t : ℕ} {ts us rest : List Marked} {a b : Expression} → IsOperator Comparison k op → ReadsExpr Added ts (marked (Makes 1) k x n ∷ us) s a → ReadsExpr Added us rest t b → ReadsExpr Compared ts rest s (Combining s op a b)
    compared : {s : ℕ} {ts rest : List Marked} {e : Expression} → ReadsExpr Compared ts rest s e → ReadsExpr Conjoined ts rest s e
    both : {k : Terminal} {op : BinOp} {x : List ℕ} {n s t : ℕ} {ts us rest : List Marked} {a b : Expression} → IsOperator Conjunction k op → ReadsExpr Conjoined ts (marked (Makes 1) k x n ∷ us) s a → ReadsExpr Compared us rest t b → ReadsExpr Conjoined ts rest s (Combining s op a b)
    conjoined : {s : ℕ} {ts rest : List Marked} {e : Expression} → ReadsExpr Conjoined ts rest s e → ReadsExpr Disjoined ts rest s e
    either : {k : Terminal} {op : BinOp} {x : List ℕ} {n s t : ℕ} {ts us rest : List Marked} {a b : Expression} → IsOperator Disjunction k op → ReadsExpr Disjoined ts (marked (Makes 1) k x n ∷ us) s a → ReadsExpr Conjoined us rest t b → ReadsExpr Disjoined ts rest s (Combining s op a b)
    disjoined : {s : ℕ} {ts rest : List Marked} {e : Expression} → ReadsExpr Disjoined ts rest s e → ReadsExpr Chosen ts rest s e
    choice : {x y z : List ℕ} {n m k s t u : ℕ} {ts us vs rest : List Marked} {a b c : Expression} → ReadsExpr Chosen ts (marked Plain ThenWord y m ∷ us) s a → ReadsExpr Chosen us (marked Plain ElseWord z k ∷ vs) t b → ReadsExpr Chosen vs rest u c → ReadsExpr Chosen (marked (Makes 1) IfWord x n ∷ ts) rest n (Choosing n a b c)

  -- the arguments of a call, with commas
  pub data ReadsArguments : List Marked → List Marked → List Expression → Type 0 where
    one : {s : ℕ} {ts rest : List Marked} {e : Expression} → ReadsExpr Chosen ts rest s e → ReadsArguments ts rest (e ∷ [])
    more : {x : List ℕ} {n s : ℕ} {ts us rest : List Marked} {es : List Expression} {e : Expression} → ReadsArguments ts (marked Plain Comma x n ∷ us) es → ReadsExpr Chosen us rest s e → ReadsArguments ts rest (es ++ e ∷ [])
