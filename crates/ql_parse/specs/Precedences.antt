-- What is read at each precedence of operators.
use Rattle.std.specs.Prelude.{◌≡◌, ◌||◌, Bool, true, false, ◌<◌, length, List, [], ◌∷◌, Option, Some, None, if◌then◌else◌, is_some}
use Rattle.ql_grammar.specs.declared.precedence.Precedence.{Precedence}
use Rattle.ql_grammar.specs.declared.precedence.Precedence.TheVariants.{Product, Sum, Comparison, Conjunction, Disjunction}
use Rattle.ql_grammar.specs.ExpressionGrammar.{ExprPart, Unary, Multiplied, Added, Compared, Conjoined, Disjoined}
use Rattle.ql_grammar.specs.Table.{Rest, Sym, Then, APart, ExprAt, Value, MoreTimes, MorePlus, MoreConjoined, MoreDisjoined}
use Rattle.ql_grammar.specs.Table as table
use Rattle.ql_grammar.specs.Tokens.{Lexeme}
use Rattle.ql_grammar.specs.Machine.{Reading, read, operator_ahead}

-- the next tighter one
abbrev pub tighter : Precedence → Option Precedence
tighter Product = None
tighter Sum = Some Product
tighter Comparison = Some Sum
tighter Conjunction = Some Comparison
tighter Disjunction = Some Conjunction

-- operators of it may follow one another without brackets
abbrev pub chains : Precedence → Bool
chains Product = true
chains Sum = true
chains Comparison = false
chains Conjunction = true
chains Disjunction = true

-- an operator of some precedence comes next
abbrev pub sees_any : List Lexeme → Bool
sees_any ts =
    is_some (operator_ahead Product ts) || (is_some (operator_ahead Sum ts) || (is_some (operator_ahead Comparison ts)
    || (is_some (operator_ahead Conjunction ts) || is_some (operator_ahead Disjunction ts))))

-- the part of an expression that has operators of it and of tighter ones outside brackets
abbrev pub part_at : Precedence → ExprPart
part_at Product = Multiplied
part_at Sum = Added
part_at Comparison = Compared
part_at Conjunction = Conjoined
part_at Disjunction = Disjoined

-- an operand of its operators
abbrev pub operand_at : Precedence → ExprPart
operand_at Product = Unary
operand_at Sum = Multiplied
operand_at Comparison = Added
operand_at Conjunction = Compared
operand_at Disjunction = Conjoined

-- an operator of it that may follow
abbrev pub more_at : Precedence → Rest
more_at Product = MoreTimes
more_at Sum = MorePlus
more_at Comparison = table.Comparison
more_at Conjunction = MoreConjoined
more_at Disjunction = MoreDisjoined

-- it and all tighter ones, the tightest first
abbrev pub up_to : Precedence → List Precedence
up_to Product = Product ∷ []
up_to Sum = Product ∷ Sum ∷ []
up_to Comparison = Product ∷ Sum ∷ Comparison ∷ []
up_to Conjunction = Product ∷ Sum ∷ Comparison ∷ Conjunction ∷ []
up_to Disjunction = Product ∷ Sum ∷ Comparison ∷ Conjunction ∷ Disjunction ∷ []

-- operators of these that may follow, one precedence after another
abbrev pub following : List Precedence → List Sym → List Sym
following [] below = below
following (p ∷ ps) below = Then (more_at p) ∷ following ps below

-- what may follow two operands with an operator of it between them
abbrev pub after_two : Precedence → List Sym → List Sym
after_two p below = if chains p then Then (more_at p) ∷ below else below

-- an operator of it and its second operand were read, and turned the first one into both
abbrev pub Combined : Precedence → Value → Value → Reading → Reading → Type 0
Combined p a b old new = (below : List Sym) (vs : List Value) → read old (Then (more_at p) ∷ below) (a ∷ vs) ≡ read new (after_two p below) (b ∷ vs)

-- operands were begun, and yielded a value so far; operators of these precedences may follow
pub record Begun (p : Precedence) (ps : List Precedence) (v : Value) (old new : Reading) : Type 0 where
  pub so_far : (below : List Sym) (vs : List Value) → read old (APart (ExprAt (part_at p)) ∷ below) vs ≡ read new (following ps below) (v ∷ vs)
  pub shorter : length new.tokens < length old.tokens
