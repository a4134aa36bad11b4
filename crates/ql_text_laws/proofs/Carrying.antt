-- Pieces with what follows are the pieces alone, and then what follows.
use Rattle.std.proofs.Common.{◌≡◌, Bool, true, false, List, [], ◌∷◌, ◌++◌, codes, refl, ap}
use Rattle.ql_lex.specs.declared.token.TokenKind.TheVariants.{Name as NameKind, Int as IntKind, Text as TextKind, Mark, Keyword}
use Rattle.ql_lang.specs.declared.name.Name.{Name}
use Rattle.ql_lang.specs.declared.relation.RelName.TheVariants.{Vis, So, Soo, SameObj, Eq, Hb, Hbo}
use Rattle.ql_lang.specs.declared.contract.Point.{Point}
use Rattle.ql_lang.specs.declared.contract.Point.TheVariants.{CurAt, Named}
use Rattle.ql_lang.specs.declared.contract.Var.{Var}
use Rattle.ql_lang.specs.declared.expression.BinOp.{BinOp}
use Rattle.ql_lang.specs.Trees.{Relation, Basic, Union, Intersection, Proposition, Truth, Application, Conjunction, Disjunction, Implication, InTxn, Sentence}
use Rattle.ql_lang.specs.Spelling.{is_joined, relation_word}
use Rattle.ql_lang.specs.Expressions as e
use Rattle.ql_lang.specs.Expressions.{Expression, Operands, NoMore, More}
use Rattle.ql_lang.specs.ExpressionSpelling.{is_compound, operator_word, quoted, truth_word}
use Rattle.std.specs.Fmt.{signed_decimal}
use Rattle.ql_grammar.specs.declared.terminal.Terminal.TheVariants.{NameToken, IntToken, TextToken, CurWord, ForallWord, TrueWord, TxnWord, UnitWord, IfWord, ThenWord, ElseWord, NotWord, OpenBrace, CloseBrace, OpenParen, CloseParen, OpenBracket, CloseBracket, Comma, Colon, Dot, Equals, Arrow, AndMark, OrMark, Bar, Ampersand, Minus}
use Rattle.ql_grammar.specs.declared.role.Role.{Role}
use Rattle.ql_grammar.specs.declared.role.Role.TheVariants.{Plain, Makes, Opens, Closes}
use Rattle.ql_text_laws.proofs.Pieces.{Piece, Blank, Said}
use Rattle.ql_text_laws.proofs.PiecesRead.{term_pieces, relation_terminal, between, comma, relation_pieces, argument_pieces, application_pieces, items_behind, items_pieces, terms_pieces, in_parens, prop_pieces, name_pieces, operation_pieces, var_pieces, quantifier_pieces, contract_pieces}
use Rattle.ql_text_laws.proofs.ExpressionPieces.{op_terminal, op_kind, op_pieces, truth_terminal, expression_pieces, first_pieces, behind_pieces}

pub record Carries (f : List Piece → List Piece) : Type 0 where
  pub carry : (u v below : List Piece) → u ≡ v ++ below → f u ≡ f v ++ below

-- what follows, apart
pub apart : {f : List Piece → List Piece} → Carries f → (below : List Piece) → f below ≡ f [] ++ below
apart c below = c.carry below [] below refl

nothing : Carries (λ below. below)
nothing = record { carry = λ u v below e. e }

one : (p : Piece) → Carries (λ below. p ∷ below)
one p = record { carry = λ u v below e. ap (λ t. p ∷ t) e }

then : {f g : List Piece → List Piece} → Carries f → Carries g → Carries (λ below. f (g below))
then {f} {g} c d = record { carry = λ u v below e. c.carry (g u) (g v) below (d.carry u v below e) }

blanks_round : (p : Piece) → Carries (λ below. Blank ∷ p ∷ Blank ∷ below)
blanks_round p = then (one Blank) (then (one p) (one Blank))

close : Carries (λ below. Said Mark CloseParen Closes (codes ")") ∷ below)
close = one (Said Mark CloseParen Closes (codes ")"))

comma_carries : Carries (λ below. comma below)
comma_carries = then (one (Said Mark Comma Plain (codes ","))) (one Blank)

parens_carry : (b : Bool) (pieces : List Piece → List Piece) → Carries pieces → Carries (λ below. in_parens b pieces below)
parens_carry true pieces c = then (one (Said Mark OpenParen (Opens 0) (codes "("))) (then c close)
parens_carry false pieces c = c

-- contracts

term_carries : (r : Role) (p : Point) → Carries (λ below. term_pieces r p below)
term_carries r (CurAt at) = one (Said Keyword CurWord r (codes "cur"))
term_carries r (Named name) = one (Said NameKind NameToken r name.word)

relation_carries : (named opened : Role) (r : Relation) → Carries (λ below. relation_pieces named opened r below)
relation_carries named opened (Basic r at) = one (Said Keyword (relation_terminal r) named (relation_word r))
relation_carries named opened (Union r s) =
    then (one (Said Mark OpenBracket opened (codes "["))) (then (relation_carries (Makes 1) (Opens 0) r) (then (blanks_round (Said Mark Bar (Makes 1) (codes "|")))
    (then (relation_carries (Makes 1) (Opens 0) s) (one (Said Mark CloseBracket Closes (codes "]"))))))
relation_carries named opened (Intersection r s) =
    then (one (Said Mark OpenBracket opened (codes "["))) (then (relation_carries (Makes 1) (Opens 0) r) (then (blanks_round (Said Mark Ampersand (Makes 1) (codes "&")))
    (then (relation_carries (Makes 1) (Opens 0) s) (one (Said Mark CloseBracket Closes (codes "]"))))))

applied_carries : (r : Relation) (a b : Point) → Carries (λ below. relation_pieces (Makes 2) (Opens 1) r (argument_pieces a b below))
applied_carries r a b =
    then (relation_carries (Makes 2) (Opens 1) r) (then (one (Said Mark OpenParen (Opens 0) (codes "("))) (then (term_carries Plain a) (then comma_carries (then (term_carries Plain b) close))))

application_carries : (r : Relation) (a b : Point) → Carries (λ below. application_pieces r a b below)
application_carries (Basic Eq n) a b = then (term_carries Plain a) (then (blanks_round (Said Mark Equals (Makes 2) (codes "="))) (term_carries Plain b))
application_carries (Basic Vis n) a b = applied_carries (Basic Vis n) a b
application_carries (Basic So n) a b = applied_carries (Basic So n) a b
application_carries (Basic Soo n) a b = applied_carries (Basic Soo n) a b
application_carries (Basic SameObj n) a b = applied_carries (Basic SameObj n) a b
application_carries (Basic Hb n) a b = applied_carries (Basic Hb n) a b
application_carries (Basic Hbo n) a b = applied_carries (Basic Hbo n) a b
application_carries (Union r s) a b = applied_carries (Union r s) a b
application_carries (Intersection r s) a b = applied_carries (Intersection r s) a b

module _ (T : Type 0) (pieces : T → List Piece → List Piece) (mark : List Piece → List Piece) (mark_carries : Carries mark) (item : (t : T) → Carries (pieces t)) where
  behind_carry : (ts : List T) → Carries (λ below. items_behind mark pieces ts below)
  behind_carry [] = nothing
  behind_carry (t ∷ ts) = then mark_carries (then (item t) (behind_carry ts))

  items_carry : (ts : List T) → Carries (λ below. items_pieces mark pieces ts below)
  items_carry [] = nothing
  items_carry (t ∷ ts) = then (item t) (behind_carry ts)

terms_carry : (ps : List Point) → Carries (λ below. terms_pieces ps below)
terms_carry ps = items_carry Point (term_pieces (Makes 1)) comma comma_carries (λ p. term_carries (Makes 1) p) ps

prop_carries : (p : Proposition) → Carries (λ below. prop_pieces p below)
prop_carries Truth = one (Said Keyword TrueWord (Makes 1) (codes "true"))
prop_carries (Application r a b) = application_carries r a b
prop_carries (InTxn n ps qs) =
    then (one (Said Keyword TxnWord (Makes 1) (codes "txn"))) (then (one (Said Mark OpenBrace Plain (codes "{"))) (then (terms_carry ps) (then (one (Said Mark CloseBrace Plain (codes "}")))
    (then (one (Said Mark OpenBrace Plain (codes "{"))) (then (terms_carry qs) (one (Said Mark CloseBrace Plain (codes "}"))))))))
prop_carries (Conjunction p q) =
    then (parens_carry (is_joined p) (λ more. prop_pieces p more) (prop_carries p)) (then (blanks_round (Said Mark AndMark (Makes 1) (codes "/\\"))) (parens_carry (is_joined q) (λ more. prop_pieces q more) (prop_carries q)))
prop_carries (Disjunction p q) =
    then (parens_carry (is_joined p) (λ more. prop_pieces p more) (prop_carries p)) (then (blanks_round (Said Mark OrMark (Makes 1) (codes "\\/"))) (parens_carry (is_joined q) (λ more. prop_pieces q more) (prop_carries q)))
prop_carries (Implication p q) =
    then (parens_carry (is_joined p) (λ more. prop_pieces p more) (prop_carries p)) (then (blanks_round (Said Mark Arrow (Makes 1) (codes "=>"))) (parens_carry (is_joined q) (λ more. prop_pieces q more) (prop_carries q)))

name_carries : (n : Name) → Carries (λ below. name_pieces n below)
name_carries n = one (Said NameKind NameToken Plain n.word)

operations_carry : (ops : List Name) → Carries (λ below. operation_pieces ops below)
operations_carry [] = nothing
operations_carry (op ∷ ops) =
    then (one (Said Mark Colon Plain (codes ":"))) (then (one Blank) (items_carry Name name_pieces (between Bar Plain (codes "|")) (blanks_round (Said Mark Bar Plain (codes "|"))) name_carries (op ∷ ops)))

var_carries : (v : Var) → Carries (λ below. var_pieces v below)
var_carries v = then (name_carries v.name) (operations_carry v.ops)

quantifier_carries : (vs : List Var) → Carries (λ below. quantifier_pieces vs below)
quantifier_carries [] = nothing
quantifier_carries (v ∷ vs) =
    then (one (Said Keyword ForallWord Plain (codes "forall"))) (then (one Blank) (then (items_carry Var var_pieces comma comma_carries var_carries (v ∷ vs)) (then (one (Said Mark Dot Plain (codes "."))) (one Blank))))

pub contract_carries : (s : Sentence) → Carries (λ below. contract_pieces s below)
contract_carries s = then (quantifier_carries s.vars) (prop_carries s.body)

-- expressions

op_carries : (op : BinOp) → Carries (λ below. op_pieces op below)
op_carries op = blanks_round (Said (op_kind op) (op_terminal op) (Makes 1) (operator_word op))

mutual
  unfolding expression_pieces

  pub expression_carries : (x : Expression) → Carries (λ below. expression_pieces x below)
  expression_carries (e.Number at n) = one (Said IntKind IntToken (Makes 1) (signed_decimal n))
  expression_carries (e.Literal at text) = one (Said TextKind TextToken (Makes 1) (quoted text))
  expression_carries (e.Truth at b) = one (Said Keyword (truth_terminal b) (Makes 1) (truth_word b))
  expression_carries (e.Nothing at) = one (Said Keyword UnitWord (Makes 1) (codes "unit"))
  expression_carries (e.Reading at name) = one (Said NameKind NameToken (Makes 1) name.word)
  expression_carries (e.Calling at name args) =
      then (one (Said NameKind NameToken (Makes 1) name.word)) (then (one (Said Mark OpenParen (Opens 0) (codes "("))) (then (first_carries args) close))
  expression_carries (e.Choosing at test a b) =
      then (one (Said Keyword IfWord (Makes 1) (codes "if"))) (then (one Blank) (then (expression_carries test) (then (blanks_round (Said Keyword ThenWord Plain (codes "then")))
      (then (expression_carries a) (then (blanks_round (Said Keyword ElseWord Plain (codes "else"))) (expression_carries b))))))
  expression_carries (e.Combining at op a b) =
      then (parens_carry (is_compound a) (λ more. expression_pieces a more) (expression_carries a)) (then (op_carries op) (parens_carry (is_compound b) (λ more. expression_pieces b more) (expression_carries b)))
  expression_carries (e.Denying at a) = then (one (Said Keyword NotWord (Makes 1) (codes "not"))) (then (one Blank) (parens_carry (is_compound a) (λ more. expression_pieces a more) (expression_carries a)))
  expression_carries (e.Negating at a) = then (one (Said Mark Minus (Makes 1) (codes "-"))) (parens_carry (is_compound a) (λ more. expression_pieces a more) (expression_carries a))

  first_carries : (args : Operands) → Carries (λ below. first_pieces args below)
  first_carries NoMore = nothing
  first_carries (More a more) = then (expression_carries a) (behind_carries more)

  behind_carries : (args : Operands) → Carries (λ below. behind_pieces args below)
  behind_carries NoMore = nothing
  behind_carries (More a more) = then comma_carries (then (expression_carries a) (behind_carries more))
