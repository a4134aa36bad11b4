use Rattle.std.proofs.Common.{◌≡◌, List, ◌∷◌, Bool, true, false, Result, Err, refl, sym, ap, ◌∙◌, cond, ◌||◌}
use Rattle.ql_grammar.specs.declared.terminal.Terminal.{Terminal}
use Rattle.ql_grammar.specs.declared.terminal.Terminal.TheVariants.{NameToken, CurWord, ForallWord, TrueWord, TxnWord, OpenBrace, CloseBrace, OpenParen, CloseParen, Comma, Dot, Equals}
use Rattle.ql_grammar.specs.declared.role.Role.{Role}
use Rattle.ql_grammar.specs.declared.role.Role.TheVariants.{Plain, Makes, Opens, Closes}
use Rattle.ql_grammar.specs.ContractGrammar.{Applied, Atom, Whole}
use Rattle.ql_grammar.specs.Limits.{Fault, Unexpected}
use Rattle.ql_grammar.specs.Table.{Value, Sym, Word, Placed, ANameOf, Do, APart, Then, Part, Term, TermList, RelationAt, PropAt, BarredNames, Variable, VarList, WholeContract, Rest, ways, way_on, to_cur, to_variable, add_truth, to_equality, to_application, to_txn, to_names, to_free, to_plain, to_forall, MoreNames, Operations}
use Rattle.ql_grammar.specs.Machine.{Reading, read, is_ahead, place_ahead, is_begun, chosen}
use Rattle.ql_grammar.proofs.Taking.{placed_missing, name_missing}
use Rattle.ql_grammar.proofs.Choices.{read-part, read-then}

-- How a reader that looks at the next token goes on: each law is a line of the table.

-- parts with the same ways are read the same
pub read-as : (r : Reading) (p q : Part) (below under : List Sym) (vs : List Value) → ways p below ≡ ways q under → read r (APart p ∷ below) vs ≡ read r (APart q ∷ under) vs
read-as r p q below under vs same = read-part r p below vs ∙ ap (λ all. chosen r all vs) same ∙ sym (read-part r q under vs)

module _ (r : Reading) where
  pub last_placed : (k : Terminal) (role : Role) (below : List Sym) (vs : List Value) (b : Bool) → is_ahead k r.tokens ≡ b → cond b (read r (Placed k role ∷ below) vs) (Err (Unexpected (place_ahead r.tokens r.end))) ≡ read r (Placed k role ∷ below) vs
  last_placed k role below vs true is = refl
  last_placed k role below vs false is = sym (placed_missing r k role below vs is)

  pub last_name : (role : Role) (below : List Sym) (vs : List Value) (b : Bool) → is_ahead NameToken r.tokens ≡ b → cond b (read r (ANameOf role ∷ below) vs) (Err (Unexpected (place_ahead r.tokens r.end))) ≡ read r (ANameOf role ∷ below) vs
  last_name role below vs true is = refl
  last_name role below vs false is = sym (name_missing r role below vs is)

  -- terms

  pub term-cur : (role : Role) (below : List Sym) (vs : List Value) → is_ahead CurWord r.tokens ≡ true → read r (APart (Term role) ∷ below) vs ≡ read r (Placed CurWord role ∷ Do to_cur ∷ below) vs
  term-cur role below vs sees = read-part r (Term role) below vs ∙ rw sees refl

  pub term-name : (role : Role) (below : List Sym) (vs : List Value) → is_ahead CurWord r.tokens ≡ false → read r (APart (Term role) ∷ below) vs ≡ read r (ANameOf role ∷ Do to_variable ∷ below) vs
  term-name role below vs misses = read-part r (Term role) below vs ∙ rw misses (last_name role (Do to_variable ∷ below) vs (is_ahead NameToken r.tokens) refl)

  -- what contracts say

  pub atom-truth : (below : List Sym) (vs : List Value) → is_ahead TrueWord r.tokens ≡ true → read r (APart (PropAt Atom) ∷ below) vs ≡ read r (Word TrueWord (Makes 1) ∷ Do add_truth ∷ below) vs
  atom-truth below vs sees = read-part r (PropAt Atom) below vs ∙ rw sees refl

  pub atom-group : (below : List Sym) (vs : List Value) → is_ahead TrueWord r.tokens ≡ false → is_ahead OpenParen r.tokens ≡ true → read r (APart (PropAt Atom) ∷ below) vs ≡ read r (Word OpenParen (Opens 0) ∷ APart (PropAt Whole) ∷ Word CloseParen Closes ∷ below) vs
  atom-group below vs a b = read-part r (PropAt Atom) below vs ∙ rw (a, b) refl

  pub atom-txn : (below : List Sym) (vs : List Value) → is_ahead TrueWord r.tokens ≡ false → is_ahead OpenParen r.tokens ≡ false → is_ahead TxnWord r.tokens ≡ true → read r (APart (PropAt Atom) ∷ below) vs ≡ read r (Placed TxnWord (Makes 1) ∷ Word OpenBrace Plain ∷ APart TermList ∷ Word CloseBrace Plain ∷ Word OpenBrace Plain ∷ APart TermList ∷ Word CloseBrace Plain ∷ Do to_txn ∷ below) vs
  atom-txn below vs a b c = read-part r (PropAt Atom) below vs ∙ rw (a, b, c) refl

  abbrev pub behind_term : List Sym → List Sym
  behind_term below = Placed Equals (Makes 2) ∷ APart (Term Plain) ∷ Do to_equality ∷ below

  abbrev pub behind_relation : List Sym → List Sym
  behind_relation below = Word OpenParen (Opens 0) ∷ APart (Term Plain) ∷ Word Comma Plain ∷ APart (Term Plain) ∷ Word CloseParen Closes ∷ Do to_application ∷ below

  or_cases : (a b : Bool) (x y o : Result (List Value) Fault) → (a || b) ≡ true → cond a x (cond b y o) ≡ cond a x (cond b y (Err (Unexpected (place_ahead r.tokens r.end))))
  or_cases true b x y o some = refl
  or_cases false true x y o some = refl
  or_cases false false x y o some = cc

  pub atom-term : (below : List Sym) (vs : List Value) → is_ahead TrueWord r.tokens ≡ false → is_ahead OpenParen r.tokens ≡ false → is_ahead TxnWord r.tokens ≡ false → (is_ahead CurWord r.tokens || is_ahead NameToken r.tokens) ≡ true → read r (APart (PropAt Atom) ∷ below) vs ≡ read r (APart (Term Plain) ∷ behind_term below) vs
  atom-term below vs a b c some =
      read-part r (PropAt Atom) below vs ∙ rw (a, b, c) (or_cases (is_ahead CurWord r.tokens) (is_ahead NameToken r.tokens) _ _ _ some) ∙ sym (read-part r (Term Plain) (behind_term below) vs)

  none_cases : (a b : Bool) (x y o : Result (List Value) Fault) → (a || b) ≡ false → cond a x (cond b y o) ≡ o
  none_cases true b x y o none = cc
  none_cases false true x y o none = cc
  none_cases false false x y o none = refl

  pub atom-relation : (below : List Sym) (vs : List Value) → is_ahead TrueWord r.tokens ≡ false → is_ahead OpenParen r.tokens ≡ false → is_ahead TxnWord r.tokens ≡ false → (is_ahead CurWord r.tokens || is_ahead NameToken r.tokens) ≡ false → read r (APart (PropAt Atom) ∷ below) vs ≡ read r (APart (RelationAt Applied) ∷ behind_relation below) vs
  atom-relation below vs a b c none =
      read-part r (PropAt Atom) below vs ∙ rw (a, b, c) (none_cases (is_ahead CurWord r.tokens) (is_ahead NameToken r.tokens) _ _ _ none) ∙ sym (read-part r (RelationAt Applied) (behind_relation below) vs)

  -- contracts

  pub names-start : (below : List Sym) (vs : List Value) → read r (APart BarredNames ∷ below) vs ≡ read r (ANameOf Plain ∷ Do to_names ∷ Then MoreNames ∷ below) vs
  names-start below vs = read-part r BarredNames below vs ∙ last_name Plain (Do to_names ∷ Then MoreNames ∷ below) vs (is_ahead NameToken r.tokens) refl

  pub variable-start : (below : List Sym) (vs : List Value) → read r (APart Variable ∷ below) vs ≡ read r (ANameOf Plain ∷ Do to_free ∷ Then Operations ∷ below) vs
  variable-start below vs = read-part r Variable below vs ∙ last_name Plain (Do to_free ∷ Then Operations ∷ below) vs (is_ahead NameToken r.tokens) refl

  pub contract-forall : (below : List Sym) (vs : List Value) → is_ahead ForallWord r.tokens ≡ true → read r (APart WholeContract ∷ below) vs ≡ read r (Word ForallWord Plain ∷ APart VarList ∷ Word Dot Plain ∷ APart (PropAt Whole) ∷ Do to_forall ∷ below) vs
  contract-forall below vs sees = read-part r WholeContract below vs ∙ rw sees refl

  pub contract-plain : (below : List Sym) (vs : List Value) → is_ahead ForallWord r.tokens ≡ false → read r (APart WholeContract ∷ below) vs ≡ read r (APart (PropAt Whole) ∷ Do to_plain ∷ below) vs
  contract-plain below vs misses = read-part r WholeContract below vs ∙ rw misses (sym (read-part r (PropAt Whole) (Do to_plain ∷ below) vs))

-- the mark of what may follow
pub then-on : (r : Reading) (l : Rest) (below : List Sym) (vs : List Value) → is_begun (way_on l below) r.tokens ≡ true → read r (Then l ∷ below) vs ≡ read r (way_on l below) vs
then-on r l below vs sees = read-then r l below vs ∙ rw sees refl

pub then-past : (r : Reading) (l : Rest) (below : List Sym) (vs : List Value) → is_begun (way_on l below) r.tokens ≡ false → read r (Then l ∷ below) vs ≡ read r below vs
then-past r l below vs misses = read-then r l below vs ∙ rw misses refl
