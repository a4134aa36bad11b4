use Rattle.std.proofs.Common.{◌≡◌, ℕ, List, [], ◌∷◌, Bool, true, false, cond, Err, refl, sym, ap, subst, ◌∙◌}
use Rattle.ql_grammar.specs.declared.terminal.Terminal.{Terminal}
use Rattle.ql_grammar.specs.declared.terminal.Terminal.TheVariants.{NameToken, IntToken, TextToken, TypeWord, TrueWord, FalseWord, UnitWord, IfWord, ThenWord, ElseWord, NotWord, SetWord, MapWord, OpenParen, CloseParen, Comma, Minus}
use Rattle.ql_grammar.specs.declared.role.Role.TheVariants.{Plain, Makes, Opens, Closes}
use Rattle.ql_grammar.specs.Terminals.{is_same, number}
use Rattle.ql_grammar.specs.Tokens.{Lexeme}
use Rattle.ql_grammar.specs.ExpressionGrammar.{Unary, Disjoined, Chosen}
use Rattle.ql_grammar.specs.Limits.{Unexpected, Counts}
use Rattle.ql_grammar.specs.Table.{Value, Sym, Word, Placed, ANameOf, Kept, Do, APart, Then, ExprAt, Called, BaseKind, AnyKind, Beginning, ListedNames, WholeSource, MoreListed, MoreTypes, MoreTransactions, constant_ways, plain_ways, type_symbols, to_number, to_literal, to_truth, to_nothing, to_reading, to_group, to_denial, to_negation, to_choice, to_set, to_map, begin_number, begin_negative, begin_text, to_names, to_types, no_transactions, to_source}
use Rattle.ql_grammar.specs.Machine.{Reading, lead, first_fit, step, go_on, run, read, is_ahead, place_ahead, chosen}
use Rattle.ql_grammar.proofs.TerminalLemmas.{same_terminal}
use Rattle.ql_grammar.proofs.Taking.{word_missing}
use Rattle.ql_grammar.proofs.Choices.{read-part}
use Rattle.ql_grammar.proofs.Rules.{last_placed, last_name}

-- Where the next token is known, a reading goes on as the table says of it.

-- two stacks that do the same with this token
abbrev Agree : List Sym → List Sym → List Value → Terminal → Type 0
Agree st s vs k = (x : List ℕ) (n : ℕ) → step st vs k x n ≡ step s vs k x n

run_by : (ts : List Lexeme) (c : Counts) (end : ℕ) (k : Terminal) (st s : List Sym) (vs : List Value) → is_ahead k ts ≡ true → Agree st s vs k → run ts st vs c end ≡ run ts s vs c end
unfolding run is_ahead
run_by [] c end k st s vs sees agree = cc
run_by (t ∷ ts) c end k st s vs sees agree =
    let same : t.what ≡ k = same_terminal t.what k sees in
    let e : step st vs t.what t.text t.at ≡ step s vs t.what t.text t.at = subst (λ j. step st vs j t.text t.at ≡ step s vs j t.text t.at) (sym same) (agree t.text t.at) in
    ap (λ o. go_on o c t.at (λ st w d. run ts st w d end)) e

pub by_token : (r : Reading) (k : Terminal) (st s : List Sym) (vs : List Value) → is_ahead k r.tokens ≡ true → Agree st s vs k → read r st vs ≡ read r s vs
unfolding read
by_token r k st s vs sees agree = run_by r.tokens r.counts r.end k st s vs sees agree

module _ (r : Reading) (below : List Sym) (vs : List Value) where
  pub last_word : (k : Terminal) (under : List Sym) (b : Bool) → is_ahead k r.tokens ≡ b → cond b (read r (Word k Plain ∷ under) vs) (Err (Unexpected (place_ahead r.tokens r.end))) ≡ read r (Word k Plain ∷ under) vs
  last_word k under true is = refl
  last_word k under false is = sym (word_missing r k Plain under vs is)

  -- expressions

  pub unary-number : is_ahead IntToken r.tokens ≡ true → read r (APart (ExprAt Unary) ∷ below) vs ≡ read r (Kept IntToken (Makes 1) ∷ Do to_number ∷ below) vs
  unfolding is_same number lead first_fit step
  unary-number sees = by_token r IntToken _ _ vs sees (λ x n. refl)

  pub unary-text : is_ahead TextToken r.tokens ≡ true → read r (APart (ExprAt Unary) ∷ below) vs ≡ read r (Kept TextToken (Makes 1) ∷ Do to_literal ∷ below) vs
  unfolding is_same number lead first_fit step
  unary-text sees = by_token r TextToken _ _ vs sees (λ x n. refl)

  pub unary-name : is_ahead NameToken r.tokens ≡ true → read r (APart (ExprAt Unary) ∷ below) vs ≡ read r (ANameOf (Makes 1) ∷ Do to_reading ∷ Then Called ∷ below) vs
  unfolding is_same number lead first_fit step
  unary-name sees = by_token r NameToken _ _ vs sees (λ x n. refl)

  pub unary-group : is_ahead OpenParen r.tokens ≡ true → read r (APart (ExprAt Unary) ∷ below) vs ≡ read r (Placed OpenParen (Opens 0) ∷ APart (ExprAt Chosen) ∷ Word CloseParen Closes ∷ Do to_group ∷ below) vs
  unfolding is_same number lead first_fit step
  unary-group sees = by_token r OpenParen _ _ vs sees (λ x n. refl)

  pub unary-not : is_ahead NotWord r.tokens ≡ true → read r (APart (ExprAt Unary) ∷ below) vs ≡ read r (Placed NotWord (Makes 1) ∷ APart (ExprAt Unary) ∷ Do to_denial ∷ below) vs
  unfolding is_same number lead first_fit step
  unary-not sees = by_token r NotWord _ _ vs sees (λ x n. refl)

  pub unary-minus : is_ahead Minus r.tokens ≡ true → read r (APart (ExprAt Unary) ∷ below) vs ≡ read r (Placed Minus (Makes 1) ∷ APart (ExprAt Unary) ∷ Do to_negation ∷ below) vs
  unfolding is_same number lead first_fit step
  unary-minus sees = by_token r Minus _ _ vs sees (λ x n. refl)

  pub unary-constant : is_ahead IntToken r.tokens ≡ false → is_ahead TextToken r.tokens ≡ false → is_ahead NameToken r.tokens ≡ false → is_ahead OpenParen r.tokens ≡ false → is_ahead NotWord r.tokens ≡ false → is_ahead Minus r.tokens ≡ false → read r (APart (ExprAt Unary) ∷ below) vs ≡ chosen r (constant_ways below) vs
  unary-constant a b c d e f = read-part r (ExprAt Unary) below vs ∙ rw (a, b, c, d, e, f) refl

  pub constant-true : is_ahead TrueWord r.tokens ≡ true → chosen r (constant_ways below) vs ≡ read r (Placed TrueWord (Makes 1) ∷ Do (to_truth true) ∷ below) vs
  constant-true a = rw a refl

  pub constant-false : is_ahead TrueWord r.tokens ≡ false → is_ahead FalseWord r.tokens ≡ true → chosen r (constant_ways below) vs ≡ read r (Placed FalseWord (Makes 1) ∷ Do (to_truth false) ∷ below) vs
  constant-false a b = rw (a, b) refl

  pub constant-unit : is_ahead TrueWord r.tokens ≡ false → is_ahead FalseWord r.tokens ≡ false → chosen r (constant_ways below) vs ≡ read r (Placed UnitWord (Makes 1) ∷ Do to_nothing ∷ below) vs
  constant-unit a b = rw (a, b) (last_placed r UnitWord (Makes 1) (Do to_nothing ∷ below) vs (is_ahead UnitWord r.tokens) refl)

  pub chosen-if : is_ahead IfWord r.tokens ≡ true → read r (APart (ExprAt Chosen) ∷ below) vs ≡ read r (Placed IfWord (Makes 1) ∷ APart (ExprAt Chosen) ∷ Word ThenWord Plain ∷ APart (ExprAt Chosen) ∷ Word ElseWord Plain ∷ APart (ExprAt Chosen) ∷ Do to_choice ∷ below) vs
  unfolding is_same number lead first_fit step
  chosen-if sees = by_token r IfWord _ _ vs sees (λ x n. refl)

  pub chosen-plain : is_ahead IfWord r.tokens ≡ false → read r (APart (ExprAt Chosen) ∷ below) vs ≡ read r (APart (ExprAt Disjoined) ∷ below) vs
  chosen-plain misses = read-part r (ExprAt Chosen) below vs ∙ rw misses (sym (read-part r (ExprAt Disjoined) below vs))

  -- kinds

  pub kind-set : is_ahead SetWord r.tokens ≡ true → read r (APart AnyKind ∷ below) vs ≡ read r (Word SetWord Plain ∷ Word OpenParen Plain ∷ APart BaseKind ∷ Word CloseParen Plain ∷ Do to_set ∷ below) vs
  kind-set a = read-part r AnyKind below vs ∙ rw a refl

  pub kind-map : is_ahead SetWord r.tokens ≡ false → is_ahead MapWord r.tokens ≡ true → read r (APart AnyKind ∷ below) vs ≡ read r (Word MapWord Plain ∷ Word OpenParen Plain ∷ APart BaseKind ∷ Word Comma Plain ∷ APart BaseKind ∷ Word CloseParen Plain ∷ Do to_map ∷ below) vs
  kind-map a b = read-part r AnyKind below vs ∙ rw (a, b) refl

  -- what a field begins with

  pub beginning-number : is_ahead IntToken r.tokens ≡ true → read r (APart Beginning ∷ below) vs ≡ read r (Kept IntToken Plain ∷ Do begin_number ∷ below) vs
  beginning-number a = read-part r Beginning below vs ∙ rw a refl

  pub beginning-negative : is_ahead IntToken r.tokens ≡ false → is_ahead Minus r.tokens ≡ true → read r (APart Beginning ∷ below) vs ≡ read r (Placed Minus Plain ∷ Kept IntToken Plain ∷ Do begin_negative ∷ below) vs
  beginning-negative a b = read-part r Beginning below vs ∙ rw (a, b) refl

  pub beginning-text : is_ahead IntToken r.tokens ≡ false → is_ahead Minus r.tokens ≡ false → is_ahead TextToken r.tokens ≡ true → read r (APart Beginning ∷ below) vs ≡ read r (Kept TextToken Plain ∷ Do begin_text ∷ below) vs
  beginning-text a b c = read-part r Beginning below vs ∙ rw (a, b, c) refl

  pub beginning-plain : is_ahead IntToken r.tokens ≡ false → is_ahead Minus r.tokens ≡ false → is_ahead TextToken r.tokens ≡ false → read r (APart Beginning ∷ below) vs ≡ chosen r (plain_ways below) vs
  beginning-plain a b c = read-part r Beginning below vs ∙ rw (a, b, c) refl

  -- declarations

  pub listed-start : read r (APart ListedNames ∷ below) vs ≡ read r (ANameOf Plain ∷ Do to_names ∷ Then MoreListed ∷ below) vs
  listed-start = read-part r ListedNames below vs ∙ last_name r Plain (Do to_names ∷ Then MoreListed ∷ below) vs (is_ahead NameToken r.tokens) refl

  pub source-start : read r (APart WholeSource ∷ below) vs ≡ read r (type_symbols (Do to_types ∷ Then MoreTypes ∷ Do no_transactions ∷ Then MoreTransactions ∷ Do to_source ∷ below)) vs
  source-start = read-part r WholeSource below vs ∙ last_placed r TypeWord Plain _ vs (is_ahead TypeWord r.tokens) refl
