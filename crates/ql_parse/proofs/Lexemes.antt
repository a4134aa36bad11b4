-- What each lexeme of a text has, by the kind of its token.
use Rattle.std.proofs.Common.{cond, nat_lt, ◌≡◌, ℕ, ◌+◌, ◌-◌, Bool, true, false, List, [], ◌∷◌, Result, Ok, Err, take, drop, slice_range, refl, sym, ap, ◌∙◌, subst, arith, rules}
use Rattle.std.specs.List.{AllByRecursion}
use Rattle.std.proofs.Math.Seq.{take-append_seam}
use Rattle.std.proofs.lemmas.List.{drop-drop}
use Rattle.std.proofs.lemmas.Bool.{false≢true}
use Rattle.ql_base.specs.Names.{IsName}
use Rattle.ql_lex.specs.Starts.{StartsWith}
use Rattle.ql_lex.specs.Starts.StartsWith.{name}
use Rattle.ql_lex.specs.Tokens.{Lexes, ends, gap, token, no_token, too_long, no_number, preceded}
use Rattle.ql_lex.specs.declared.start.Start.TheVariants.{Lexeme}
use Rattle.ql_lex.specs.declared.token.LexFault.{LexFault}
use Rattle.ql_lex.specs.declared.token.Token.{Token}
use Rattle.ql_lex.specs.declared.token.TokenKind.{TokenKind}
use Rattle.ql_lex.specs.declared.token.TokenKind.TheVariants.{Name as NameKind}
use Rattle.ql_grammar.specs.declared.terminal.Terminal.{Terminal}
use Rattle.ql_grammar.specs.declared.terminal.Terminal.TheVariants.{NoTerminal}
use Rattle.ql_grammar.specs.Terminals.{number, is_spelled, spelled_in, relation_words, relation_word, logic_words, logic_word, expression_words, expression_word, declaration_words, keyword, operators, operator, brackets, mark}
use Rattle.ql_grammar.specs.Tokens.{Lexeme as ALexeme, lexeme_of, terminal_of}
use Rattle.ql_parse.specs.Readers.{lexemes_of}

-- no word and no mark is a name, a number or a text

abbrev pub is_open : Terminal → Bool
is_open t = nat_lt (number t) 3

abbrev AllOther : List (List ℕ × Terminal) → Type 0
AllOther [] = Unit {0}
AllOther (row ∷ rows) = (is_open row.1 ≡ false) × AllOther rows

spelled_other : (rows : List (List ℕ × Terminal)) (w : List ℕ) (other : Terminal) → AllOther rows → is_open other ≡ false → is_open (spelled_in rows w other) ≡ false
spelled_other [] w other all last = last
spelled_other (row ∷ rows) w other all last = by_test (is_spelled w row.0) (spelled_in rows w other) (spelled_other rows w other all.1 last)
  where
    by_test : (b : Bool) (t : Terminal) → is_open t ≡ false → is_open (cond b row.1 t) ≡ false
    by_test true t h = all.0
    by_test false t h = h

relation_other : (w : List ℕ) → is_open (relation_word w) ≡ false
unfolding relation_word number
relation_other w = spelled_other relation_words w NoTerminal (search rules) refl

logic_other : (w : List ℕ) → is_open (logic_word w) ≡ false
unfolding logic_word number
logic_other w = spelled_other logic_words w (relation_word w) (search rules) (relation_other w)

expression_other : (w : List ℕ) → is_open (expression_word w) ≡ false
unfolding expression_word number
expression_other w = spelled_other expression_words w (logic_word w) (search rules) (logic_other w)

pub keyword_other : (w : List ℕ) → is_open (keyword w) ≡ false
unfolding keyword number
keyword_other w = spelled_other declaration_words w (expression_word w) (search rules) (expression_other w)

operator_other : (w : List ℕ) → is_open (operator w) ≡ false
unfolding operator number
operator_other w = spelled_other operators w NoTerminal (search rules) refl

pub mark_other : (w : List ℕ) → is_open (mark w) ≡ false
unfolding mark number
mark_other w = spelled_other brackets w (operator w) (search rules) (operator_other w)

pub other_than : (t k : Terminal) → is_open t ≡ false → is_open k ≡ true → t ≡ k → ⊥
other_than t k other opens is = let same : is_open k ≡ false = subst (λ u. is_open u ≡ false) is other in false≢true (sym same ∙ opens)

-- a token that is a name has a name
pub name_taken : {text : List ℕ} {n : ℕ} → StartsWith text (Lexeme NameKind n) → IsName (take n text)
name_taken (name w rest shape stops unkept short) = rw (take-append_seam w rest) (record { shape = shape; short = short; free = unkept })

-- what is so for what each prefix of a text makes is so for all lexemes of the text
module _ (Holds : ALexeme → Type 0) (each : (at : ℕ) (text : List ℕ) (what : TokenKind) (n : ℕ) → StartsWith text (Lexeme what n) → Holds (record { what = terminal_of what (take n text); text = take n text; at = at })) where
  abbrev AnswerHolds : List ℕ → Result (List Token) LexFault → Type 0
  AnswerHolds bytes (Ok ts) = AllByRecursion Holds (lexemes_of bytes ts)
  AnswerHolds bytes (Err f) = Unit {0}

  before : (bytes : List ℕ) (t : Token) (r : Result (List Token) LexFault) → Holds (lexeme_of bytes t) → AnswerHolds bytes r → AnswerHolds bytes (preceded (t ∷ []) r)
  before bytes t (Ok ts) first others = (first, others)
  before bytes t (Err f) first others = tt

  slice_is : (bytes : List ℕ) (at n : ℕ) → slice_range bytes at (at + n) ≡ take n (drop at bytes)
  slice_is bytes at n = let e : at + n - at ≡ n = omega arith in rw e refl

  pub lexes_each : {at : ℕ} {text : List ℕ} {r : Result (List Token) LexFault} (bytes : List ℕ) → text ≡ drop at bytes → Lexes at text r → AnswerHolds bytes r
  lexes_each bytes is ends = tt
  lexes_each bytes is (gap {at} {n} front rest) = lexes_each bytes (ap (λ t. drop n t) is ∙ drop-drop n at bytes) rest
  lexes_each bytes is (token {at} {n} {what} {text} {r} front rest) =
      let taken : slice_range bytes at (at + n) ≡ take n text = slice_is bytes at n ∙ ap (λ t. take n t) (sym is) in
      before bytes (record { what = what; from = at; to = at + n }) r
      (subst (λ w. Holds (record { what = terminal_of what w; text = w; at = at })) (sym taken) (each at text what n front))
      (lexes_each bytes (ap (λ t. drop n t) is ∙ drop-drop n at bytes) rest)
  lexes_each bytes is (no_token front) = tt
  lexes_each bytes is (too_long front) = tt
  lexes_each bytes is (no_number front) = tt
