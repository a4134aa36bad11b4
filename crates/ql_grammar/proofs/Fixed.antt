use Rattle.std.proofs.Common.{◌≡◌, ℕ, List, [], ◌∷◌, Bool, true, false, cond, refl, subst}
use Rattle.ql_lex.specs.declared.token.TokenKind.{TokenKind}
use Rattle.ql_lex.specs.declared.token.TokenKind.TheVariants.{Name, Int, Text, Mark, Keyword}
use Rattle.ql_grammar.specs.declared.terminal.Terminal.{Terminal}
use Rattle.ql_grammar.specs.declared.terminal.Terminal.TheVariants.{NameToken, IntToken, TextToken, NoTerminal}
use Rattle.ql_grammar.specs.Terminals.{is_spelled, spelled_in, keyword, expression_word, logic_word, relation_word, mark, operator, declaration_words, expression_words, logic_words, relation_words, brackets, operators}
use Rattle.ql_grammar.specs.Tokens.{terminal_of}

-- a fixed word or mark
abbrev IsFixed : Terminal → Type 0
IsFixed NameToken = ⊥
IsFixed IntToken = ⊥
IsFixed TextToken = ⊥
IsFixed _ = Unit {0}

abbrev AreFixed : List (List ℕ × Terminal) → Type 0
AreFixed [] = Unit {0}
AreFixed (row ∷ rows) = IsFixed row.1 × AreFixed rows

fixed_if : (b : Bool) (k other : Terminal) → IsFixed k → IsFixed other → IsFixed (cond b k other)
fixed_if true k other here there = here
fixed_if false k other here there = there

fixed_in : (table : List (List ℕ × Terminal)) (w : List ℕ) (other : Terminal) → AreFixed table → IsFixed other → IsFixed (spelled_in table w other)
fixed_in [] w other rows there = there
fixed_in (row ∷ rows) w other fixed there = fixed_if (is_spelled w row.0) row.1 (spelled_in rows w other) fixed.0 (fixed_in rows w other fixed.1 there)

relation_word_fixed : (w : List ℕ) → IsFixed (relation_word w)
unfolding relation_word
relation_word_fixed w = fixed_in relation_words w NoTerminal (tt, (tt, (tt, (tt, (tt, (tt, (tt, tt))))))) tt

logic_word_fixed : (w : List ℕ) → IsFixed (logic_word w)
unfolding logic_word
logic_word_fixed w = fixed_in logic_words w (relation_word w) (tt, (tt, (tt, (tt, (tt, (tt, (tt, tt))))))) (relation_word_fixed w)

expression_word_fixed : (w : List ℕ) → IsFixed (expression_word w)
unfolding expression_word
expression_word_fixed w = fixed_in expression_words w (logic_word w) (tt, (tt, (tt, (tt, (tt, (tt, (tt, (tt, (tt, (tt, (tt, tt))))))))))) (logic_word_fixed w)

keyword_fixed : (w : List ℕ) → IsFixed (keyword w)
unfolding keyword
keyword_fixed w = fixed_in declaration_words w (expression_word w) (tt, (tt, (tt, (tt, (tt, (tt, (tt, (tt, (tt, (tt, tt)))))))))) (expression_word_fixed w)

operator_fixed : (w : List ℕ) → IsFixed (operator w)
unfolding operator
operator_fixed w = fixed_in operators w NoTerminal (tt, (tt, (tt, (tt, (tt, (tt, (tt, (tt, (tt, (tt, (tt, (tt, (tt, (tt, (tt, (tt, tt)))))))))))))))) tt

mark_fixed : (w : List ℕ) → IsFixed (mark w)
unfolding mark
mark_fixed w = fixed_in brackets w (operator w) (tt, (tt, (tt, (tt, (tt, (tt, (tt, (tt, (tt, (tt, tt)))))))))) (operator_fixed w)

-- only names are read as names
pub name_token : (what : TokenKind) (text : List ℕ) → terminal_of what text ≡ NameToken → what ≡ Name
unfolding terminal_of
name_token Name text is = refl
name_token Int text is = cc
name_token Text text is = cc
name_token Mark text is = absurd (subst IsFixed is (mark_fixed text))
name_token Keyword text is = absurd (subst IsFixed is (keyword_fixed text))

-- only numbers are read as numbers
pub int_token : (what : TokenKind) (text : List ℕ) → terminal_of what text ≡ IntToken → what ≡ Int
unfolding terminal_of
int_token Name text is = cc
int_token Int text is = refl
int_token Text text is = cc
int_token Mark text is = absurd (subst IsFixed is (mark_fixed text))
int_token Keyword text is = absurd (subst IsFixed is (keyword_fixed text))

-- only texts are read as texts
pub text_token : (what : TokenKind) (text : List ℕ) → terminal_of what text ≡ TextToken → what ≡ Text
unfolding terminal_of
text_token Name text is = cc
text_token Int text is = cc
text_token Text text is = refl
text_token Mark text is = absurd (subst IsFixed is (mark_fixed text))
text_token Keyword text is = absurd (subst IsFixed is (keyword_fixed text))
