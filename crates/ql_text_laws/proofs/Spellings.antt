-- A spelling of each terminal.
use Rattle.std.proofs.Common.{◌≡◌, ℕ, ◌<◌, true, false, List, [], ◌∷◌, ◌++◌, length, codes, slice_index, refl, arith}
use Rattle.std.specs.List.{prefix_len}
use Rattle.std.proofs.lemmas.Fmt.{decimal_digit}
use Rattle.ql_base.specs.Bytes.{is_lower, is_name_byte, is_word_byte}
use Rattle.ql_base.specs.Names.{IsWord, is_keyword, keywords}
use Rattle.ql_base.specs.Numbers.{Spells}
use Rattle.ql_base.proofs.Fronts.{all_front}
use Rattle.ql_lex.specs.Starts.{StartsWith, most_number}
use Rattle.ql_lex.specs.Starts.StartsWith.{name, keyword as keyword_front, number as number_front, text as text_front, pair, mark as mark_front}
use Rattle.ql_lex.specs.Marks.{is_mark_byte, is_mark_pair}
use Rattle.ql_lex.specs.declared.start.Start.TheVariants.{Lexeme}
use Rattle.ql_lex.specs.declared.token.TokenKind.{TokenKind}
use Rattle.ql_lex.specs.declared.token.TokenKind.TheVariants.{Name, Int, Text, Mark, Keyword}
use Rattle.ql_grammar.specs.declared.terminal.Terminal.{Terminal}
use Rattle.ql_grammar.specs.declared.terminal.Terminal.TheVariants.{NameToken, IntToken, TextToken, TypeWord, StateWord, OpWord, ContractWord, AnswerWord, EmitWord, WhenWord, ApplyWord, TransactionWord, UsesWord, ForallWord, TrueWord, FalseWord, UnitWord, EmptyWord, IfWord, ThenWord, ElseWord, AndWord, OrWord, NotWord, IntWord, BoolWord, TextWord, SetWord, MapWord, CurWord, TxnWord, VisWord, SoWord, SooWord, SameObjWord, EqWord, HbWord, HboWord, OpenBrace, CloseBrace, OpenParen, CloseParen, OpenBracket, CloseBracket, Comma, Semicolon, Colon, Dot, Equals, Assign, Arrow, IsEqual, NotEqual, Less, LessEqual, Greater, GreaterEqual, Plus, Minus, Times, AndMark, OrMark, Bar, Ampersand, NoTerminal}
use Rattle.ql_grammar.specs.Terminals.{is_same, number, keyword, expression_word, logic_word, relation_word, mark, operator}
use Rattle.ql_grammar.specs.Tokens.{terminal_of}
use Rattle.ql_text_laws.proofs.Terminals.{is_some_token}

-- before a line feed, these bytes are one token of this terminal
pub record IsSpelling (k : TokenKind) (w : List ℕ) (t : Terminal) : Type 0 where
  pub front : (rest : List ℕ) → StartsWith (w ++ 10 ∷ rest) (Lexeme k (length w))
  pub terminal : terminal_of k w ≡ t

pub record Spelling (t : Terminal) : Type 0 where
  pub kind : TokenKind
  pub bytes : List ℕ
  pub is : IsSpelling kind bytes t

word_of : (w : List ℕ) → 0 < length w → is_lower (slice_index w 0) ≡ true → prefix_len is_name_byte w ≡ length w → IsWord w
word_of w some first all = record { some = some; first = first; all = all_front is_name_byte w all }

a_word : {t : Terminal} (w : List ℕ) → 0 < length w → is_lower (slice_index w 0) ≡ true → prefix_len is_name_byte w ≡ length w → is_keyword w ≡ true → terminal_of Keyword w ≡ t → Spelling t
unfolding is_name_byte
a_word w some first all kept is = record {
  kind = Keyword;
  bytes = w;
  is = record { front = λ rest. keyword_front w (10 ∷ rest) (word_of w some first all) refl kept; terminal = is };
}

a_mark : {t : Terminal} (a : ℕ) → is_mark_byte a ≡ true → is_mark_pair a 10 ≡ false → terminal_of Mark (a ∷ []) ≡ t → Spelling t
a_mark a is_one stops is = record {
  kind = Mark;
  bytes = a ∷ [];
  is = record { front = λ rest. mark_front is_one stops; terminal = is };
}

two_marks : {t : Terminal} (a b : ℕ) → is_mark_pair a b ≡ true → terminal_of Mark (a ∷ b ∷ []) ≡ t → Spelling t
two_marks a b is_two is = record {
  kind = Mark;
  bytes = a ∷ b ∷ [];
  is = record { front = λ rest. pair is_two; terminal = is };
}

a_name : Spelling NameToken
unfolding is_lower is_name_byte is_keyword keywords terminal_of
a_name = record {
  kind = Name;
  bytes = codes "a";
  is = record { front = λ rest. name (codes "a") (10 ∷ rest) (word_of (codes "a") (omega arith) refl refl) refl refl (omega arith); terminal = refl };
}

zero_spelled : Spells most_number 0 (codes "0")
zero_spelled = record { bounded = omega arith; spelled = decimal_digit 0 (omega arith) }

a_number : Spelling IntToken
unfolding is_word_byte terminal_of
a_number = record {
  kind = Int;
  bytes = codes "0";
  is = record { front = λ rest. number_front (codes "0") (10 ∷ rest) zero_spelled refl; terminal = refl };
}

a_text : Spelling TextToken
unfolding terminal_of
a_text = record {
  kind = Text;
  bytes = 34 ∷ 34 ∷ [];
  is = record { front = λ rest. text_front [] (10 ∷ rest) (λ k d lt. absurd (omega arith)) (omega arith); terminal = refl };
}

pub spelling_of : (t : Terminal) → is_some_token t ≡ true → Spelling t
unfolding is_same number is_lower is_name_byte is_keyword keywords is_mark_byte is_mark_pair terminal_of keyword expression_word logic_word relation_word mark operator
spelling_of NameToken some = a_name
spelling_of IntToken some = a_number
spelling_of TextToken some = a_text
spelling_of TypeWord some = a_word (codes "type") (omega arith) refl refl refl refl
spelling_of StateWord some = a_word (codes "state") (omega arith) refl refl refl refl
spelling_of OpWord some = a_word (codes "op") (omega arith) refl refl refl refl
spelling_of ContractWord some = a_word (codes "contract") (omega arith) refl refl refl refl
spelling_of AnswerWord some = a_word (codes "answer") (omega arith) refl refl refl refl
spelling_of EmitWord some = a_word (codes "emit") (omega arith) refl refl refl refl
spelling_of WhenWord some = a_word (codes "when") (omega arith) refl refl refl refl
spelling_of ApplyWord some = a_word (codes "apply") (omega arith) refl refl refl refl
spelling_of TransactionWord some = a_word (codes "transaction") (omega arith) refl refl refl refl
spelling_of UsesWord some = a_word (codes "uses") (omega arith) refl refl refl refl
spelling_of ForallWord some = a_word (codes "forall") (omega arith) refl refl refl refl
spelling_of TrueWord some = a_word (codes "true") (omega arith) refl refl refl refl
spelling_of FalseWord some = a_word (codes "false") (omega arith) refl refl refl refl
spelling_of UnitWord some = a_word (codes "unit") (omega arith) refl refl refl refl
spelling_of EmptyWord some = a_word (codes "empty") (omega arith) refl refl refl refl
spelling_of IfWord some = a_word (codes "if") (omega arith) refl refl refl refl
spelling_of ThenWord some = a_word (codes "then") (omega arith) refl refl refl refl
spelling_of ElseWord some = a_word (codes "else") (omega arith) refl refl refl refl
spelling_of AndWord some = a_word (codes "and") (omega arith) refl refl refl refl
spelling_of OrWord some = a_word (codes "or") (omega arith) refl refl refl refl
spelling_of NotWord some = a_word (codes "not") (omega arith) refl refl refl refl
spelling_of IntWord some = a_word (codes "int") (omega arith) refl refl refl refl
spelling_of BoolWord some = a_word (codes "bool") (omega arith) refl refl refl refl
spelling_of TextWord some = a_word (codes "text") (omega arith) refl refl refl refl
spelling_of SetWord some = a_word (codes "set") (omega arith) refl refl refl refl
spelling_of MapWord some = a_word (codes "map") (omega arith) refl refl refl refl
spelling_of CurWord some = a_word (codes "cur") (omega arith) refl refl refl refl
spelling_of TxnWord some = a_word (codes "txn") (omega arith) refl refl refl refl
spelling_of VisWord some = a_word (codes "vis") (omega arith) refl refl refl refl
spelling_of SoWord some = a_word (codes "so") (omega arith) refl refl refl refl
spelling_of SooWord some = a_word (codes "soo") (omega arith) refl refl refl refl
spelling_of SameObjWord some = a_word (codes "sameobj") (omega arith) refl refl refl refl
spelling_of EqWord some = a_word (codes "eq") (omega arith) refl refl refl refl
spelling_of HbWord some = a_word (codes "hb") (omega arith) refl refl refl refl
spelling_of HboWord some = a_word (codes "hbo") (omega arith) refl refl refl refl
spelling_of OpenBrace some = a_mark 123 refl refl refl
spelling_of CloseBrace some = a_mark 125 refl refl refl
spelling_of OpenParen some = a_mark 40 refl refl refl
spelling_of CloseParen some = a_mark 41 refl refl refl
spelling_of OpenBracket some = a_mark 91 refl refl refl
spelling_of CloseBracket some = a_mark 93 refl refl refl
spelling_of Comma some = a_mark 44 refl refl refl
spelling_of Semicolon some = a_mark 59 refl refl refl
spelling_of Colon some = a_mark 58 refl refl refl
spelling_of Dot some = a_mark 46 refl refl refl
spelling_of Equals some = a_mark 61 refl refl refl
spelling_of Assign some = two_marks 58 61 refl refl
spelling_of Arrow some = two_marks 61 62 refl refl
spelling_of IsEqual some = two_marks 61 61 refl refl
spelling_of NotEqual some = two_marks 33 61 refl refl
spelling_of Less some = a_mark 60 refl refl refl
spelling_of LessEqual some = two_marks 60 61 refl refl
spelling_of Greater some = a_mark 62 refl refl refl
spelling_of GreaterEqual some = two_marks 62 61 refl refl
spelling_of Plus some = a_mark 43 refl refl refl
spelling_of Minus some = a_mark 45 refl refl refl
spelling_of Times some = a_mark 42 refl refl refl
spelling_of AndMark some = two_marks 47 92 refl refl
spelling_of OrMark some = two_marks 92 47 refl refl
spelling_of Bar some = a_mark 124 refl refl refl
spelling_of Ampersand some = a_mark 38 refl refl refl
spelling_of NoTerminal some = cc
