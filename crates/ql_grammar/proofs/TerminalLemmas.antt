use Rattle.std.proofs.Common.{◌≡◌, refl, sym, ◌∙◌, ap, true, List, [], ◌∷◌, get_or}
use Rattle.std.proofs.lemmas.Bool.Decides.{Decides-eqb}
use Rattle.ql_grammar.specs.declared.terminal.Terminal.{Terminal}
use Rattle.ql_grammar.specs.declared.terminal.Terminal.TheVariants.{NameToken, IntToken, TextToken, TypeWord, StateWord, OpWord, ContractWord, AnswerWord, EmitWord, WhenWord, ApplyWord, TransactionWord, UsesWord, ForallWord, TrueWord, FalseWord, UnitWord, EmptyWord, IfWord, ThenWord, ElseWord, AndWord, OrWord, NotWord, IntWord, BoolWord, TextWord, SetWord, MapWord, CurWord, TxnWord, VisWord, SoWord, SooWord, SameObjWord, EqWord, HbWord, HboWord, OpenBrace, CloseBrace, OpenParen, CloseParen, OpenBracket, CloseBracket, Comma, Semicolon, Colon, Dot, Equals, Assign, Arrow, IsEqual, NotEqual, Less, LessEqual, Greater, GreaterEqual, Plus, Minus, Times, AndMark, OrMark, Bar, Ampersand, NoTerminal}
use Rattle.ql_grammar.specs.Terminals.{is_same, number}

-- the terminals in order
terminals : List Terminal
terminals =
    NameToken ∷ IntToken ∷ TextToken ∷ TypeWord ∷ StateWord ∷ OpWord ∷ ContractWord ∷ AnswerWord
    ∷ EmitWord ∷ WhenWord ∷ ApplyWord ∷ TransactionWord ∷ UsesWord ∷ ForallWord ∷ TrueWord ∷ FalseWord
    ∷ UnitWord ∷ EmptyWord ∷ IfWord ∷ ThenWord ∷ ElseWord ∷ AndWord ∷ OrWord ∷ NotWord
    ∷ IntWord ∷ BoolWord ∷ TextWord ∷ SetWord ∷ MapWord ∷ CurWord ∷ TxnWord ∷ VisWord
    ∷ SoWord ∷ SooWord ∷ SameObjWord ∷ EqWord ∷ HbWord ∷ HboWord ∷ OpenBrace ∷ CloseBrace
    ∷ OpenParen ∷ CloseParen ∷ OpenBracket ∷ CloseBracket ∷ Comma ∷ Semicolon ∷ Colon ∷ Dot
    ∷ Equals ∷ Assign ∷ Arrow ∷ IsEqual ∷ NotEqual ∷ Less ∷ LessEqual ∷ Greater
    ∷ GreaterEqual ∷ Plus ∷ Minus ∷ Times ∷ AndMark ∷ OrMark ∷ Bar ∷ Ampersand
    ∷ NoTerminal ∷ []

terminal_at : (k : Terminal) → get_or terminals (number k) NoTerminal ≡ k
unfolding terminals number
terminal_at k = elim k as (λ j. get_or terminals (number j) NoTerminal ≡ j) [ NameToken ↦ refl | _ ↦ refl ]

-- terminals that are the same by number are one
pub same_terminal : (a b : Terminal) → is_same a b ≡ true → a ≡ b
unfolding is_same
same_terminal a b same =
    sym (terminal_at a) ∙ ap (λ n. get_or terminals n NoTerminal) ((Decides-eqb (number a) (number b)).0 same) ∙ terminal_at b

-- each terminal is the same as itself
pub same_itself : (k : Terminal) → is_same k k ≡ true
unfolding is_same
same_itself k = (Decides-eqb (number k) (number k)).1 refl
