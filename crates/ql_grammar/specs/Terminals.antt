use Rattle.std.specs.Prelude.{ℕ, Bool, nat_eq, List, codes, [], ◌∷◌, if◌then◌else◌}
use Rattle.std.specs.Cmp.Lexicographic.{pointwise}
use Rattle.ql_grammar.specs.declared.terminal.Terminal.{Terminal}
use Rattle.ql_grammar.specs.declared.terminal.Terminal.TheVariants.{NameToken, IntToken, TextToken, TypeWord, StateWord, OpWord, ContractWord, AnswerWord, EmitWord, WhenWord, ApplyWord, TransactionWord, UsesWord, ForallWord, TrueWord, FalseWord, UnitWord, EmptyWord, IfWord, ThenWord, ElseWord, AndWord, OrWord, NotWord, IntWord, BoolWord, TextWord, SetWord, MapWord, CurWord, TxnWord, VisWord, SoWord, SooWord, SameObjWord, EqWord, HbWord, HboWord, OpenBrace, CloseBrace, OpenParen, CloseParen, OpenBracket, CloseBracket, Comma, Semicolon, Colon, Dot, Equals, Assign, Arrow, IsEqual, NotEqual, Less, LessEqual, Greater, GreaterEqual, Plus, Minus, Times, AndMark, OrMark, Bar, Ampersand, NoTerminal}

-- the number of a terminal, in the order of their list
unfoldable pub number : Terminal → ℕ
number NameToken = 0
number IntToken = 1
number TextToken = 2
number TypeWord = 3
number StateWord = 4
number OpWord = 5
number ContractWord = 6
number AnswerWord = 7
number EmitWord = 8
number WhenWord = 9
number ApplyWord = 10
number TransactionWord = 11
number UsesWord = 12
number ForallWord = 13
number TrueWord = 14
number FalseWord = 15
number UnitWord = 16
number EmptyWord = 17
number IfWord = 18
number ThenWord = 19
number ElseWord = 20
number AndWord = 21
number OrWord = 22
number NotWord = 23
number IntWord = 24
number BoolWord = 25
number TextWord = 26
number SetWord = 27
number MapWord = 28
number CurWord = 29
number TxnWord = 30
number VisWord = 31
number SoWord = 32
number SooWord = 33
number SameObjWord = 34
number EqWord = 35
number HbWord = 36
number HboWord = 37
number OpenBrace = 38
number CloseBrace = 39
number OpenParen = 40
number CloseParen = 41
number OpenBracket = 42
number CloseBracket = 43
number Comma = 44
number Semicolon = 45
number Colon = 46
number Dot = 47
number Equals = 48
number Assign = 49
number Arrow = 50
number IsEqual = 51
number NotEqual = 52
number Less = 53
number LessEqual = 54
number Greater = 55
number GreaterEqual = 56
number Plus = 57
number Minus = 58
number Times = 59
number AndMark = 60
number OrMark = 61
number Bar = 62
number Ampersand = 63
number NoTerminal = 64

-- two terminals are the same
unfoldable pub is_same : Terminal → Terminal → Bool
is_same a b = nat_eq (number a) (number b)

-- two lists of bytes are equal
abbrev pub is_spelled : List ℕ → List ℕ → Bool
is_spelled text word = pointwise nat_eq text word

-- the terminal that these bytes spell in a table, else the other one
abbrev pub spelled_in : List (List ℕ × Terminal) → List ℕ → Terminal → Terminal
spelled_in [] w other = other
spelled_in (row ∷ rows) w other = if is_spelled w row.0 then row.1 else spelled_in rows w other

-- the names of relations
abbrev pub relation_words : List (List ℕ × Terminal)
relation_words = (codes "vis", VisWord) ∷ (codes "so", SoWord) ∷ (codes "soo", SooWord) ∷ (codes "sameobj", SameObjWord) ∷ (codes "eq", EqWord) ∷ (codes "hb", HbWord) ∷ (codes "hbo", HboWord) ∷ []

unfoldable pub relation_word : List ℕ → Terminal
relation_word w = spelled_in relation_words w NoTerminal

-- the words of contracts and values
abbrev pub logic_words : List (List ℕ × Terminal)
logic_words = (codes "forall", ForallWord) ∷ (codes "true", TrueWord) ∷ (codes "false", FalseWord) ∷ (codes "unit", UnitWord) ∷ (codes "empty", EmptyWord) ∷ (codes "cur", CurWord) ∷ (codes "txn", TxnWord) ∷ []

unfoldable pub logic_word : List ℕ → Terminal
logic_word w = spelled_in logic_words w (relation_word w)

-- the words of expressions and kinds
abbrev pub expression_words : List (List ℕ × Terminal)
expression_words = (codes "if", IfWord) ∷ (codes "then", ThenWord) ∷ (codes "else", ElseWord) ∷ (codes "and", AndWord) ∷ (codes "or", OrWord) ∷ (codes "not", NotWord) ∷ (codes "int", IntWord) ∷ (codes "bool", BoolWord) ∷ (codes "text", TextWord) ∷ (codes "set", SetWord) ∷ (codes "map", MapWord) ∷ []

unfoldable pub expression_word : List ℕ → Terminal
expression_word w = spelled_in expression_words w (logic_word w)

-- the words of declarations
abbrev pub declaration_words : List (List ℕ × Terminal)
declaration_words = (codes "type", TypeWord) ∷ (codes "state", StateWord) ∷ (codes "op", OpWord) ∷ (codes "contract", ContractWord) ∷ (codes "answer", AnswerWord) ∷ (codes "emit", EmitWord) ∷ (codes "when", WhenWord) ∷ (codes "apply", ApplyWord) ∷ (codes "transaction", TransactionWord) ∷ (codes "uses", UsesWord) ∷ []

unfoldable pub keyword : List ℕ → Terminal
keyword w = spelled_in declaration_words w (expression_word w)

-- the operators
abbrev pub operators : List (List ℕ × Terminal)
operators = (codes "=", Equals) ∷ (codes ":=", Assign) ∷ (codes "=>", Arrow) ∷ (codes "==", IsEqual) ∷ (codes "!=", NotEqual) ∷ (codes "<", Less) ∷ (codes "<=", LessEqual) ∷ (codes ">", Greater) ∷ (codes ">=", GreaterEqual) ∷ (codes "+", Plus) ∷ (codes "-", Minus) ∷ (codes "*", Times) ∷ (codes "/\\", AndMark) ∷ (codes "\\/", OrMark) ∷ (codes "|", Bar) ∷ (codes "&", Ampersand) ∷ []

unfoldable pub operator : List ℕ → Terminal
operator w = spelled_in operators w NoTerminal

-- the brackets and separators
abbrev pub brackets : List (List ℕ × Terminal)
brackets = (codes "{", OpenBrace) ∷ (codes "}", CloseBrace) ∷ (codes "(", OpenParen) ∷ (codes ")", CloseParen) ∷ (codes "[", OpenBracket) ∷ (codes "]", CloseBracket) ∷ (codes ",", Comma) ∷ (codes ";", Semicolon) ∷ (codes ":", Colon) ∷ (codes ".", Dot) ∷ []

unfoldable pub mark : List ℕ → Terminal
mark w = spelled_in brackets w (operator w)
