-- The pieces of an expression stand.
use Rattle.std.proofs.Common.{◌≡◌, ℕ, ◌+◌, ◌≤◌, ◌==◌, Bool, true, false, List, [], ◌∷◌, ◌++◌, length, codes, decimal, pos, negsuc, refl, sym, ap, subst, arith, append_assoc, length-append}
use Rattle.std.specs.List.{AllPass}
use Rattle.std.proofs.lemmas.Bool.Decides.{nat_tests}
use Rattle.std.proofs.lemmas.Fmt.{digits_decimal}
use Rattle.ql_base.specs.Bytes.{is_digit, is_lower, is_name_byte, is_text_byte, is_word_byte, StopsBefore}
use Rattle.ql_base.specs.Names.{is_keyword, keywords}
use Rattle.ql_base.proofs.Fronts.{passes_head, passes_tail}
use Rattle.ql_base.proofs.Numerals.{digits_model}
use Rattle.ql_lex.specs.Starts.{StartsWith, number as number_front, text as text_front, most_number}
use Rattle.ql_lex.specs.Marks.{is_mark_byte, is_mark_pair}
use Rattle.ql_lex.specs.declared.start.Start.TheVariants.{Lexeme}
use Rattle.ql_lex.specs.declared.token.TokenKind.TheVariants.{Int as IntKind, Text as TextKind, Mark}
use Rattle.ql_lang.specs.declared.expression.BinOp.{BinOp}
use Rattle.ql_lang.specs.declared.expression.BinOp.TheVariants.{Or, And, Eq, Ne, Lt, Le, Gt, Ge, Add, Sub, Mul}
use Rattle.ql_lang.specs.Expressions.{Expression, Number, Literal, Truth, Nothing, Reading, Calling, Choosing, Combining, Denying, Negating, Operands, NoMore, More}
use Rattle.ql_lang.specs.ExpressionSpelling.{operator_word, quoted, truth_word, is_compound}
use Rattle.ql_grammar.specs.Terminals.{keyword, expression_word, logic_word, mark, operator}
use Rattle.ql_grammar.specs.Tokens.{terminal_of}
use Rattle.ql_grammar.specs.declared.terminal.Terminal.TheVariants.{IntToken, TextToken, FalseWord, UnitWord, IfWord, ThenWord, ElseWord, AndWord, OrWord, NotWord, CloseParen, Minus}
use Rattle.ql_grammar.specs.declared.role.Role.{Role}
use Rattle.ql_grammar.specs.declared.role.Role.TheVariants.{Makes, Closes}
use Rattle.ql_text_laws.specs.Printed.{quoted_after, OpensAtMost}
use Rattle.ql_text_laws.specs.PrintedPrograms.{ExpressionFits, SomeFit, OperandsFit, TextFits}
use Rattle.ql_text_laws.proofs.Pieces.{Piece, Said, text_of, Stands, IsSaid, IsQuiet, plain, makes, opening, quiet_word, said_name, said_mark, said_pair, lone, open_by}
use Rattle.ql_text_laws.proofs.PiecesRead.{in_parens}
use Rattle.ql_text_laws.proofs.PiecesStand.{IsFixed, fixed, word_said, true_fixed, open_paren, close_paren, comma_said}
use Rattle.ql_text_laws.proofs.ExpressionPieces.{op_terminal, op_kind, op_pieces, operand_pieces, truth_terminal, expression_pieces, first_pieces, behind_pieces}

-- the fixed words

false_fixed : IsFixed (codes "false") FalseWord
unfolding is_lower is_name_byte is_keyword keywords terminal_of keyword expression_word logic_word
false_fixed = fixed (codes "false") FalseWord (omega arith) refl refl refl refl

pub unit_fixed : IsFixed (codes "unit") UnitWord
unfolding is_lower is_name_byte is_keyword keywords terminal_of keyword expression_word logic_word
unit_fixed = fixed (codes "unit") UnitWord (omega arith) refl refl refl refl

if_fixed : IsFixed (codes "if") IfWord
unfolding is_lower is_name_byte is_keyword keywords terminal_of keyword expression_word
if_fixed = fixed (codes "if") IfWord (omega arith) refl refl refl refl

then_fixed : IsFixed (codes "then") ThenWord
unfolding is_lower is_name_byte is_keyword keywords terminal_of keyword expression_word
then_fixed = fixed (codes "then") ThenWord (omega arith) refl refl refl refl

else_fixed : IsFixed (codes "else") ElseWord
unfolding is_lower is_name_byte is_keyword keywords terminal_of keyword expression_word
else_fixed = fixed (codes "else") ElseWord (omega arith) refl refl refl refl

and_fixed : IsFixed (codes "and") AndWord
unfolding is_lower is_name_byte is_keyword keywords terminal_of keyword expression_word
and_fixed = fixed (codes "and") AndWord (omega arith) refl refl refl refl

or_fixed : IsFixed (codes "or") OrWord
unfolding is_lower is_name_byte is_keyword keywords terminal_of keyword expression_word
or_fixed = fixed (codes "or") OrWord (omega arith) refl refl refl refl

not_fixed : IsFixed (codes "not") NotWord
unfolding is_lower is_name_byte is_keyword keywords terminal_of keyword expression_word
not_fixed = fixed (codes "not") NotWord (omega arith) refl refl refl refl

pub truth_fixed : (b : Bool) → IsFixed (truth_word b) (truth_terminal b)
truth_fixed true = true_fixed
truth_fixed false = false_fixed

-- the operators

minus_said : {counts : Bool} (rest : List ℕ) → IsSaid counts Mark Minus (Makes 1) (codes "-") rest
unfolding is_mark_byte terminal_of mark operator
minus_said rest = said_mark 45 rest refl (lone 45 refl rest) refl (λ before. refl) refl

op_said : {counts : Bool} (op : BinOp) (rest : List ℕ) → IsSaid counts (op_kind op) (op_terminal op) (Makes 1) (operator_word op) (32 ∷ rest)
unfolding is_name_byte is_mark_byte is_mark_pair terminal_of mark operator
op_said Or rest = word_said (32 ∷ rest) or_fixed makes refl
op_said And rest = word_said (32 ∷ rest) and_fixed makes refl
op_said Eq rest = said_pair 61 61 (32 ∷ rest) refl refl (λ before. refl) refl
op_said Ne rest = said_pair 33 61 (32 ∷ rest) refl refl (λ before. refl) refl
op_said Lt rest = said_mark 60 (32 ∷ rest) refl refl refl (λ before. refl) refl
op_said Le rest = said_pair 60 61 (32 ∷ rest) refl refl (λ before. refl) refl
op_said Gt rest = said_mark 62 (32 ∷ rest) refl refl refl (λ before. refl) refl
op_said Ge rest = said_pair 62 61 (32 ∷ rest) refl refl (λ before. refl) refl
op_said Add rest = said_mark 43 (32 ∷ rest) refl refl refl (λ before. refl) refl
op_said Sub rest = said_mark 45 (32 ∷ rest) refl refl refl (λ before. refl) refl
op_said Mul rest = said_mark 42 (32 ∷ rest) refl refl refl (λ before. refl) refl

-- numbers

digit_is_name : (b : ℕ) → is_digit b ≡ true → is_name_byte b ≡ true
unfolding is_digit is_name_byte
digit_is_name b h = grind (arith, nat_tests)

decimal_names : (n : ℕ) → n ≤ most_number → AllPass is_name_byte (decimal n)
decimal_names n few = λ k d lt. digit_is_name _ (digits_decimal digits_model n (omega arith) k d lt)

pub said_number : {counts : Bool} {r : Role} (n : ℕ) → n ≤ most_number → IsQuiet r → (rest : List ℕ) → StopsBefore is_word_byte rest → IsSaid counts IntKind IntToken r (decimal n) rest
unfolding terminal_of
said_number {counts} n few quiet rest stops = record {
  front = number_front (decimal n) rest (record { bounded = few; spelled = refl }) stops;
  terminal = refl;
  opens = quiet_word counts (decimal n) rest (decimal_names n few) quiet;
}

-- texts

text_unquoted : (b : ℕ) → is_text_byte b ≡ true → quoted_after true b ≡ true
unfolding is_text_byte
text_unquoted b h = let no : (b == 34) ≡ false = grind (arith, nat_tests) in rw no refl

run_quoted : (text rest : List ℕ) (most before : ℕ) → AllPass is_text_byte text → OpensAtMost most true before (text ++ 34 ∷ rest) → OpensAtMost most false before rest
run_quoted [] rest most before all h = h.1
run_quoted (b ∷ bs) rest most before all h =
    run_quoted bs rest most before (passes_tail is_text_byte b bs all) (subst (λ q. OpensAtMost most q before (bs ++ 34 ∷ rest)) (text_unquoted b (passes_head is_text_byte b bs all)) h.1)

pub quoted_behind : (text rest : List ℕ) → quoted text ++ rest ≡ 34 ∷ (text ++ 34 ∷ rest)
quoted_behind text rest = ap (λ t. 34 ∷ t) (append_assoc text (34 ∷ []) rest)

text_is_front : (text rest : List ℕ) → TextFits text → StartsWith (quoted text ++ rest) (Lexeme TextKind (length (quoted text)))
text_is_front text rest fits =
    let long : length text + 2 ≡ length (quoted text) = omega (arith, length-append text (34 ∷ [])) in
    let front : StartsWith (34 ∷ (text ++ 34 ∷ rest)) (Lexeme TextKind (length text + 2)) = text_front text rest fits.0 fits.1 in
    subst (λ t. StartsWith t (Lexeme TextKind (length (quoted text)))) (sym (quoted_behind text rest)) (subst (λ n. StartsWith (34 ∷ (text ++ 34 ∷ rest)) (Lexeme TextKind n)) long front)

quiet_open : {r : Role} → IsQuiet r → (most before : ℕ) (rest : List ℕ) → OpensAtMost most false before rest → OpensAtMost most false (open_by r before) rest
quiet_open plain most before rest h = h
quiet_open makes most before rest h = h

pub said_text : {counts : Bool} {r : Role} (text : List ℕ) → TextFits text → IsQuiet r → (rest : List ℕ) → IsSaid counts TextKind TextToken r (quoted text) rest
unfolding terminal_of
said_text {counts} {r = r} text fits quiet rest = record {
  front = text_is_front text rest fits;
  terminal = refl;
  opens = opening counts r (quoted text) rest (λ most before h.
      quiet_open quiet most before rest (run_quoted text rest most before fits.0 (subst (λ t. OpensAtMost most false before t) (quoted_behind text rest) h).1));
}

-- what ends a number

abbrev pub Ends : List Piece → Type 0
Ends below = StopsBefore is_word_byte (text_of below)

byte_ends : (b : ℕ) → is_word_byte b ≡ false → is_name_byte b ≡ false
unfolding is_word_byte is_name_byte
byte_ends b h = grind (arith, nat_tests)

pub text_ends : (text : List ℕ) → StopsBefore is_word_byte text → StopsBefore is_name_byte text
text_ends [] h = refl
text_ends (b ∷ bs) h = byte_ends b h

-- the parts stand

module _ (counts : Bool) where
  parens_stand : (b : Bool) (pieces : List Piece → List Piece) → ((below : List Piece) → Ends below → Stands counts below → Stands counts (pieces below)) → (below : List Piece) → Ends below → Stands counts below → Stands counts (in_parens b pieces below)
  unfolding is_word_byte
  parens_stand true pieces inside below ends stands = (open_paren 0 _, inside (Said Mark CloseParen Closes (codes ")") ∷ below) refl (close_paren _, stands))
  parens_stand false pieces inside below ends stands = inside below ends stands

  behind_ends : (more : Operands) (below : List Piece) → Ends below → Ends (behind_pieces more below)
  unfolding is_word_byte expression_pieces
  behind_ends NoMore below ends = ends
  behind_ends (More a more) below ends = refl

  mutual
    unfolding is_name_byte is_word_byte expression_pieces ExpressionFits

    pub expression_stands : (e : Expression) → ExpressionFits e → (below : List Piece) → Ends below → Stands counts below → Stands counts (expression_pieces e below)
    expression_stands (Number n (pos m)) fits below ends stands = (said_number m fits makes (text_of below) ends, stands)
    expression_stands (Number n (negsuc m)) fits below ends stands = absurd fits
    expression_stands (Literal n text) fits below ends stands = (said_text text fits makes (text_of below), stands)
    expression_stands (Truth n b) fits below ends stands = (word_said _ (truth_fixed b) makes (text_ends (text_of below) ends), stands)
    expression_stands (Nothing n) fits below ends stands = (word_said _ unit_fixed makes (text_ends (text_of below) ends), stands)
    expression_stands (Reading n name) fits below ends stands = (said_name name.word (text_of below) fits makes (text_ends (text_of below) ends), stands)
    expression_stands (Calling n name args) fits below ends stands =
        (said_name name.word _ fits.0 makes refl, (open_paren 0 _, first_stand args fits.1 (Said Mark CloseParen Closes (codes ")") ∷ below) refl (close_paren _, stands)))
    expression_stands (Choosing n test a b) fits below ends stands = (
      word_said _ if_fixed makes refl,
      expression_stands test fits.0 _ refl (
        word_said _ then_fixed plain refl,
        expression_stands a fits.1 _ refl
            (word_said _ else_fixed plain refl, expression_stands b fits.2 below ends stands),
      ),
    )
    expression_stands (Combining n op a b) fits below ends stands =
        parens_stand (is_compound a) (λ more. expression_pieces a more) (λ more s t. expression_stands a fits.0 more s t) (op_pieces op (operand_pieces b below)) refl
        (op_said op _, parens_stand (is_compound b) (λ more. expression_pieces b more) (λ more s t. expression_stands b fits.1 more s t) below ends stands)
    expression_stands (Denying n a) fits below ends stands =
        (word_said _ not_fixed makes refl, parens_stand (is_compound a) (λ more. expression_pieces a more) (λ more s t. expression_stands a fits more s t) below ends stands)
    expression_stands (Negating n a) fits below ends stands =
        (minus_said _, parens_stand (is_compound a) (λ more. expression_pieces a more) (λ more s t. expression_stands a fits more s t) below ends stands)

    first_stand : (args : Operands) → SomeFit args → (below : List Piece) → Ends below → Stands counts below → Stands counts (first_pieces args below)
    first_stand NoMore fits below ends stands = absurd fits
    first_stand (More a more) fits below ends stands = expression_stands a fits.0 (behind_pieces more below) (behind_ends more below ends) (behind_stand more fits.1 below ends stands)

    behind_stand : (more : Operands) → OperandsFit more → (below : List Piece) → Ends below → Stands counts below → Stands counts (behind_pieces more below)
    behind_stand NoMore fits below ends stands = stands
    behind_stand (More a more) fits below ends stands =
        (comma_said _, expression_stands a fits.0 (behind_pieces more below) (behind_ends more below ends) (behind_stand more fits.1 below ends stands))
