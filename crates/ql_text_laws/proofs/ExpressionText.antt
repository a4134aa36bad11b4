-- The pieces of an expression spell its text, and make its nodes.
use Rattle.std.proofs.Common.{◌≡◌, ℕ, ◌+◌, List, [], ◌∷◌, ◌++◌, codes, map, refl, ap, ◌∙◌, arith}
use Rattle.std.specs.List.{concat}
use Rattle.std.proofs.lemmas.List.{append-nil}
use Rattle.ql_lex.specs.declared.token.TokenKind.TheVariants.{Mark, Keyword}
use Rattle.ql_lang.specs.Expressions.{Expression, Number, Literal, Truth, Nothing, Reading, Calling, Choosing, Combining, Denying, Negating, Operands, NoMore, More}
use Rattle.ql_lang.specs.Spelling.{listed, in_brackets}
use Rattle.ql_lang.specs.ExpressionSpelling.{expression_text, operand_texts, operator_word, is_compound}
use Rattle.ql_grammar.specs.declared.terminal.Terminal.TheVariants.{CloseParen, ThenWord, ElseWord}
use Rattle.ql_grammar.specs.declared.role.Role.TheVariants.{Plain, Closes}
use Rattle.ql_text_laws.specs.PrintedPrograms.{expression_nodes, operand_nodes}
use Rattle.ql_text_laws.proofs.Pieces.{Piece, Blank, Said, text_of, nodes_of}
use Rattle.ql_text_laws.proofs.PiecesText.{two, three, four, five, six, in_parens_spells, in_parens_nodes}
use Rattle.ql_text_laws.proofs.ExpressionPieces.{op_pieces, operand_pieces, expression_pieces, first_pieces, behind_pieces}

-- the texts of arguments after a comma each
abbrev behind_text : Operands → List ℕ
behind_text more = concat (map (λ u. codes ", " ++ u) (operand_texts more))

mutual
  unfolding expression_pieces expression_text

  pub expression_spells : (e : Expression) (below : List Piece) → text_of (expression_pieces e below) ≡ expression_text e ++ text_of below
  expression_spells (Number at n) below = refl
  expression_spells (Literal at text) below = refl
  expression_spells (Truth at b) below = refl
  expression_spells (Nothing at) below = refl
  expression_spells (Reading at name) below = refl
  expression_spells (Calling at name args) below =
      ap (λ t. name.word ++ (codes "(" ++ t)) (first_spells args (Said Mark CloseParen Closes (codes ")") ∷ below))
      ∙ four name.word (codes "(") (listed (codes ", ") (operand_texts args)) (codes ")") (text_of below)
  expression_spells (Choosing at test a b) below =
      let third = Blank ∷ Said Keyword ElseWord Plain (codes "else") ∷ Blank ∷ expression_pieces b below in
      let second = Blank ∷ Said Keyword ThenWord Plain (codes "then") ∷ Blank ∷ expression_pieces a third in
      ap (λ t. codes "if " ++ t) (expression_spells test second)
      ∙ ap (λ t. codes "if " ++ (expression_text test ++ (codes " then " ++ t))) (expression_spells a third)
      ∙ ap (λ t. codes "if " ++ (expression_text test ++ (codes " then " ++ (expression_text a ++ (codes " else " ++ t))))) (expression_spells b below)
      ∙ six (codes "if ") (expression_text test) (codes " then ") (expression_text a) (codes " else ") (expression_text b) (text_of below)
  expression_spells (Combining at op a b) below =
      let left = in_brackets (is_compound a) (expression_text a) in
      let right = in_brackets (is_compound b) (expression_text b) in
      in_parens_spells (is_compound a) (λ more. expression_pieces a more) (expression_text a) (λ more. expression_spells a more) (op_pieces op (operand_pieces b below))
      ∙ ap (λ t. left ++ (codes " " ++ (operator_word op ++ (codes " " ++ t)))) (in_parens_spells (is_compound b) (λ more. expression_pieces b more) (expression_text b) (λ more. expression_spells b more) below)
      ∙ five left (codes " ") (operator_word op) (codes " ") right (text_of below)
  expression_spells (Denying at a) below =
      ap (λ t. codes "not " ++ t) (in_parens_spells (is_compound a) (λ more. expression_pieces a more) (expression_text a) (λ more. expression_spells a more) below)
      ∙ two (codes "not ") (in_brackets (is_compound a) (expression_text a)) (text_of below)
  expression_spells (Negating at a) below =
      ap (λ t. codes "-" ++ t) (in_parens_spells (is_compound a) (λ more. expression_pieces a more) (expression_text a) (λ more. expression_spells a more) below)
      ∙ two (codes "-") (in_brackets (is_compound a) (expression_text a)) (text_of below)

  first_spells : (args : Operands) (below : List Piece) → text_of (first_pieces args below) ≡ listed (codes ", ") (operand_texts args) ++ text_of below
  first_spells NoMore below = refl
  first_spells (More a more) below =
      expression_spells a (behind_pieces more below) ∙ ap (λ t. expression_text a ++ t) (behind_spells more below) ∙ two (expression_text a) (behind_text more) (text_of below)

  behind_spells : (more : Operands) (below : List Piece) → text_of (behind_pieces more below) ≡ concat (map (λ u. codes ", " ++ u) (operand_texts more)) ++ text_of below
  behind_spells NoMore below = refl
  behind_spells (More a more) below =
      ap (λ t. codes ", " ++ t) (expression_spells a (behind_pieces more below) ∙ ap (λ t. expression_text a ++ t) (behind_spells more below))
      ∙ three (codes ", ") (expression_text a) (behind_text more) (text_of below)

-- the nodes

mutual
  unfolding expression_pieces expression_nodes

  pub expression_makes : (e : Expression) (below : List Piece) → nodes_of (expression_pieces e below) ≡ expression_nodes e + nodes_of below
  expression_makes (Number at n) below = refl
  expression_makes (Literal at text) below = refl
  expression_makes (Truth at b) below = refl
  expression_makes (Nothing at) below = refl
  expression_makes (Reading at name) below = refl
  expression_makes (Calling at name args) below = omega (arith, first_makes args (Said Mark CloseParen Closes (codes ")") ∷ below))
  expression_makes (Choosing at test a b) below =
      let third = Blank ∷ Said Keyword ElseWord Plain (codes "else") ∷ Blank ∷ expression_pieces b below in
      let second = Blank ∷ Said Keyword ThenWord Plain (codes "then") ∷ Blank ∷ expression_pieces a third in
      omega (arith, expression_makes test second, expression_makes a third, expression_makes b below)
  expression_makes (Combining at op a b) below =
      let first = in_parens_nodes (is_compound a) (λ more. expression_pieces a more) (expression_nodes a) (λ more. expression_makes a more) (op_pieces op (operand_pieces b below)) in
      let second = in_parens_nodes (is_compound b) (λ more. expression_pieces b more) (expression_nodes b) (λ more. expression_makes b more) below in
      omega (arith, first, second)
  expression_makes (Denying at a) below =
      let inside = in_parens_nodes (is_compound a) (λ more. expression_pieces a more) (expression_nodes a) (λ more. expression_makes a more) below in
      omega (arith, inside)
  expression_makes (Negating at a) below =
      let inside = in_parens_nodes (is_compound a) (λ more. expression_pieces a more) (expression_nodes a) (λ more. expression_makes a more) below in
      omega (arith, inside)

  first_makes : (args : Operands) (below : List Piece) → nodes_of (first_pieces args below) ≡ operand_nodes args + nodes_of below
  first_makes NoMore below = omega arith
  first_makes (More a more) below = omega (arith, expression_makes a (behind_pieces more below), behind_makes more below)

  behind_makes : (more : Operands) (below : List Piece) → nodes_of (behind_pieces more below) ≡ operand_nodes more + nodes_of below
  behind_makes NoMore below = omega arith
  behind_makes (More a more) below = omega (arith, expression_makes a (behind_pieces more below), behind_makes more below)

-- the text of an expression alone
pub expression_spelled : (e : Expression) → text_of (expression_pieces e []) ≡ expression_text e
expression_spelled e = expression_spells e [] ∙ append-nil (expression_text e)
