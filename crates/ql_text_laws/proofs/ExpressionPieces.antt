-- The pieces of an expression, and what they read as: the expression, with other offsets.
use Rattle.std.proofs.Common.{◌≡◌, ℕ, ◌+◌, ◌-◌, ◌≤◌, arith, Bool, true, false, List, [], ◌∷◌, ◌++◌, length, codes, decimal, pos, negsuc, refl, sym, ap, ◌∙◌, subst, append_assoc, length-append}
use Rattle.std.specs.Fmt.{signed_decimal}
use Rattle.std.proofs.Math.Seq.{take-append_seam}
use Rattle.std.proofs.lemmas.Fmt.{decimal_is_IsNumeral}
use Rattle.std.proofs.lemmas.List.{append-nil}
use Rattle.ql_lex.specs.declared.token.TokenKind.{TokenKind}
use Rattle.ql_lex.specs.declared.token.TokenKind.TheVariants.{Name as NameKind, Int as IntKind, Text as TextKind, Mark, Keyword}
use Rattle.ql_lex.specs.Starts.{most_number}
use Rattle.ql_lang.specs.declared.expression.BinOp.{BinOp}
use Rattle.ql_lang.specs.declared.expression.BinOp.TheVariants.{Or, And, Eq, Ne, Lt, Le, Gt, Ge, Add, Sub, Mul}
use Rattle.ql_lang.specs.Expressions.{Expression, Number, Literal, Truth, Nothing, Reading, Calling, Choosing, Combining, Denying, Negating, Operands, NoMore, More}
use Rattle.ql_lang.specs.ExpressionSpelling.{operator_word, quoted, truth_word, is_compound}
use Rattle.ql_grammar.specs.declared.terminal.Terminal.{Terminal}
use Rattle.ql_grammar.specs.declared.terminal.Terminal.TheVariants.{NameToken, IntToken, TextToken, TrueWord, FalseWord, UnitWord, IfWord, ThenWord, ElseWord, AndWord, OrWord, NotWord, OpenParen, CloseParen, IsEqual, NotEqual, Less, LessEqual, Greater, GreaterEqual, Plus, Minus, Times}
use Rattle.ql_grammar.specs.declared.precedence.Precedence.TheVariants as precedence
use Rattle.ql_grammar.specs.declared.role.Role.TheVariants.{Plain, Makes, Opens, Closes}
use Rattle.ql_grammar.specs.Tokens.{Marked, marked}
use Rattle.ql_grammar.specs.ExpressionGrammar
use Rattle.ql_grammar.specs.ExpressionGrammar.{ReadsExpr, ReadsArguments, ExprPart, Unary, Compared, Chosen, IsOperator, number_spelled, between_quotes, operands}
use Rattle.ql_text_laws.specs.Printed.{unplaced_name}
use Rattle.ql_text_laws.specs.PrintedPrograms.{unplaced_expression, unplaced_operands, ExpressionFits, OperandsFit}
use Rattle.ql_text_laws.proofs.Pieces.{Piece, Blank, Said, marks_of}
use Rattle.ql_text_laws.proofs.PiecesRead.{Reads, same_parts, comma, in_parens}

-- The pieces, each function with what follows.

abbrev pub op_terminal : BinOp → Terminal
op_terminal Or = OrWord
op_terminal And = AndWord
op_terminal Eq = IsEqual
op_terminal Ne = NotEqual
op_terminal Lt = Less
op_terminal Le = LessEqual
op_terminal Gt = Greater
op_terminal Ge = GreaterEqual
op_terminal Add = Plus
op_terminal Sub = Minus
op_terminal Mul = Times

abbrev pub op_kind : BinOp → TokenKind
op_kind Or = Keyword
op_kind And = Keyword
op_kind _ = Mark

abbrev pub op_pieces : BinOp → List Piece → List Piece
op_pieces op below = Blank ∷ Said (op_kind op) (op_terminal op) (Makes 1) (operator_word op) ∷ Blank ∷ below

abbrev pub truth_terminal : Bool → Terminal
truth_terminal true = TrueWord
truth_terminal false = FalseWord

unfoldable mutual
  pub expression_pieces : Expression → List Piece → List Piece
  expression_pieces (Number at n) below = Said IntKind IntToken (Makes 1) (signed_decimal n) ∷ below
  expression_pieces (Literal at text) below = Said TextKind TextToken (Makes 1) (quoted text) ∷ below
  expression_pieces (Truth at b) below = Said Keyword (truth_terminal b) (Makes 1) (truth_word b) ∷ below
  expression_pieces (Nothing at) below = Said Keyword UnitWord (Makes 1) (codes "unit") ∷ below
  expression_pieces (Reading at name) below = Said NameKind NameToken (Makes 1) name.word ∷ below
  expression_pieces (Calling at name args) below =
      Said NameKind NameToken (Makes 1) name.word ∷ Said Mark OpenParen (Opens 0) (codes "(") ∷ first_pieces args (Said Mark CloseParen Closes (codes ")") ∷ below)
  expression_pieces (Choosing at test a b) below =
      Said Keyword IfWord (Makes 1) (codes "if") ∷ Blank ∷ expression_pieces test
      (Blank ∷ Said Keyword ThenWord Plain (codes "then") ∷ Blank ∷ expression_pieces a
      (Blank ∷ Said Keyword ElseWord Plain (codes "else") ∷ Blank ∷ expression_pieces b below))
  expression_pieces (Combining at op a b) below =
      in_parens (is_compound a) (λ more. expression_pieces a more) (op_pieces op (in_parens (is_compound b) (λ more. expression_pieces b more) below))
  expression_pieces (Denying at a) below = Said Keyword NotWord (Makes 1) (codes "not") ∷ Blank ∷ in_parens (is_compound a) (λ more. expression_pieces a more) below
  expression_pieces (Negating at a) below = Said Mark Minus (Makes 1) (codes "-") ∷ in_parens (is_compound a) (λ more. expression_pieces a more) below

  -- the first argument of a call and those after it
  pub first_pieces : Operands → List Piece → List Piece
  first_pieces NoMore below = below
  first_pieces (More a more) below = expression_pieces a (behind_pieces more below)

  -- arguments after a comma each
  pub behind_pieces : Operands → List Piece → List Piece
  behind_pieces NoMore below = below
  behind_pieces (More a more) below = comma (expression_pieces a (behind_pieces more below))

abbrev pub operand_pieces : Expression → List Piece → List Piece
operand_pieces e below = in_parens (is_compound e) (λ more. expression_pieces e more) below

-- What they read as.

abbrev pub ReadsSome : ExprPart → List Marked → List Marked → Expression → Type 0
ReadsSome part ts rest e = (s : ℕ) × ReadsExpr part ts rest s e

abbrev pub ExprReads : ExprPart → ℕ → List Piece → List Piece → Expression → Type 0
ExprReads part at from below e = Reads Expression (ReadsSome part) unplaced_expression at from below e

-- the part as which an expression is read, where it stands alone
abbrev pub part_of : Expression → ExprPart
part_of (Choosing at test a b) = Chosen
part_of (Combining at op a b) = Chosen
part_of _ = Unary

abbrev Operand : List Marked → List Marked → ℕ → Expression → Type 0
Operand = ReadsExpr Unary

whole : {s : ℕ} {ts rest : List Marked} {e : Expression} → ReadsExpr Unary ts rest s e → ReadsExpr Chosen ts rest s e
whole r = ExpressionGrammar.disjoined (ExpressionGrammar.conjoined (ExpressionGrammar.compared (ExpressionGrammar.added (ExpressionGrammar.multiplied (ExpressionGrammar.unary r)))))

lone_whole : (e : Expression) (at : ℕ) (from below : List Piece) → ExprReads Unary at from below e → ExprReads Chosen at from below e
lone_whole e at from below r = record { next = r.next; tree = r.tree; reads = (r.reads.0, whole r.reads.1); same = r.same }

pub whole_of : (e : Expression) (at : ℕ) (from below : List Piece) → ExprReads (part_of e) at from below e → ExprReads Chosen at from below e
whole_of (Number n z) at from below r = lone_whole (Number n z) at from below r
whole_of (Literal n text) at from below r = lone_whole (Literal n text) at from below r
whole_of (Truth n b) at from below r = lone_whole (Truth n b) at from below r
whole_of (Nothing n) at from below r = lone_whole (Nothing n) at from below r
whole_of (Reading n name) at from below r = lone_whole (Reading n name) at from below r
whole_of (Calling n name args) at from below r = lone_whole (Calling n name args) at from below r
whole_of (Choosing n test a b) at from below r = r
whole_of (Combining n op a b) at from below r = r
whole_of (Denying n a) at from below r = lone_whole (Denying n a) at from below r
whole_of (Negating n a) at from below r = lone_whole (Negating n a) at from below r

grouped : (e : Expression) (at : ℕ) (below : List Piece) → ExprReads Chosen (at + 1) (expression_pieces e (Said Mark CloseParen Closes (codes ")") ∷ below)) (Said Mark CloseParen Closes (codes ")") ∷ below) e → ExprReads Unary at (in_parens true (λ more. expression_pieces e more) below) below e
grouped e at below r = record { next = r.next + 1; tree = r.tree; reads = (at, ExpressionGrammar.group r.reads.1); same = r.same }

abbrev IsRead : Expression → Type 0
IsRead e = (at : ℕ) (below : List Piece) → ExprReads (part_of e) at (expression_pieces e below) below e

in_group : (e : Expression) → IsRead e → (at : ℕ) (below : List Piece) → ExprReads Unary at (in_parens true (λ more. expression_pieces e more) below) below e
in_group e reads at below =
    let close = Said Mark CloseParen Closes (codes ")") ∷ below in
    grouped e at below (whole_of e (at + 1) (expression_pieces e close) close (reads (at + 1) close))

operand_of : (e : Expression) → IsRead e → (at : ℕ) (below : List Piece) → ExprReads Unary at (operand_pieces e below) below e
operand_of (Number n z) reads at below = reads at below
operand_of (Literal n text) reads at below = reads at below
operand_of (Truth n b) reads at below = reads at below
operand_of (Nothing n) reads at below = reads at below
operand_of (Reading n name) reads at below = reads at below
operand_of (Calling n name args) reads at below = reads at below
operand_of (Choosing n test a b) reads at below = in_group (Choosing n test a b) reads at below
operand_of (Combining n op a b) reads at below = in_group (Combining n op a b) reads at below
operand_of (Denying n a) reads at below = in_group (Denying n a) reads at below
operand_of (Negating n a) reads at below = in_group (Negating n a) reads at below

-- operators between operands, by their precedence

product_reads : {k : Terminal} {op : BinOp} {x : List ℕ} {n s t : ℕ} {ts us rest : List Marked} {a b : Expression} → IsOperator precedence.Product k op → Operand ts (marked (Makes 1) k x n ∷ us) s a → Operand us rest t b → ReadsExpr Chosen ts rest s (Combining s op a b)
product_reads is a b = ExpressionGrammar.disjoined (ExpressionGrammar.conjoined (ExpressionGrammar.compared (ExpressionGrammar.added (ExpressionGrammar.multiplied (ExpressionGrammar.product is (ExpressionGrammar.unary a) b)))))

sum_reads : {k : Terminal} {op : BinOp} {x : List ℕ} {n s t : ℕ} {ts us rest : List Marked} {a b : Expression} → IsOperator precedence.Sum k op → Operand ts (marked (Makes 1) k x n ∷ us) s a → Operand us rest t b → ReadsExpr Chosen ts rest s (Combining s op a b)
sum_reads is a b = ExpressionGrammar.disjoined (ExpressionGrammar.conjoined (ExpressionGrammar.compared (ExpressionGrammar.added (ExpressionGrammar.sum is (ExpressionGrammar.multiplied (ExpressionGrammar.unary a)) (ExpressionGrammar.unary b)))))

comparison_reads : {k : Terminal} {op : BinOp} {x : List ℕ} {n s t : ℕ} {ts us rest : List Marked} {a b : Expression} → IsOperator precedence.Comparison k op → Operand ts (marked (Makes 1) k x n ∷ us) s a → Operand us rest t b → ReadsExpr Chosen ts rest s (Combining s op a b)
comparison_reads is a b = ExpressionGrammar.disjoined (ExpressionGrammar.conjoined (ExpressionGrammar.compared (ExpressionGrammar.comparison is (ExpressionGrammar.multiplied (ExpressionGrammar.unary a)) (ExpressionGrammar.multiplied (ExpressionGrammar.unary b)))))

compared : {s : ℕ} {ts rest : List Marked} {e : Expression} → Operand ts rest s e → ReadsExpr Compared ts rest s e
compared r = ExpressionGrammar.added (ExpressionGrammar.multiplied (ExpressionGrammar.unary r))

conjunction_reads : {k : Terminal} {op : BinOp} {x : List ℕ} {n s t : ℕ} {ts us rest : List Marked} {a b : Expression} → IsOperator precedence.Conjunction k op → Operand ts (marked (Makes 1) k x n ∷ us) s a → Operand us rest t b → ReadsExpr Chosen ts rest s (Combining s op a b)
conjunction_reads is a b = ExpressionGrammar.disjoined (ExpressionGrammar.conjoined (ExpressionGrammar.both is (ExpressionGrammar.compared (compared a)) (compared b)))

disjunction_reads : {k : Terminal} {op : BinOp} {x : List ℕ} {n s t : ℕ} {ts us rest : List Marked} {a b : Expression} → IsOperator precedence.Disjunction k op → Operand ts (marked (Makes 1) k x n ∷ us) s a → Operand us rest t b → ReadsExpr Chosen ts rest s (Combining s op a b)
disjunction_reads is a b = ExpressionGrammar.disjoined (ExpressionGrammar.either is (ExpressionGrammar.conjoined (ExpressionGrammar.compared (compared a))) (ExpressionGrammar.compared (compared b)))

combined_reads : (op : BinOp) {x : List ℕ} {n s t : ℕ} {ts us rest : List Marked} {a b : Expression} → Operand ts (marked (Makes 1) (op_terminal op) x n ∷ us) s a → Operand us rest t b → ReadsExpr Chosen ts rest s (Combining s op a b)
combined_reads Or a b = disjunction_reads ExpressionGrammar.or a b
combined_reads And a b = conjunction_reads ExpressionGrammar.and a b
combined_reads Eq a b = comparison_reads ExpressionGrammar.equal a b
combined_reads Ne a b = comparison_reads ExpressionGrammar.unequal a b
combined_reads Lt a b = comparison_reads ExpressionGrammar.less a b
combined_reads Le a b = comparison_reads ExpressionGrammar.at_most a b
combined_reads Gt a b = comparison_reads ExpressionGrammar.greater a b
combined_reads Ge a b = comparison_reads ExpressionGrammar.at_least a b
combined_reads Add a b = sum_reads ExpressionGrammar.plus a b
combined_reads Sub a b = sum_reads ExpressionGrammar.minus a b
combined_reads Mul a b = product_reads ExpressionGrammar.times a b

-- literals

pub number_back : (n : ℕ) → n ≤ most_number → number_spelled (decimal n) ≡ n
number_back n few = (decimal_is_IsNumeral n (omega arith)).1

pub text_back : (text : List ℕ) → between_quotes (quoted text) ≡ text
text_back text =
    let n : length (34 ∷ (text ++ 34 ∷ [])) - 1 - 1 ≡ length text = omega (arith, length-append text (34 ∷ [])) in
    rw n (take-append_seam text (34 ∷ []))

number_reads : (at0 : ℕ) (n : ℕ) → n ≤ most_number → (at : ℕ) (below : List Piece) → ExprReads Unary at (expression_pieces (Number at0 (pos n)) below) below (Number at0 (pos n))
unfolding expression_pieces unplaced_expression
number_reads at0 n few at below = record {
  next = at + length (decimal n);
  tree = Number at (pos (number_spelled (decimal n)));
  reads = (at, ExpressionGrammar.number);
  same = ap (λ (m : ℕ). Number 0 (pos m)) (number_back n few);
}

truth_reads : (at0 : ℕ) (b : Bool) (at : ℕ) (below : List Piece) → ExprReads Unary at (expression_pieces (Truth at0 b) below) below (Truth at0 b)
unfolding expression_pieces unplaced_expression
truth_reads at0 true at below = record { next = at + 4; tree = Truth at true; reads = (at, ExpressionGrammar.true_value); same = refl }
truth_reads at0 false at below = record { next = at + 5; tree = Truth at false; reads = (at, ExpressionGrammar.false_value); same = refl }

-- arguments after those that were read
record Arguments (ts : List Marked) (below : List Piece) (done : List Expression) (wanted : Operands) : Type 0 where
  next : ℕ
  trees : List Expression
  reads : ReadsArguments ts (marks_of next below) (done ++ trees)
  same : unplaced_operands (operands trees) ≡ unplaced_operands wanted

mutual
  unfolding expression_pieces unplaced_expression ExpressionFits

  pub expression_reads : (e : Expression) → ExpressionFits e → (at : ℕ) (below : List Piece) → ExprReads (part_of e) at (expression_pieces e below) below e
  expression_reads (Number n (pos m)) fits at below = number_reads n m fits at below
  expression_reads (Number n (negsuc m)) fits at below = absurd fits
  expression_reads (Literal n text) fits at below = record {
    next = at + length (quoted text);
    tree = Literal at (between_quotes (quoted text));
    reads = (at, ExpressionGrammar.text);
    same = ap (λ (t : List ℕ). Literal 0 t) (text_back text);
  }
  expression_reads (Truth n b) fits at below = truth_reads n b at below
  expression_reads (Nothing n) fits at below = record { next = at + 4; tree = Nothing at; reads = (at, ExpressionGrammar.unit_value); same = refl }
  expression_reads (Reading n name) fits at below = record {
    next = at + length name.word;
    tree = Reading at (record { word = name.word; at = at });
    reads = (at, ExpressionGrammar.variable);
    same = refl;
  }
  expression_reads (Calling n name NoMore) fits at below = absurd fits.1
  expression_reads (Calling n name (More a more)) fits at below =
      let close = Said Mark CloseParen Closes (codes ")") ∷ below in
      let from = at + length name.word + 1 in
      let first = whole_of a from (expression_pieces a (behind_pieces more close)) (behind_pieces more close) (expression_reads a fits.1.0 from (behind_pieces more close)) in
      let others = arguments_read (marks_of from (first_pieces (More a more) close)) (first.tree ∷ []) more fits.1.1 first.next close (ReadsArguments.one first.reads.1) in
      record {
        next = others.next + 1;
        tree = Calling at (record { word = name.word; at = at }) (operands (first.tree ∷ others.trees));
        reads = (at, ExpressionGrammar.call others.reads);
        same = same_parts (λ x y. Calling 0 (unplaced_name name) (More x y)) first.same others.same;
      }
  expression_reads (Choosing n test a b) fits at below =
      let third = Blank ∷ Said Keyword ElseWord Plain (codes "else") ∷ Blank ∷ expression_pieces b below in
      let second = Blank ∷ Said Keyword ThenWord Plain (codes "then") ∷ Blank ∷ expression_pieces a third in
      let t = whole_of test (at + 2 + 1) (expression_pieces test second) second (expression_reads test fits.0 (at + 2 + 1) second) in
      let x = whole_of a (t.next + 1 + 4 + 1) (expression_pieces a third) third (expression_reads a fits.1 (t.next + 1 + 4 + 1) third) in
      let y = whole_of b (x.next + 1 + 4 + 1) (expression_pieces b below) below (expression_reads b fits.2 (x.next + 1 + 4 + 1) below) in
      record {
        next = y.next;
        tree = Choosing at t.tree x.tree y.tree;
        reads = (at, ExpressionGrammar.choice t.reads.1 x.reads.1 y.reads.1);
        same = same_parts (λ u v. Choosing 0 u v (unplaced_expression y.tree)) t.same x.same ∙ ap (λ w. Choosing 0 (unplaced_expression test) (unplaced_expression a) w) y.same;
      }
  expression_reads (Combining n op a b) fits at below =
      let x = operand_of a (λ m more. expression_reads a fits.0 m more) at (op_pieces op (operand_pieces b below)) in
      let y = operand_of b (λ m more. expression_reads b fits.1 m more) (x.next + 1 + length (operator_word op) + 1) below in
      record {
        next = y.next;
        tree = Combining x.reads.0 op x.tree y.tree;
        reads = (x.reads.0, combined_reads op x.reads.1 y.reads.1);
        same = same_parts (λ u v. Combining 0 op u v) x.same y.same;
      }
  expression_reads (Denying n a) fits at below =
      let x = operand_of a (λ m more. expression_reads a fits m more) (at + 3 + 1) below in
      record { next = x.next; tree = Denying at x.tree; reads = (at, ExpressionGrammar.denial x.reads.1); same = ap (λ u. Denying 0 u) x.same }
  expression_reads (Negating n a) fits at below =
      let x = operand_of a (λ m more. expression_reads a fits m more) (at + 1) below in
      record { next = x.next; tree = Negating at x.tree; reads = (at, ExpressionGrammar.negation x.reads.1); same = ap (λ u. Negating 0 u) x.same }

  arguments_read : (ts : List Marked) (done : List Expression) (more : Operands) → OperandsFit more → (at : ℕ) (below : List Piece) → ReadsArguments ts (marks_of at (behind_pieces more below)) done → Arguments ts below done more
  arguments_read ts done NoMore fits at below so_far = record { next = at; trees = []; reads = subst (ReadsArguments ts (marks_of at below)) (sym (append-nil done)) so_far; same = refl }
  arguments_read ts done (More a more) fits at below so_far =
      let first = whole_of a (at + 1 + 1) (expression_pieces a (behind_pieces more below)) (behind_pieces more below) (expression_reads a fits.0 (at + 1 + 1) (behind_pieces more below)) in
      let others = arguments_read ts (done ++ first.tree ∷ []) more fits.1 first.next below (ReadsArguments.more so_far first.reads.1) in
      record {
        next = others.next;
        trees = first.tree ∷ others.trees;
        reads = subst (ReadsArguments ts (marks_of others.next below)) (append_assoc done (first.tree ∷ []) others.trees) others.reads;
        same = same_parts (λ x y. More x y) first.same others.same;
      }

-- the pieces of an expression read as it, offsets aside
pub chosen_reads : (e : Expression) → ExpressionFits e → (at : ℕ) (below : List Piece) → ExprReads Chosen at (expression_pieces e below) below e
chosen_reads e fits at below = whole_of e at (expression_pieces e below) below (expression_reads e fits at below)
