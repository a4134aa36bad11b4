-- The pieces of a contract spell its text, and make its nodes.
use Rattle.std.proofs.Common.{◌≡◌, ℕ, ◌+◌, Bool, true, false, List, [], ◌∷◌, ◌++◌, map, length, codes, refl, sym, ap, ◌∙◌, arith, append_assoc}
use Rattle.std.specs.List.{concat}
use Rattle.ql_lex.specs.declared.token.TokenKind.TheVariants.{Mark}
use Rattle.ql_lang.specs.declared.name.Name.{Name}
use Rattle.ql_lang.specs.declared.relation.RelName.TheVariants.{Vis, So, Soo, SameObj, Eq, Hb, Hbo}
use Rattle.ql_lang.specs.declared.contract.Point.{Point}
use Rattle.ql_lang.specs.declared.contract.Point.TheVariants.{CurAt, Named}
use Rattle.ql_lang.specs.declared.contract.Var.{Var}
use Rattle.ql_lang.specs.Trees.{Relation, Basic, Union, Intersection, Proposition, Truth, Application, Conjunction, Disjunction, Implication, InTxn, Sentence}
use Rattle.ql_lang.specs.Spelling.{listed, is_joined, in_brackets, term_text, terms_text, relation_text, application_text, prop_text, word_of, operations_text, var_text, vars_text, contract_text}
use Rattle.ql_grammar.specs.declared.terminal.Terminal.TheVariants.{AndMark, OrMark, Arrow, Bar, Ampersand, CloseBracket, CloseParen, Dot, Equals, CloseBrace, OpenBrace}
use Rattle.ql_grammar.specs.declared.role.Role.{Role}
use Rattle.ql_grammar.specs.declared.role.Role.TheVariants.{Plain, Makes, Opens, Closes}
use Rattle.ql_text_laws.specs.Printed.{relation_nodes, prop_nodes}
use Rattle.ql_text_laws.proofs.Pieces.{Piece, Blank, Said, text_of, nodes_of, made_by}
use Rattle.ql_text_laws.proofs.PiecesRead.{term_pieces, between, comma, relation_pieces, argument_pieces, application_pieces, items_behind, items_pieces, terms_pieces, txn_pieces, in_parens, prop_pieces, operand_pieces, name_pieces, operation_pieces, var_pieces, quantifier_pieces, contract_pieces}

-- texts that stand one after another

pub two : (a b x : List ℕ) → a ++ (b ++ x) ≡ (a ++ b) ++ x
two a b x = sym (append_assoc a b x)

pub three : (a b c x : List ℕ) → a ++ (b ++ (c ++ x)) ≡ ((a ++ b) ++ c) ++ x
three a b c x = two a b (c ++ x) ∙ two (a ++ b) c x

pub four : (a b c d x : List ℕ) → a ++ (b ++ (c ++ (d ++ x))) ≡ (((a ++ b) ++ c) ++ d) ++ x
four a b c d x = two a b (c ++ (d ++ x)) ∙ three (a ++ b) c d x

pub five : (a b c d e x : List ℕ) → a ++ (b ++ (c ++ (d ++ (e ++ x)))) ≡ ((((a ++ b) ++ c) ++ d) ++ e) ++ x
five a b c d e x = two a b (c ++ (d ++ (e ++ x))) ∙ four (a ++ b) c d e x

pub six : (a b c d e f x : List ℕ) → a ++ (b ++ (c ++ (d ++ (e ++ (f ++ x))))) ≡ (((((a ++ b) ++ c) ++ d) ++ e) ++ f) ++ x
six a b c d e f x = two a b (c ++ (d ++ (e ++ (f ++ x)))) ∙ five (a ++ b) c d e f x

-- the text

term_spells : (r : Role) (p : Point) (below : List Piece) → text_of (term_pieces r p below) ≡ term_text p ++ text_of below
term_spells r (CurAt n) below = refl
term_spells r (Named name) below = refl

relation_spells : (named opened : Role) (r : Relation) (below : List Piece) → text_of (relation_pieces named opened r below) ≡ relation_text r ++ text_of below
relation_spells named opened (Basic r at) below = refl
relation_spells named opened (Union r s) below =
    let more = relation_pieces (Makes 1) (Opens 0) s (Said Mark CloseBracket Closes (codes "]") ∷ below) in
    ap (λ t. codes "[" ++ t) (relation_spells (Makes 1) (Opens 0) r (between Bar (Makes 1) (codes "|") more))
    ∙ ap (λ t. codes "[" ++ (relation_text r ++ (codes " | " ++ t))) (relation_spells (Makes 1) (Opens 0) s (Said Mark CloseBracket Closes (codes "]") ∷ below))
    ∙ five (codes "[") (relation_text r) (codes " | ") (relation_text s) (codes "]") (text_of below)
relation_spells named opened (Intersection r s) below =
    let more = relation_pieces (Makes 1) (Opens 0) s (Said Mark CloseBracket Closes (codes "]") ∷ below) in
    ap (λ t. codes "[" ++ t) (relation_spells (Makes 1) (Opens 0) r (between Ampersand (Makes 1) (codes "&") more))
    ∙ ap (λ t. codes "[" ++ (relation_text r ++ (codes " & " ++ t))) (relation_spells (Makes 1) (Opens 0) s (Said Mark CloseBracket Closes (codes "]") ∷ below))
    ∙ five (codes "[") (relation_text r) (codes " & ") (relation_text s) (codes "]") (text_of below)

arguments_spell : (r : Relation) (a b : Point) (below : List Piece) → text_of (relation_pieces (Makes 2) (Opens 1) r (argument_pieces a b below)) ≡ (relation_text r ++ codes "(" ++ term_text a ++ codes ", " ++ term_text b ++ codes ")") ++ text_of below
arguments_spell r a b below =
    relation_spells (Makes 2) (Opens 1) r (argument_pieces a b below)
    ∙ ap (λ t. relation_text r ++ (codes "(" ++ t)) (term_spells Plain a (comma (term_pieces Plain b (Said Mark CloseParen Closes (codes ")") ∷ below))))
    ∙ ap (λ t. relation_text r ++ (codes "(" ++ (term_text a ++ (codes ", " ++ t)))) (term_spells Plain b (Said Mark CloseParen Closes (codes ")") ∷ below))
    ∙ six (relation_text r) (codes "(") (term_text a) (codes ", ") (term_text b) (codes ")") (text_of below)

application_spells : (r : Relation) (a b : Point) (below : List Piece) → text_of (application_pieces r a b below) ≡ application_text r a b ++ text_of below
application_spells (Basic Eq n) a b below =
    term_spells Plain a (between Equals (Makes 2) (codes "=") (term_pieces Plain b below))
    ∙ ap (λ t. term_text a ++ (codes " = " ++ t)) (term_spells Plain b below)
    ∙ three (term_text a) (codes " = ") (term_text b) (text_of below)
application_spells (Basic Vis n) a b below = arguments_spell (Basic Vis n) a b below
application_spells (Basic So n) a b below = arguments_spell (Basic So n) a b below
application_spells (Basic Soo n) a b below = arguments_spell (Basic Soo n) a b below
application_spells (Basic SameObj n) a b below = arguments_spell (Basic SameObj n) a b below
application_spells (Basic Hb n) a b below = arguments_spell (Basic Hb n) a b below
application_spells (Basic Hbo n) a b below = arguments_spell (Basic Hbo n) a b below
application_spells (Union r s) a b below = arguments_spell (Union r s) a b below
application_spells (Intersection r s) a b below = arguments_spell (Intersection r s) a b below

module _ (T : Type 0) (pieces : T → List Piece → List Piece) (mark : List Piece → List Piece) (text : T → List ℕ) (between_text : List ℕ)
    (mark_spells : (us : List Piece) → text_of (mark us) ≡ between_text ++ text_of us)
    (item_spells : (t : T) (below : List Piece) → text_of (pieces t below) ≡ text t ++ text_of below) where
  behind_spells : (ts : List T) (below : List Piece) → text_of (items_behind mark pieces ts below) ≡ concat (map (λ u. between_text ++ u) (map text ts)) ++ text_of below
  behind_spells [] below = refl
  behind_spells (t ∷ ts) below =
      mark_spells (pieces t (items_behind mark pieces ts below))
      ∙ ap (λ u. between_text ++ u) (item_spells t (items_behind mark pieces ts below) ∙ ap (λ u. text t ++ u) (behind_spells ts below))
      ∙ two between_text (text t) (concat (map (λ u. between_text ++ u) (map text ts)) ++ text_of below)
      ∙ two (between_text ++ text t) (concat (map (λ u. between_text ++ u) (map text ts))) (text_of below)

  pub items_spell : (ts : List T) (below : List Piece) → text_of (items_pieces mark pieces ts below) ≡ listed between_text (map text ts) ++ text_of below
  items_spell [] below = refl
  items_spell (t ∷ ts) below =
      item_spells t (items_behind mark pieces ts below) ∙ ap (λ u. text t ++ u) (behind_spells ts below)
      ∙ two (text t) (concat (map (λ u. between_text ++ u) (map text ts))) (text_of below)

terms_spell : (ps : List Point) (below : List Piece) → text_of (terms_pieces ps below) ≡ terms_text ps ++ text_of below
terms_spell = items_spell Point (term_pieces (Makes 1)) comma term_text (codes ", ") (λ us. refl) (λ p below. term_spells (Makes 1) p below)

txn_spells : (ps qs : List Point) (below : List Piece) → text_of (txn_pieces ps qs below) ≡ (codes "txn{" ++ terms_text ps ++ codes "}{" ++ terms_text qs ++ codes "}") ++ text_of below
txn_spells ps qs below =
    ap (λ t. codes "txn{" ++ t) (terms_spell ps (Said Mark CloseBrace Plain (codes "}") ∷ Said Mark OpenBrace Plain (codes "{") ∷ terms_pieces qs (Said Mark CloseBrace Plain (codes "}") ∷ below)))
    ∙ ap (λ t. codes "txn{" ++ (terms_text ps ++ (codes "}{" ++ t))) (terms_spell qs (Said Mark CloseBrace Plain (codes "}") ∷ below))
    ∙ five (codes "txn{") (terms_text ps) (codes "}{") (terms_text qs) (codes "}") (text_of below)

pub in_parens_spells : (b : Bool) (pieces : List Piece → List Piece) (text : List ℕ) → ((below : List Piece) → text_of (pieces below) ≡ text ++ text_of below) → (below : List Piece) → text_of (in_parens b pieces below) ≡ in_brackets b text ++ text_of below
in_parens_spells true pieces text inside below = ap (λ t. codes "(" ++ t) (inside (Said Mark CloseParen Closes (codes ")") ∷ below)) ∙ three (codes "(") text (codes ")") (text_of below)
in_parens_spells false pieces text inside below = inside below

prop_spells : (p : Proposition) (below : List Piece) → text_of (prop_pieces p below) ≡ prop_text p ++ text_of below
prop_spells Truth below = refl
prop_spells (Application r a b) below = application_spells r a b below
prop_spells (InTxn n ps qs) below = txn_spells ps qs below
prop_spells (Conjunction p q) below =
    in_parens_spells (is_joined p) (λ more. prop_pieces p more) (prop_text p) (λ more. prop_spells p more) (between AndMark (Makes 1) (codes "/\\") (operand_pieces q below))
    ∙ ap (λ t. in_brackets (is_joined p) (prop_text p) ++ (codes " /\\ " ++ t)) (in_parens_spells (is_joined q) (λ more. prop_pieces q more) (prop_text q) (λ more. prop_spells q more) below)
    ∙ three (in_brackets (is_joined p) (prop_text p)) (codes " /\\ ") (in_brackets (is_joined q) (prop_text q)) (text_of below)
prop_spells (Disjunction p q) below =
    in_parens_spells (is_joined p) (λ more. prop_pieces p more) (prop_text p) (λ more. prop_spells p more) (between OrMark (Makes 1) (codes "\\/") (operand_pieces q below))
    ∙ ap (λ t. in_brackets (is_joined p) (prop_text p) ++ (codes " \\/ " ++ t)) (in_parens_spells (is_joined q) (λ more. prop_pieces q more) (prop_text q) (λ more. prop_spells q more) below)
    ∙ three (in_brackets (is_joined p) (prop_text p)) (codes " \\/ ") (in_brackets (is_joined q) (prop_text q)) (text_of below)
prop_spells (Implication p q) below =
    in_parens_spells (is_joined p) (λ more. prop_pieces p more) (prop_text p) (λ more. prop_spells p more) (between Arrow (Makes 1) (codes "=>") (operand_pieces q below))
    ∙ ap (λ t. in_brackets (is_joined p) (prop_text p) ++ (codes " => " ++ t)) (in_parens_spells (is_joined q) (λ more. prop_pieces q more) (prop_text q) (λ more. prop_spells q more) below)
    ∙ three (in_brackets (is_joined p) (prop_text p)) (codes " => ") (in_brackets (is_joined q) (prop_text q)) (text_of below)

operations_spell : (ops : List Name) (below : List Piece) → text_of (operation_pieces ops below) ≡ operations_text ops ++ text_of below
operations_spell [] below = refl
operations_spell (op ∷ ops) below =
    ap (λ t. codes ": " ++ t) (items_spell Name name_pieces (between Bar Plain (codes "|")) word_of (codes " | ") (λ us. refl) (λ n more. refl) (op ∷ ops) below)
    ∙ two (codes ": ") (listed (codes " | ") (map word_of (op ∷ ops))) (text_of below)

var_spells : (v : Var) (below : List Piece) → text_of (var_pieces v below) ≡ var_text v ++ text_of below
var_spells v below = ap (λ t. v.name.word ++ t) (operations_spell v.ops below) ∙ two v.name.word (operations_text v.ops) (text_of below)

quantifier_spells : (vs : List Var) (below : List Piece) → text_of (quantifier_pieces vs below) ≡ vars_text vs ++ text_of below
quantifier_spells [] below = refl
quantifier_spells (v ∷ vs) below =
    ap (λ t. codes "forall " ++ t) (items_spell Var var_pieces comma var_text (codes ", ") (λ us. refl) var_spells (v ∷ vs) (Said Mark Dot Plain (codes ".") ∷ Blank ∷ below))
    ∙ three (codes "forall ") (listed (codes ", ") (map var_text (v ∷ vs))) (codes ". ") (text_of below)

pub contract_spells : (s : Sentence) (below : List Piece) → text_of (contract_pieces s below) ≡ contract_text s ++ text_of below
contract_spells s below =
    quantifier_spells s.vars (prop_pieces s.body below) ∙ ap (λ t. vars_text s.vars ++ t) (prop_spells s.body below) ∙ two (vars_text s.vars) (prop_text s.body) (text_of below)

-- the nodes

term_nodes : (r : Role) (p : Point) (below : List Piece) → nodes_of (term_pieces r p below) ≡ made_by r + nodes_of below
term_nodes r (CurAt n) below = refl
term_nodes r (Named name) below = refl

single_nodes : (r : Relation) (below : List Piece) → nodes_of (relation_pieces (Makes 1) (Opens 0) r below) ≡ relation_nodes r + nodes_of below
single_nodes (Basic r at) below = refl
single_nodes (Union r s) below =
    let more = Said Mark CloseBracket Closes (codes "]") ∷ below in
    omega (arith, single_nodes r (between Bar (Makes 1) (codes "|") (relation_pieces (Makes 1) (Opens 0) s more)), single_nodes s more)
single_nodes (Intersection r s) below =
    let more = Said Mark CloseBracket Closes (codes "]") ∷ below in
    omega (arith, single_nodes r (between Ampersand (Makes 1) (codes "&") (relation_pieces (Makes 1) (Opens 0) s more)), single_nodes s more)

applied_nodes : (r : Relation) (below : List Piece) → nodes_of (relation_pieces (Makes 2) (Opens 1) r below) ≡ 1 + relation_nodes r + nodes_of below
applied_nodes (Basic r at) below = refl
applied_nodes (Union r s) below =
    let more = Said Mark CloseBracket Closes (codes "]") ∷ below in
    omega (arith, single_nodes r (between Bar (Makes 1) (codes "|") (relation_pieces (Makes 1) (Opens 0) s more)), single_nodes s more)
applied_nodes (Intersection r s) below =
    let more = Said Mark CloseBracket Closes (codes "]") ∷ below in
    omega (arith, single_nodes r (between Ampersand (Makes 1) (codes "&") (relation_pieces (Makes 1) (Opens 0) s more)), single_nodes s more)

arguments_nodes : (r : Relation) (a b : Point) (below : List Piece) → nodes_of (relation_pieces (Makes 2) (Opens 1) r (argument_pieces a b below)) ≡ 1 + relation_nodes r + nodes_of below
arguments_nodes r a b below =
    let last = Said Mark CloseParen Closes (codes ")") ∷ below in
    omega (arith, applied_nodes r (argument_pieces a b below), term_nodes Plain a (comma (term_pieces Plain b last)), term_nodes Plain b last)

application_nodes : (r : Relation) (a b : Point) (below : List Piece) → nodes_of (application_pieces r a b below) ≡ 1 + relation_nodes r + nodes_of below
application_nodes (Basic Eq n) a b below = omega (arith, term_nodes Plain a (between Equals (Makes 2) (codes "=") (term_pieces Plain b below)), term_nodes Plain b below)
application_nodes (Basic Vis n) a b below = arguments_nodes (Basic Vis n) a b below
application_nodes (Basic So n) a b below = arguments_nodes (Basic So n) a b below
application_nodes (Basic Soo n) a b below = arguments_nodes (Basic Soo n) a b below
application_nodes (Basic SameObj n) a b below = arguments_nodes (Basic SameObj n) a b below
application_nodes (Basic Hb n) a b below = arguments_nodes (Basic Hb n) a b below
application_nodes (Basic Hbo n) a b below = arguments_nodes (Basic Hbo n) a b below
application_nodes (Union r s) a b below = arguments_nodes (Union r s) a b below
application_nodes (Intersection r s) a b below = arguments_nodes (Intersection r s) a b below

more_terms_nodes : (ps : List Point) (below : List Piece) → nodes_of (items_behind comma (term_pieces (Makes 1)) ps below) ≡ length ps + nodes_of below
more_terms_nodes [] below = omega arith
more_terms_nodes (p ∷ ps) below = omega (arith, term_nodes (Makes 1) p (items_behind comma (term_pieces (Makes 1)) ps below), more_terms_nodes ps below)

terms_nodes : (ps : List Point) (below : List Piece) → nodes_of (terms_pieces ps below) ≡ length ps + nodes_of below
terms_nodes [] below = omega arith
terms_nodes (p ∷ ps) below = omega (arith, term_nodes (Makes 1) p (items_behind comma (term_pieces (Makes 1)) ps below), more_terms_nodes ps below)

txn_nodes : (ps qs : List Point) (below : List Piece) → nodes_of (txn_pieces ps qs below) ≡ 1 + length ps + length qs + nodes_of below
txn_nodes ps qs below =
    let last = Said Mark CloseBrace Plain (codes "}") ∷ below in
    omega (arith, terms_nodes ps (Said Mark CloseBrace Plain (codes "}") ∷ Said Mark OpenBrace Plain (codes "{") ∷ terms_pieces qs last), terms_nodes qs last)

pub in_parens_nodes : (b : Bool) (pieces : List Piece → List Piece) (n : ℕ) → ((below : List Piece) → nodes_of (pieces below) ≡ n + nodes_of below) → (below : List Piece) → nodes_of (in_parens b pieces below) ≡ n + nodes_of below
in_parens_nodes true pieces n inside below = omega (arith, inside (Said Mark CloseParen Closes (codes ")") ∷ below))
in_parens_nodes false pieces n inside below = inside below

prop_nodes_of : (p : Proposition) (below : List Piece) → nodes_of (prop_pieces p below) ≡ prop_nodes p + nodes_of below
prop_nodes_of Truth below = refl
prop_nodes_of (Application r a b) below = application_nodes r a b below
prop_nodes_of (InTxn n ps qs) below = txn_nodes ps qs below
prop_nodes_of (Conjunction p q) below =
    let first = in_parens_nodes (is_joined p) (λ more. prop_pieces p more) (prop_nodes p) (λ more. prop_nodes_of p more) (between AndMark (Makes 1) (codes "/\\") (operand_pieces q below)) in
    let second = in_parens_nodes (is_joined q) (λ more. prop_pieces q more) (prop_nodes q) (λ more. prop_nodes_of q more) below in
    omega (arith, first, second)
prop_nodes_of (Disjunction p q) below =
    let first = in_parens_nodes (is_joined p) (λ more. prop_pieces p more) (prop_nodes p) (λ more. prop_nodes_of p more) (between OrMark (Makes 1) (codes "\\/") (operand_pieces q below)) in
    let second = in_parens_nodes (is_joined q) (λ more. prop_pieces q more) (prop_nodes q) (λ more. prop_nodes_of q more) below in
    omega (arith, first, second)
prop_nodes_of (Implication p q) below =
    let first = in_parens_nodes (is_joined p) (λ more. prop_pieces p more) (prop_nodes p) (λ more. prop_nodes_of p more) (between Arrow (Makes 1) (codes "=>") (operand_pieces q below)) in
    let second = in_parens_nodes (is_joined q) (λ more. prop_pieces q more) (prop_nodes q) (λ more. prop_nodes_of q more) below in
    omega (arith, first, second)

module _ (T : Type 0) (pieces : T → List Piece → List Piece) (mark : List Piece → List Piece)
    (mark_nodes : (us : List Piece) → nodes_of (mark us) ≡ nodes_of us)
    (item_nodes : (t : T) (below : List Piece) → nodes_of (pieces t below) ≡ nodes_of below) where
  behind_no_nodes : (ts : List T) (below : List Piece) → nodes_of (items_behind mark pieces ts below) ≡ nodes_of below
  behind_no_nodes [] below = refl
  behind_no_nodes (t ∷ ts) below = mark_nodes (pieces t (items_behind mark pieces ts below)) ∙ item_nodes t (items_behind mark pieces ts below) ∙ behind_no_nodes ts below

  items_no_nodes : (ts : List T) (below : List Piece) → nodes_of (items_pieces mark pieces ts below) ≡ nodes_of below
  items_no_nodes [] below = refl
  items_no_nodes (t ∷ ts) below = item_nodes t (items_behind mark pieces ts below) ∙ behind_no_nodes ts below

pub no_more : {a b : ℕ} → a ≡ b → 0 + a ≡ b
no_more e = omega (arith, e)

operations_no_nodes : (ops : List Name) (below : List Piece) → nodes_of (operation_pieces ops below) ≡ nodes_of below
operations_no_nodes [] below = refl
operations_no_nodes (op ∷ ops) below = no_more (items_no_nodes Name name_pieces (between Bar Plain (codes "|")) (λ us. omega arith) (λ n more. omega arith) (op ∷ ops) below)

quantifier_nodes : (vs : List Var) (below : List Piece) → nodes_of (quantifier_pieces vs below) ≡ nodes_of below
quantifier_nodes [] below = refl
quantifier_nodes (v ∷ vs) below = no_more (items_no_nodes Var var_pieces comma (λ us. omega arith) (λ v more. omega (arith, operations_no_nodes v.ops more)) (v ∷ vs) (Said Mark Dot Plain (codes ".") ∷ Blank ∷ below) ∙ no_more refl)

pub contract_nodes : (s : Sentence) → nodes_of (contract_pieces s []) ≡ prop_nodes s.body
contract_nodes s = let body = prop_nodes_of s.body [] in quantifier_nodes s.vars (prop_pieces s.body []) ∙ omega (arith, body)
