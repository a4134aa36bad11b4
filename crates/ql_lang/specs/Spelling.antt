use Rattle.std.specs.Prelude.{ℕ, Bool, true, false, List, [], ◌∷◌, ◌++◌, map, codes}
use Rattle.std.specs.List.{concat}
use Rattle.ql_lang.specs.declared.name.Name.{Name}
use Rattle.ql_lang.specs.declared.relation.RelName.{RelName}
use Rattle.ql_lang.specs.declared.relation.RelName.TheVariants.{Vis, So, Soo, SameObj, Eq, Hb, Hbo}
use Rattle.ql_lang.specs.declared.contract.Point.{Point}
use Rattle.ql_lang.specs.declared.contract.Point.TheVariants.{CurAt, Named}
use Rattle.ql_lang.specs.declared.contract.Var.{Var}
use Rattle.ql_lang.specs.Trees.{Relation, Basic, Union, Intersection, Proposition, Truth, Application, Conjunction, Disjunction, Implication, InTxn, Sentence}

-- How contracts are spelled: one text for each tree, whatever its source offsets. There is a blank on both sides of an
-- operator and after a comma, a colon and the dot. There are round brackets around each operand of a connective that
-- is made by a connective itself, square brackets around each union and each intersection, and no others.

-- texts with a separator between them
abbrev pub listed : List ℕ → List (List ℕ) → List ℕ
listed mark [] = []
listed mark (t ∷ ts) = t ++ concat (map (λ u. mark ++ u) ts)

abbrev pub relation_word : RelName → List ℕ
relation_word Vis = codes "vis"
relation_word So = codes "so"
relation_word Soo = codes "soo"
relation_word SameObj = codes "sameobj"
relation_word Eq = codes "eq"
relation_word Hb = codes "hb"
relation_word Hbo = codes "hbo"

abbrev pub term_text : Point → List ℕ
term_text (CurAt at) = codes "cur"
term_text (Named name) = name.word

abbrev pub terms_text : List Point → List ℕ
terms_text ps = listed (codes ", ") (map term_text ps)

abbrev pub relation_text : Relation → List ℕ
relation_text (Basic name at) = relation_word name
relation_text (Union r s) = codes "[" ++ relation_text r ++ codes " | " ++ relation_text s ++ codes "]"
relation_text (Intersection r s) = codes "[" ++ relation_text r ++ codes " & " ++ relation_text s ++ codes "]"

-- equality is spelled `=`
abbrev pub application_text : Relation → Point → Point → List ℕ
application_text (Basic Eq at) a b = term_text a ++ codes " = " ++ term_text b
application_text r a b = relation_text r ++ codes "(" ++ term_text a ++ codes ", " ++ term_text b ++ codes ")"

-- whether a statement is made by a connective
abbrev pub is_joined : Proposition → Bool
is_joined (Conjunction p q) = true
is_joined (Disjunction p q) = true
is_joined (Implication p q) = true
is_joined _ = false

abbrev pub in_brackets : Bool → List ℕ → List ℕ
in_brackets true text = codes "(" ++ text ++ codes ")"
in_brackets false text = text

abbrev pub prop_text : Proposition → List ℕ
prop_text Truth = codes "true"
prop_text (Application r a b) = application_text r a b
prop_text (Conjunction p q) = in_brackets (is_joined p) (prop_text p) ++ codes " /\\ " ++ in_brackets (is_joined q) (prop_text q)
prop_text (Disjunction p q) = in_brackets (is_joined p) (prop_text p) ++ codes " \\/ " ++ in_brackets (is_joined q) (prop_text q)
prop_text (Implication p q) = in_brackets (is_joined p) (prop_text p) ++ codes " => " ++ in_brackets (is_joined q) (prop_text q)
prop_text (InTxn at ps qs) = codes "txn{" ++ terms_text ps ++ codes "}{" ++ terms_text qs ++ codes "}"

abbrev pub word_of : Name → List ℕ
word_of name = name.word

abbrev pub operations_text : List Name → List ℕ
operations_text [] = []
operations_text (op ∷ ops) = codes ": " ++ listed (codes " | ") (map word_of (op ∷ ops))

abbrev pub var_text : Var → List ℕ
var_text v = v.name.word ++ operations_text v.ops

abbrev pub vars_text : List Var → List ℕ
vars_text [] = []
vars_text (v ∷ vs) = codes "forall " ++ listed (codes ", ") (map var_text (v ∷ vs)) ++ codes ". "

abbrev pub contract_text : Sentence → List ℕ
contract_text s = vars_text s.vars ++ prop_text s.body
