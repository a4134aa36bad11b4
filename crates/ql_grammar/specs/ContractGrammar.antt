use Rattle.std.specs.Prelude.{ℕ, List, [], ◌∷◌, ◌++◌}
use Rattle.ql_lang.specs.declared.name.Name.{Name}
use Rattle.ql_lang.specs.declared.relation.RelName.{RelName}
use Rattle.ql_lang.specs.declared.relation.RelName.TheVariants.{Vis, So, Soo, SameObj, Eq, Hb, Hbo}
use Rattle.ql_lang.specs.declared.contract.Point.{Point}
use Rattle.ql_lang.specs.declared.contract.Point.TheVariants.{CurAt, Named}
use Rattle.ql_lang.specs.declared.contract.Var.{Var}
use Rattle.ql_lang.specs.Trees.{Relation, Basic, Union, Intersection, Proposition, Truth, Application, Conjunction, Disjunction, Implication, InTxn, Sentence}
use Rattle.ql_grammar.specs.declared.terminal.Terminal.{Terminal}
use Rattle.ql_grammar.specs.declared.terminal.Terminal.TheVariants.{NameToken, CurWord, ForallWord, TrueWord, TxnWord, VisWord, SoWord, SooWord, SameObjWord, EqWord, HbWord, HboWord, OpenBrace, CloseBrace, OpenParen, CloseParen, OpenBracket, CloseBracket, Comma, Colon, Dot, Equals, Arrow, AndMark, OrMark, Bar, Ampersand}
use Rattle.ql_grammar.specs.declared.role.Role.{Role}
use Rattle.ql_grammar.specs.declared.role.Role.TheVariants.{Plain, Makes, Opens, Closes}
use Rattle.ql_grammar.specs.Tokens.{Marked, marked}

-- The grammar of contracts. `ReadsX part ts rest tree` says that the tokens `ts` begin with a text that
-- reads as `tree`, and that `rest` follows it. Each rule has its own line; operators of one level group to
-- the left, `=>` to the right, and there may be brackets around any part. The role of each token says which
-- nodes it makes and which brackets it opens.

pub data IsRelationWord : Terminal → RelName → Type 0 where
  vis : IsRelationWord VisWord Vis
  so : IsRelationWord SoWord So
  soo : IsRelationWord SooWord Soo
  sameobj : IsRelationWord SameObjWord SameObj
  eq : IsRelationWord EqWord Eq
  hb : IsRelationWord HbWord Hb
  hbo : IsRelationWord HboWord Hbo

-- a variable or `cur`
pub data ReadsTerm : Role → List Marked → List Marked → Point → Type 0 where
  current : {r : Role} {x : List ℕ} {n : ℕ} {rest : List Marked} → ReadsTerm r (marked r CurWord x n ∷ rest) rest (CurAt n)
  variable : {r : Role} {x : List ℕ} {n : ℕ} {rest : List Marked} → ReadsTerm r (marked r NameToken x n ∷ rest) rest (Named (record { word = x; at = n }))

-- The terms in the braces of a `txn`, with commas. Each makes a node.
pub data ReadsTerms : List Marked → List Marked → List Point → Type 0 where
  one : {ts rest : List Marked} {p : Point} → ReadsTerm (Makes 1) ts rest p → ReadsTerms ts rest (p ∷ [])
  more : {ts us rest : List Marked} {ps : List Point} {p : Point} {x : List ℕ} {n : ℕ} → ReadsTerms ts (marked Plain Comma x n ∷ us) ps → ReadsTerm (Makes 1) us rest p → ReadsTerms ts rest (ps ++ p ∷ [])

-- The parts of a relation. `Applied` is a whole relation that is applied to two terms: its first token makes
-- the application's node too.
pub data RelationPart : Type 0 where
  Applied : RelationPart
  Single : RelationPart
  Product : RelationPart
  Sum : RelationPart

pub data ReadsRelation : RelationPart → List Marked → List Marked → Relation → Type 0 where
  applied_named : {k : Terminal} {r : RelName} {x : List ℕ} {n : ℕ} {rest : List Marked} → IsRelationWord k r → ReadsRelation Applied (marked (Makes 2) k x n ∷ rest) rest (Basic r n)
  applied_bracket : {x y : List ℕ} {n m : ℕ} {ts rest : List Marked} {r : Relation} → ReadsRelation Sum ts (marked Closes CloseBracket y m ∷ rest) r → ReadsRelation Applied (marked (Opens 1) OpenBracket x n ∷ ts) rest r
  named : {k : Terminal} {r : RelName} {x : List ℕ} {n : ℕ} {rest : List Marked} → IsRelationWord k r → ReadsRelation Single (marked (Makes 1) k x n ∷ rest) rest (Basic r n)
  bracket : {x y : List ℕ} {n m : ℕ} {ts rest : List Marked} {r : Relation} → ReadsRelation Sum ts (marked Closes CloseBracket y m ∷ rest) r → ReadsRelation Single (marked (Opens 0) OpenBracket x n ∷ ts) rest r
  single : {ts rest : List Marked} {r : Relation} → ReadsRelation Single ts rest r → ReadsRelation Product ts rest r
  both : {x : List ℕ} {n : ℕ} {ts us rest : List Marked} {r s : Relation} → ReadsRelation Product ts (marked (Makes 1) Ampersand x n ∷ us) r → ReadsRelation Single us rest s → ReadsRelation Product ts rest (Intersection r s)
  product : {ts rest : List Marked} {r : Relation} → ReadsRelation Product ts rest r → ReadsRelation Sum ts rest r
  either : {x : List ℕ} {n : ℕ} {ts us rest : List Marked} {r s : Relation} → ReadsRelation Sum ts (marked (Makes 1) Bar x n ∷ us) r → ReadsRelation Product us rest s → ReadsRelation Sum ts rest (Union r s)

-- The parts of what a contract says: a single statement, statements joined by `/\`, those joined by `\/`,
-- and those joined by `=>`.
pub data PropPart : Type 0 where
  Atom : PropPart
  Both : PropPart
  Either : PropPart
  Whole : PropPart

pub data ReadsProp : PropPart → List Marked → List Marked → Proposition → Type 0 where
  truth : {x : List ℕ} {n : ℕ} {rest : List Marked} → ReadsProp Atom (marked (Makes 1) TrueWord x n ∷ rest) rest Truth
  group : {x y : List ℕ} {n m : ℕ} {ts rest : List Marked} {p : Proposition} → ReadsProp Whole ts (marked Closes CloseParen y m ∷ rest) p → ReadsProp Atom (marked (Opens 0) OpenParen x n ∷ ts) rest p
  equal : {x : List ℕ} {n : ℕ} {ts us rest : List Marked} {a b : Point} → ReadsTerm Plain ts (marked (Makes 2) Equals x n ∷ us) a → ReadsTerm Plain us rest b → ReadsProp Atom ts rest (Application (Basic Eq n) a b)
  applied : {x y z : List ℕ} {n m k : ℕ} {ts us vs rest : List Marked} {r : Relation} {a b : Point} → ReadsRelation Applied ts (marked (Opens 0) OpenParen x n ∷ us) r → ReadsTerm Plain us (marked Plain Comma y m ∷ vs) a → ReadsTerm Plain vs (marked Closes CloseParen z k ∷ rest) b → ReadsProp Atom ts rest (Application r a b)
  txn : {x y z u w : List ℕ} {n m k i j : ℕ} {ts us rest : List Marked} {ps qs : List Point} → ReadsTerms ts (marked Plain CloseBrace z k ∷ marked Plain OpenBrace u i ∷ us) ps → ReadsTerms us (marked Plain CloseBrace w j ∷ rest) qs → ReadsProp Atom (marked (Makes 1) TxnWord x n ∷ marked Plain OpenBrace y m ∷ ts) rest (InTxn n ps qs)
  atom : {ts rest : List Marked} {p : Proposition} → ReadsProp Atom ts rest p → ReadsProp Both ts rest p
  and : {x : List ℕ} {n : ℕ} {ts us rest : List Marked} {p q : Proposition} → ReadsProp Both ts (marked (Makes 1) AndMark x n ∷ us) p → ReadsProp Atom us rest q → ReadsProp Both ts rest (Conjunction p q)
  both : {ts rest : List Marked} {p : Proposition} → ReadsProp Both ts rest p → ReadsProp Either ts rest p
  or : {x : List ℕ} {n : ℕ} {ts us rest : List Marked} {p q : Proposition} → ReadsProp Either ts (marked (Makes 1) OrMark x n ∷ us) p → ReadsProp Both us rest q → ReadsProp Either ts rest (Disjunction p q)
  either : {ts rest : List Marked} {p : Proposition} → ReadsProp Either ts rest p → ReadsProp Whole ts rest p
  implies : {x : List ℕ} {n : ℕ} {ts us rest : List Marked} {p q : Proposition} → ReadsProp Either ts (marked (Makes 1) Arrow x n ∷ us) p → ReadsProp Whole us rest q → ReadsProp Whole ts rest (Implication p q)

-- names with a separator between them
pub data ReadsNames : Terminal → List Marked → List Marked → List Name → Type 0 where
  one : {k : Terminal} {x : List ℕ} {n : ℕ} {rest : List Marked} → ReadsNames k (marked Plain NameToken x n ∷ rest) rest (record { word = x; at = n } ∷ [])
  more : {k : Terminal} {x y : List ℕ} {n m : ℕ} {ts rest : List Marked} {names : List Name} → ReadsNames k ts (marked Plain k y m ∷ marked Plain NameToken x n ∷ rest) names → ReadsNames k ts rest (names ++ record { word = x; at = n } ∷ [])

-- a variable, and after a colon the operations that it ranges over
pub data ReadsVar : List Marked → List Marked → Var → Type 0 where
  free : {x : List ℕ} {n : ℕ} {rest : List Marked} → ReadsVar (marked Plain NameToken x n ∷ rest) rest (record { name = record { word = x; at = n }; ops = [] })
  over : {x y : List ℕ} {n m : ℕ} {ts rest : List Marked} {ops : List Name} → ReadsNames Bar ts rest ops → ReadsVar (marked Plain NameToken x n ∷ marked Plain Colon y m ∷ ts) rest (record { name = record { word = x; at = n }; ops = ops })

pub data ReadsVars : List Marked → List Marked → List Var → Type 0 where
  one : {ts rest : List Marked} {v : Var} → ReadsVar ts rest v → ReadsVars ts rest (v ∷ [])
  more : {ts us rest : List Marked} {vs : List Var} {v : Var} {x : List ℕ} {n : ℕ} → ReadsVars ts (marked Plain Comma x n ∷ us) vs → ReadsVar us rest v → ReadsVars ts rest (vs ++ v ∷ [])

pub data ReadsContract : List Marked → List Marked → Sentence → Type 0 where
  plain : {ts rest : List Marked} {p : Proposition} → ReadsProp Whole ts rest p → ReadsContract ts rest (record { vars = []; body = p })
  forall : {x y : List ℕ} {n m : ℕ} {ts us rest : List Marked} {vs : List Var} {p : Proposition} → ReadsVars ts (marked Plain Dot y m ∷ us) vs → ReadsProp Whole us rest p → ReadsContract (marked Plain ForallWord x n ∷ ts) rest (record { vars = vs; body = p })
