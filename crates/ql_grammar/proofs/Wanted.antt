use Rattle.std.proofs.Common.{ℕ, List, [], ◌∷◌}
use Rattle.ql_lang.specs.declared.name.Name.{Name}
use Rattle.ql_lang.specs.declared.contract.Point.{Point}
use Rattle.ql_lang.specs.declared.contract.Var.{Var}
use Rattle.ql_lang.specs.Trees.{Relation, Proposition, Sentence}
use Rattle.ql_lang.specs.declared.expression.BinOp.{BinOp}
use Rattle.ql_lang.specs.declared.operation.Base.{Base}
use Rattle.ql_lang.specs.declared.operation.Kind.{Kind}
use Rattle.ql_lang.specs.declared.program.Init.{Init}
use Rattle.ql_lang.specs.Expressions.{Expression}
use Rattle.ql_lang.specs.Programs.{Source}
use Rattle.ql_grammar.specs.declared.precedence.Precedence.{Precedence}
use Rattle.ql_grammar.specs.declared.terminal.Terminal.{Terminal}
use Rattle.ql_grammar.specs.declared.terminal.Terminal.TheVariants.{NameToken, Comma, Bar}
use Rattle.ql_grammar.specs.declared.role.Role.{Role}
use Rattle.ql_grammar.specs.declared.role.Role.TheVariants.{Makes}
use Rattle.ql_grammar.specs.Tokens.{Marked, marked}
use Rattle.ql_grammar.specs.ContractGrammar.{ReadsTerm, ReadsTerms, ReadsRelation, RelationPart, ReadsProp, PropPart, ReadsNames, ReadsVar, ReadsVars, ReadsContract}
use Rattle.ql_grammar.specs.ExpressionGrammar.{ExprPart, IsOperator, ReadsExpr, ReadsArguments}
use Rattle.ql_grammar.specs.ProgramGrammar.{ReadsBase, ReadsKind, ReadsInit, ReadsProgram}
use Rattle.ql_grammar.specs.Table.{ASpelling, AnOperator, AnExpr, TheExprs, ABase, AKind, AnInit, ASource, Kept, Operator, ExprAt, Arguments, BaseKind, AnyKind, Beginning, ListedNames, WholeSource, Value, APlace, AName, ATerm, TheTerms, ARelation, AProp, TheNames, AVar, TheVars, ASentence, Sym, Word, Placed, ANameOf, Do, APart, Then, Term, TermList, RelationAt, PropAt, BarredNames, Variable, VarList, WholeContract, Rest, way_on}

-- The text that a stack wants: `Has stack values ts out` says that `ts` is such a text, and that the values
-- become `out` at its end.
pub data Has : List Sym → List Value → List Marked → List Value → Type 0 where
  none : {vs : List Value} → Has [] vs [] vs
  word : {k : Terminal} {r : Role} {x : List ℕ} {n : ℕ} {below : List Sym} {vs out : List Value} {ts : List Marked} → Has below vs ts out → Has (Word k r ∷ below) vs (marked r k x n ∷ ts) out
  placed : {k : Terminal} {r : Role} {x : List ℕ} {n : ℕ} {below : List Sym} {vs out : List Value} {ts : List Marked} → Has below (APlace n ∷ vs) ts out → Has (Placed k r ∷ below) vs (marked r k x n ∷ ts) out
  name : {r : Role} {x : List ℕ} {n : ℕ} {below : List Sym} {vs out : List Value} {ts : List Marked} → Has below (AName (record { word = x; at = n }) ∷ vs) ts out → Has (ANameOf r ∷ below) vs (marked r NameToken x n ∷ ts) out
  kept : {k : Terminal} {r : Role} {x : List ℕ} {n : ℕ} {below : List Sym} {vs out : List Value} {ts : List Marked} → Has below (ASpelling n x ∷ vs) ts out → Has (Kept k r ∷ below) vs (marked r k x n ∷ ts) out
  operator : {p : Precedence} {k : Terminal} {o : BinOp} {x : List ℕ} {n : ℕ} {below : List Sym} {vs out : List Value} {ts : List Marked} → IsOperator p k o → Has below (AnOperator o ∷ vs) ts out → Has (Operator p ∷ below) vs (marked (Makes 1) k x n ∷ ts) out
  change : {f : List Value → List Value} {below : List Sym} {vs out : List Value} {ts : List Marked} → Has below (f vs) ts out → Has (Do f ∷ below) vs ts out
  term : {r : Role} {p : Point} {below : List Sym} {vs out : List Value} {ts rest : List Marked} → ReadsTerm r ts rest p → Has below (ATerm p ∷ vs) rest out → Has (APart (Term r) ∷ below) vs ts out
  terms : {ps : List Point} {below : List Sym} {vs out : List Value} {ts rest : List Marked} → ReadsTerms ts rest ps → Has below (TheTerms ps ∷ vs) rest out → Has (APart TermList ∷ below) vs ts out
  relation : {part : RelationPart} {r : Relation} {below : List Sym} {vs out : List Value} {ts rest : List Marked} → ReadsRelation part ts rest r → Has below (ARelation r ∷ vs) rest out → Has (APart (RelationAt part) ∷ below) vs ts out
  prop : {part : PropPart} {p : Proposition} {below : List Sym} {vs out : List Value} {ts rest : List Marked} → ReadsProp part ts rest p → Has below (AProp p ∷ vs) rest out → Has (APart (PropAt part) ∷ below) vs ts out
  names : {ns : List Name} {below : List Sym} {vs out : List Value} {ts rest : List Marked} → ReadsNames Bar ts rest ns → Has below (TheNames ns ∷ vs) rest out → Has (APart BarredNames ∷ below) vs ts out
  variable : {v : Var} {below : List Sym} {vs out : List Value} {ts rest : List Marked} → ReadsVar ts rest v → Has below (AVar v ∷ vs) rest out → Has (APart Variable ∷ below) vs ts out
  vars : {vars : List Var} {below : List Sym} {vs out : List Value} {ts rest : List Marked} → ReadsVars ts rest vars → Has below (TheVars vars ∷ vs) rest out → Has (APart VarList ∷ below) vs ts out
  contract : {s : Sentence} {below : List Sym} {vs out : List Value} {ts rest : List Marked} → ReadsContract ts rest s → Has below (ASentence s ∷ vs) rest out → Has (APart WholeContract ∷ below) vs ts out
  expr : {part : ExprPart} {s : ℕ} {e : Expression} {below : List Sym} {vs out : List Value} {ts rest : List Marked} → ReadsExpr part ts rest s e → Has below (AnExpr s e ∷ vs) rest out → Has (APart (ExprAt part) ∷ below) vs ts out
  arguments : {es : List Expression} {below : List Sym} {vs out : List Value} {ts rest : List Marked} → ReadsArguments ts rest es → Has below (TheExprs es ∷ vs) rest out → Has (APart Arguments ∷ below) vs ts out
  base : {b : Base} {below : List Sym} {vs out : List Value} {ts rest : List Marked} → ReadsBase ts rest b → Has below (ABase b ∷ vs) rest out → Has (APart BaseKind ∷ below) vs ts out
  kind : {k : Kind} {below : List Sym} {vs out : List Value} {ts rest : List Marked} → ReadsKind ts rest k → Has below (AKind k ∷ vs) rest out → Has (APart AnyKind ∷ below) vs ts out
  init : {i : Init} {below : List Sym} {vs out : List Value} {ts rest : List Marked} → ReadsInit ts rest i → Has below (AnInit i ∷ vs) rest out → Has (APart Beginning ∷ below) vs ts out
  listed : {ns : List Name} {below : List Sym} {vs out : List Value} {ts rest : List Marked} → ReadsNames Comma ts rest ns → Has below (TheNames ns ∷ vs) rest out → Has (APart ListedNames ∷ below) vs ts out
  source : {s : Source} {below : List Sym} {vs out : List Value} {ts rest : List Marked} → ReadsProgram ts rest s → Has below (ASource s ∷ vs) rest out → Has (APart WholeSource ∷ below) vs ts out
  stop : {l : Rest} {below : List Sym} {vs out : List Value} {ts : List Marked} → Has below vs ts out → Has (Then l ∷ below) vs ts out
  go : {l : Rest} {below : List Sym} {vs out : List Value} {ts : List Marked} → Has (way_on l below) vs ts out → Has (Then l ∷ below) vs ts out

-- every text of the one stack is one of the other, whatever the values
abbrev pub Widens : List Sym → List Sym → Type 0
Widens from to = (vs out : List Value) (ts : List Marked) → Has from vs ts out → Has to vs ts out
