use Rattle.std.specs.Prelude.{ℕ, List, [], ◌∷◌, ◌++◌, Option, Some, None, true, false, pos, neg_ℤ}
use Rattle.ql_lang.specs.declared.name.Name.{Name}
use Rattle.ql_lang.specs.declared.operation.Base.{Base}
use Rattle.ql_lang.specs.declared.operation.Base.TheVariants as base
use Rattle.ql_lang.specs.declared.operation.Kind.{Kind}
use Rattle.ql_lang.specs.declared.operation.Kind.TheVariants as kind
use Rattle.ql_lang.specs.declared.operation.Param.{Param}
use Rattle.ql_lang.specs.declared.program.Field.{Field}
use Rattle.ql_lang.specs.declared.program.Init.{Init}
use Rattle.ql_lang.specs.declared.program.InitNode.TheVariants as init
use Rattle.ql_lang.specs.Expressions.{Expression}
use Rattle.ql_lang.specs.Trees.{Sentence}
use Rattle.ql_lang.specs.Programs.{Binding, Assignment, Emission, Operation, Replicated, Transaction, Source}
use Rattle.ql_grammar.specs.declared.terminal.Terminal.TheVariants.{NameToken, IntToken, TextToken, TypeWord, StateWord, OpWord, ContractWord, AnswerWord, EmitWord, WhenWord, ApplyWord, TransactionWord, UsesWord, TrueWord, FalseWord, UnitWord, EmptyWord, IntWord, BoolWord, TextWord, SetWord, MapWord, OpenBrace, CloseBrace, OpenParen, CloseParen, Comma, Semicolon, Colon, Equals, Assign, Minus}
use Rattle.ql_grammar.specs.declared.role.Role.TheVariants.{Plain, Before}
use Rattle.ql_grammar.specs.Tokens.{Marked, marked}
use Rattle.ql_grammar.specs.ContractGrammar.{ReadsContract, ReadsNames}
use Rattle.ql_grammar.specs.ExpressionGrammar.{Chosen, ReadsExpr, number_spelled, between_quotes}

-- The grammar of declarations and whole sources. As in the grammar of contracts, `ReadsX ts rest tree` says that
-- `ts` begins with a text that reads as `tree`, and that `rest` follows it. The tokens after which an
-- expression or a contract begins have the role `Before`.

-- the kinds of single values
pub data ReadsBase : List Marked → List Marked → Base → Type 0 where
  int : {x1 : List ℕ} {n1 : ℕ} {rest : List Marked} → ReadsBase (marked Plain IntWord x1 n1 ∷ rest) rest base.Int
  bool : {x1 : List ℕ} {n1 : ℕ} {rest : List Marked} → ReadsBase (marked Plain BoolWord x1 n1 ∷ rest) rest base.Bool
  text : {x1 : List ℕ} {n1 : ℕ} {rest : List Marked} → ReadsBase (marked Plain TextWord x1 n1 ∷ rest) rest base.Text

-- the kinds of values
pub data ReadsKind : List Marked → List Marked → Kind → Type 0 where
  unit : {x1 : List ℕ} {n1 : ℕ} {rest : List Marked} → ReadsKind (marked Plain UnitWord x1 n1 ∷ rest) rest kind.Unit
  int : {x1 : List ℕ} {n1 : ℕ} {rest : List Marked} → ReadsKind (marked Plain IntWord x1 n1 ∷ rest) rest kind.Int
  bool : {x1 : List ℕ} {n1 : ℕ} {rest : List Marked} → ReadsKind (marked Plain BoolWord x1 n1 ∷ rest) rest kind.Bool
  text : {x1 : List ℕ} {n1 : ℕ} {rest : List Marked} → ReadsKind (marked Plain TextWord x1 n1 ∷ rest) rest kind.Text
  set : {x1 x2 x3 : List ℕ} {n1 n2 n3 : ℕ} {ts rest : List Marked} {b : Base} → ReadsBase ts (marked Plain CloseParen x3 n3 ∷ rest) b → ReadsKind (marked Plain SetWord x1 n1 ∷ marked Plain OpenParen x2 n2 ∷ ts) rest (kind.Set b)
  map : {x1 x2 x3 x4 : List ℕ} {n1 n2 n3 n4 : ℕ} {ts us rest : List Marked} {b c : Base} → ReadsBase ts (marked Plain Comma x3 n3 ∷ us) b → ReadsBase us (marked Plain CloseParen x4 n4 ∷ rest) c → ReadsKind (marked Plain MapWord x1 n1 ∷ marked Plain OpenParen x2 n2 ∷ ts) rest (kind.Map b c)

-- the initial value of a state field
pub data ReadsInit : List Marked → List Marked → Init → Type 0 where
  number : {x1 : List ℕ} {n1 : ℕ} {rest : List Marked} → ReadsInit (marked Plain IntToken x1 n1 ∷ rest) rest (record { at = n1; node = init.Int (pos (number_spelled x1)) })
  negative : {x1 x2 : List ℕ} {n1 n2 : ℕ} {rest : List Marked} → ReadsInit (marked Plain Minus x1 n1 ∷ marked Plain IntToken x2 n2 ∷ rest) rest (record { at = n1; node = init.Int (neg_ℤ (pos (number_spelled x2))) })
  text : {x1 : List ℕ} {n1 : ℕ} {rest : List Marked} → ReadsInit (marked Plain TextToken x1 n1 ∷ rest) rest (record { at = n1; node = init.Text (between_quotes x1) })
  true_value : {x1 : List ℕ} {n1 : ℕ} {rest : List Marked} → ReadsInit (marked Plain TrueWord x1 n1 ∷ rest) rest (record { at = n1; node = init.Bool true })
  false_value : {x1 : List ℕ} {n1 : ℕ} {rest : List Marked} → ReadsInit (marked Plain FalseWord x1 n1 ∷ rest) rest (record { at = n1; node = init.Bool false })
  unit_value : {x1 : List ℕ} {n1 : ℕ} {rest : List Marked} → ReadsInit (marked Plain UnitWord x1 n1 ∷ rest) rest (record { at = n1; node = init.Unit })
  empty : {x1 : List ℕ} {n1 : ℕ} {rest : List Marked} → ReadsInit (marked Plain EmptyWord x1 n1 ∷ rest) rest (record { at = n1; node = init.Empty })

pub data ReadsField : List Marked → List Marked → Field → Type 0 where
  field : {x1 x2 x3 x4 x5 : List ℕ} {n1 n2 n3 n4 n5 : ℕ} {ts us rest : List Marked} {k : Kind} {i : Init} → ReadsKind ts (marked Plain Equals x4 n4 ∷ us) k → ReadsInit us (marked Plain Semicolon x5 n5 ∷ rest) i → ReadsField (marked Plain StateWord x1 n1 ∷ marked Plain NameToken x2 n2 ∷ marked Plain Colon x3 n3 ∷ ts) rest (record { at = n1; name = record { word = x2; at = n2 }; kind = k; init = i })

pub data ReadsFields : List Marked → List Marked → List Field → Type 0 where
  none : {rest : List Marked} → ReadsFields rest rest []
  more : {ts us rest : List Marked} {fs : List Field} {f : Field} → ReadsFields ts us fs → ReadsField us rest f → ReadsFields ts rest (fs ++ f ∷ [])

pub data ReadsParam : List Marked → List Marked → Param → Type 0 where
  param : {x1 x2 : List ℕ} {n1 n2 : ℕ} {ts rest : List Marked} {b : Base} → ReadsBase ts rest b → ReadsParam (marked Plain NameToken x1 n1 ∷ marked Plain Colon x2 n2 ∷ ts) rest (record { name = record { word = x1; at = n1 }; base = b })

pub data ReadsParams : List Marked → List Marked → List Param → Type 0 where
  one : {ts rest : List Marked} {p : Param} → ReadsParam ts rest p → ReadsParams ts rest (p ∷ [])
  more : {x : List ℕ} {n : ℕ} {ts us rest : List Marked} {ps : List Param} {p : Param} → ReadsParams ts (marked Plain Comma x n ∷ us) ps → ReadsParam us rest p → ReadsParams ts rest (ps ++ p ∷ [])

-- parameters, or none
pub data ReadsAnyParams : List Marked → List Marked → List Param → Type 0 where
  none : {rest : List Marked} → ReadsAnyParams rest rest []
  some : {ts rest : List Marked} {ps : List Param} → ReadsParams ts rest ps → ReadsAnyParams ts rest ps

-- a value that is emitted
pub data ReadsBinding : List Marked → List Marked → Binding → Type 0 where
  binding : {x1 x2 x3 : List ℕ} {n1 n2 n3 s : ℕ} {ts us rest : List Marked} {b : Base} {e : Expression} → ReadsBase ts (marked Before Equals x3 n3 ∷ us) b → ReadsExpr Chosen us rest s e → ReadsBinding (marked Plain NameToken x1 n1 ∷ marked Plain Colon x2 n2 ∷ ts) rest (record { name = record { word = x1; at = n1 }; base = b; value = e })

pub data ReadsBindings : List Marked → List Marked → List Binding → Type 0 where
  one : {ts rest : List Marked} {b : Binding} → ReadsBinding ts rest b → ReadsBindings ts rest (b ∷ [])
  more : {x : List ℕ} {n : ℕ} {ts us rest : List Marked} {bs : List Binding} {b : Binding} → ReadsBindings ts (marked Plain Comma x n ∷ us) bs → ReadsBinding us rest b → ReadsBindings ts rest (bs ++ b ∷ [])

-- a statement
pub data ReadsAssignment : List Marked → List Marked → Assignment → Type 0 where
  assignment : {x1 x2 x3 : List ℕ} {n1 n2 n3 s : ℕ} {ts rest : List Marked} {e : Expression} → ReadsExpr Chosen ts (marked Plain Semicolon x3 n3 ∷ rest) s e → ReadsAssignment (marked Plain NameToken x1 n1 ∷ marked Before Assign x2 n2 ∷ ts) rest (record { target = record { word = x1; at = n1 }; value = e })

pub data ReadsAssignments : List Marked → List Marked → List Assignment → Type 0 where
  none : {rest : List Marked} → ReadsAssignments rest rest []
  more : {ts us rest : List Marked} {changes : List Assignment} {a : Assignment} → ReadsAssignments ts us changes → ReadsAssignment us rest a → ReadsAssignments ts rest (changes ++ a ∷ [])

-- what an operation emits and how it is applied, or nothing
pub data ReadsEffect : List Marked → List Marked → Option Emission → Type 0 where
  none : {rest : List Marked} → ReadsEffect rest rest None
  emission : {x1 x2 x3 x4 x5 x6 : List ℕ} {n1 n2 n3 n4 n5 n6 s : ℕ} {ts us vs rest : List Marked} {bs : List Binding} {e : Expression} {changes : List Assignment} → ReadsBindings ts (marked Before WhenWord x2 n2 ∷ us) bs → ReadsExpr Chosen us (marked Plain Semicolon x3 n3 ∷ marked Plain ApplyWord x4 n4 ∷ marked Plain OpenBrace x5 n5 ∷ vs) s e → ReadsAssignments vs (marked Plain CloseBrace x6 n6 ∷ rest) changes → ReadsEffect (marked Plain EmitWord x1 n1 ∷ ts) rest (Some (record { binds = bs; test = e; stmts = changes }))

pub data ReadsOperation : List Marked → List Marked → Operation → Type 0 where
  operation : {x1 x2 x3 x4 x5 x6 x7 x8 x9 x10 x11 : List ℕ} {n1 n2 n3 n4 n5 n6 n7 n8 n9 n10 n11 s : ℕ} {ts us vs ws zs rest : List Marked} {ps : List Param} {k : Kind} {c : Sentence} {e : Expression} {o : Option Emission} → ReadsAnyParams ts (marked Plain CloseParen x4 n4 ∷ marked Plain Colon x5 n5 ∷ us) ps → ReadsKind us (marked Plain OpenBrace x6 n6 ∷ marked Before ContractWord x7 n7 ∷ vs) k → ReadsContract vs (marked Plain Semicolon x8 n8 ∷ marked Before AnswerWord x9 n9 ∷ ws) c → ReadsExpr Chosen ws (marked Plain Semicolon x10 n10 ∷ zs) s e → ReadsEffect zs (marked Plain CloseBrace x11 n11 ∷ rest) o → ReadsOperation (marked Plain OpWord x1 n1 ∷ marked Plain NameToken x2 n2 ∷ marked Plain OpenParen x3 n3 ∷ ts) rest (record { at = n1; name = record { word = x2; at = n2 }; params = ps; kind = k; contract = c; answer = e; effect = o })

pub data ReadsOperations : List Marked → List Marked → List Operation → Type 0 where
  one : {ts rest : List Marked} {o : Operation} → ReadsOperation ts rest o → ReadsOperations ts rest (o ∷ [])
  more : {ts us rest : List Marked} {os : List Operation} {o : Operation} → ReadsOperations ts us os → ReadsOperation us rest o → ReadsOperations ts rest (os ++ o ∷ [])

pub data ReadsReplicated : List Marked → List Marked → Replicated → Type 0 where
  replicated : {x1 x2 x3 x4 : List ℕ} {n1 n2 n3 n4 : ℕ} {ts us rest : List Marked} {fs : List Field} {os : List Operation} → ReadsFields ts us fs → ReadsOperations us (marked Plain CloseBrace x4 n4 ∷ rest) os → ReadsReplicated (marked Plain TypeWord x1 n1 ∷ marked Plain NameToken x2 n2 ∷ marked Plain OpenBrace x3 n3 ∷ ts) rest (record { at = n1; name = record { word = x2; at = n2 }; fields = fs; ops = os })

pub data ReadsTypes : List Marked → List Marked → List Replicated → Type 0 where
  one : {ts rest : List Marked} {t : Replicated} → ReadsReplicated ts rest t → ReadsTypes ts rest (t ∷ [])
  more : {ts us rest : List Marked} {types : List Replicated} {t : Replicated} → ReadsTypes ts us types → ReadsReplicated us rest t → ReadsTypes ts rest (types ++ t ∷ [])

pub data ReadsTransaction : List Marked → List Marked → Transaction → Type 0 where
  transaction : {x1 x2 x3 x4 x5 x6 x7 x8 : List ℕ} {n1 n2 n3 n4 n5 n6 n7 n8 : ℕ} {ts us rest : List Marked} {names : List Name} {c : Sentence} → ReadsNames Comma ts (marked Plain Semicolon x5 n5 ∷ marked Before ContractWord x6 n6 ∷ us) names → ReadsContract us (marked Plain Semicolon x7 n7 ∷ marked Plain CloseBrace x8 n8 ∷ rest) c → ReadsTransaction (marked Plain TransactionWord x1 n1 ∷ marked Plain NameToken x2 n2 ∷ marked Plain OpenBrace x3 n3 ∷ marked Plain UsesWord x4 n4 ∷ ts) rest (record { at = n1; name = record { word = x2; at = n2 }; uses = names; contract = c })

pub data ReadsTransactions : List Marked → List Marked → List Transaction → Type 0 where
  none : {rest : List Marked} → ReadsTransactions rest rest []
  more : {ts us rest : List Marked} {txns : List Transaction} {t : Transaction} → ReadsTransactions ts us txns → ReadsTransaction us rest t → ReadsTransactions ts rest (txns ++ t ∷ [])

-- a whole source
pub data ReadsProgram : List Marked → List Marked → Source → Type 0 where
  program : {ts us rest : List Marked} {types : List Replicated} {txns : List Transaction} → ReadsTypes ts us types → ReadsTransactions us rest txns → ReadsProgram ts rest (record { types = types; txns = txns })
