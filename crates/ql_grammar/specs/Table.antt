use Rattle.std.specs.Prelude.{ℕ, Bool, true, false, List, [], ◌∷◌, ◌++◌, Option, Some, None, pos, neg_ℤ, if◌then◌else◌}
use Rattle.ql_lang.specs.declared.name.Name.{Name}
use Rattle.ql_lang.specs.declared.relation.RelName.{RelName}
use Rattle.ql_lang.specs.declared.relation.RelName.TheVariants.{Vis, So, Soo, SameObj, Eq, Hb, Hbo}
use Rattle.ql_lang.specs.declared.contract.Point.{Point}
use Rattle.ql_lang.specs.declared.contract.Point.TheVariants.{CurAt, Named}
use Rattle.ql_lang.specs.declared.contract.Var.{Var}
use Rattle.ql_lang.specs.Trees.{Relation, Basic, Union, Intersection, Proposition, Truth, Application, Conjunction, Disjunction, Implication, InTxn, Sentence}
use Rattle.ql_lang.specs.declared.expression.BinOp.{BinOp}
use Rattle.ql_lang.specs.declared.expression.BinOp.TheVariants as op
use Rattle.ql_lang.specs.declared.operation.Base.{Base}
use Rattle.ql_lang.specs.declared.operation.Base.TheVariants as base
use Rattle.ql_lang.specs.declared.operation.Kind.{Kind}
use Rattle.ql_lang.specs.declared.operation.Kind.TheVariants as kind
use Rattle.ql_lang.specs.declared.operation.Param.{Param}
use Rattle.ql_lang.specs.declared.program.Field.{Field}
use Rattle.ql_lang.specs.declared.program.Init.{Init}
use Rattle.ql_lang.specs.declared.program.InitNode.{InitNode}
use Rattle.ql_lang.specs.declared.program.InitNode.TheVariants as init
use Rattle.ql_lang.specs.Expressions.{Expression, Number, Literal, Nothing, Reading, Calling, Choosing, Combining, Denying, Negating}
use Rattle.ql_lang.specs.Expressions as expr
use Rattle.ql_lang.specs.Programs.{Binding, Assignment, Emission, Operation, Replicated, Transaction, Source}
use Rattle.ql_grammar.specs.declared.precedence.Precedence.{Precedence}
use Rattle.ql_grammar.specs.declared.precedence.Precedence.TheVariants as precedence
use Rattle.ql_grammar.specs.declared.terminal.Terminal.{Terminal}
use Rattle.ql_grammar.specs.declared.terminal.Terminal.TheVariants.{IntToken, TextToken, TypeWord, StateWord, OpWord, ContractWord, AnswerWord, EmitWord, WhenWord, ApplyWord, TransactionWord, UsesWord, ForallWord, TrueWord, FalseWord, UnitWord, EmptyWord, IfWord, ThenWord, ElseWord, AndWord, OrWord, NotWord, IntWord, BoolWord, TextWord, SetWord, MapWord, CurWord, TxnWord, VisWord, SoWord, SooWord, SameObjWord, EqWord, HbWord, HboWord, OpenBrace, CloseBrace, OpenParen, CloseParen, OpenBracket, CloseBracket, Comma, Semicolon, Colon, Dot, Equals, Assign, Arrow, IsEqual, NotEqual, Less, LessEqual, Greater, GreaterEqual, Plus, Minus, Times, AndMark, OrMark, Bar, Ampersand}
use Rattle.ql_grammar.specs.declared.role.Role.{Role}
use Rattle.ql_grammar.specs.declared.role.Role.TheVariants.{Plain, Makes, Opens, Closes, Before}
use Rattle.ql_grammar.specs.Terminals.{is_same}
use Rattle.ql_grammar.specs.ContractGrammar.{RelationPart, Applied, Single, Product, Sum, PropPart, Atom, Both, Either, Whole}
use Rattle.ql_grammar.specs.ExpressionGrammar.{ExprPart, Unary, Multiplied, Added, Compared, Conjoined, Disjoined, Chosen, between_quotes, number_spelled, operands}

-- The grammar once more, for a machine: a stack of symbols says what is expected next, and a stack of values
-- holds the trees that were read. This doesn't define the language: ContractGrammar, ExpressionGrammar and
-- ProgramGrammar do, and the laws in proofs/ connect them with this.

-- an item on the stack of values
pub data Value : Type 0 where
  APlace : ℕ → Value
  AName : Name → Value
  ATerm : Point → Value
  TheTerms : List Point → Value
  ARelation : Relation → Value
  AProp : Proposition → Value
  TheNames : List Name → Value
  AVar : Var → Value
  TheVars : List Var → Value
  ASentence : Sentence → Value
  -- a number or a text, with its source offset
  ASpelling : ℕ → List ℕ → Value
  AnOperator : BinOp → Value
  -- an expression, with the source offset where it starts
  AnExpr : ℕ → Expression → Value
  TheExprs : List Expression → Value
  ABase : Base → Value
  AKind : Kind → Value
  AnInit : Init → Value
  TheFields : List Field → Value
  TheParams : List Param → Value
  ABinding : Binding → Value
  TheBindings : List Binding → Value
  AnAssignment : Assignment → Value
  TheAssignments : List Assignment → Value
  AnEffect : Option Emission → Value
  AnOperation : Operation → Value
  TheOperations : List Operation → Value
  AType : Replicated → Value
  TheTypes : List Replicated → Value
  ATransaction : Transaction → Value
  TheTransactions : List Transaction → Value
  ASource : Source → Value

-- the parts of the grammar
pub data Part : Type 0 where
  Term : Role → Part
  TermList : Part
  RelationAt : RelationPart → Part
  PropAt : PropPart → Part
  BarredNames : Part
  Variable : Part
  VarList : Part
  WholeContract : Part
  ExprAt : ExprPart → Part
  Arguments : Part
  BaseKind : Part
  AnyKind : Part
  Beginning : Part
  ListedNames : Part
  WholeSource : Part

-- what may follow a part, but need not
pub data Rest : Type 0 where
  MoreTerms : Rest
  MoreFactors : Rest
  MoreSummands : Rest
  MoreAnds : Rest
  MoreOrs : Rest
  MoreImplied : Rest
  MoreNames : Rest
  Operations : Rest
  MoreVars : Rest
  MoreTimes : Rest
  MorePlus : Rest
  Comparison : Rest
  MoreConjoined : Rest
  MoreDisjoined : Rest
  Called : Rest
  MoreArguments : Rest
  MoreFields : Rest
  SomeParams : Rest
  MoreParams : Rest
  MoreListed : Rest
  MoreBindings : Rest
  MoreAssignments : Rest
  Effect : Rest
  MoreOperations : Rest
  MoreTypes : Rest
  MoreTransactions : Rest

-- What is expected: a fixed word, the same with its offset kept, a name, a number or a text with its bytes kept, an
-- operator of a precedence, a change of the values that consumes no token, a part, or what may follow one.
pub data Sym : Type 0 where
  Word : Terminal → Role → Sym
  Placed : Terminal → Role → Sym
  ANameOf : Role → Sym
  Kept : Terminal → Role → Sym
  Operator : Precedence → Sym
  Do : (List Value → List Value) → Sym
  APart : Part → Sym
  Then : Rest → Sym

abbrev pub place_in : Value → ℕ
place_in (APlace n) = n
place_in _ = 0

abbrev pub name_in : Value → Name
name_in (AName n) = n
name_in _ = record { word = []; at = 0 }

abbrev pub term_in : Value → Point
term_in (ATerm p) = p
term_in _ = CurAt 0

abbrev pub terms_in : Value → List Point
terms_in (TheTerms ps) = ps
terms_in _ = []

abbrev pub relation_in : Value → Relation
relation_in (ARelation r) = r
relation_in _ = Basic Vis 0

abbrev pub prop_in : Value → Proposition
prop_in (AProp p) = p
prop_in _ = Truth

abbrev pub names_in : Value → List Name
names_in (TheNames ns) = ns
names_in _ = []

abbrev pub var_in : Value → Var
var_in (AVar v) = v
var_in _ = record { name = record { word = []; at = 0 }; ops = [] }

abbrev pub vars_in : Value → List Var
vars_in (TheVars vs) = vs
vars_in _ = []

-- the values with the topmost one, two or three replaced
abbrev pub on_one : (Value → Value) → List Value → List Value
on_one f (a ∷ vs) = f a ∷ vs
on_one f vs = vs

abbrev pub on_two : (Value → Value → Value) → List Value → List Value
on_two f (b ∷ a ∷ vs) = f a b ∷ vs
on_two f vs = vs

abbrev pub on_three : (Value → Value → Value → Value) → List Value → List Value
on_three f (c ∷ b ∷ a ∷ vs) = f a b c ∷ vs
on_three f vs = vs

abbrev pub to_cur : List Value → List Value
to_cur = on_one (λ a. ATerm (CurAt (place_in a)))

abbrev pub to_variable : List Value → List Value
to_variable = on_one (λ a. ATerm (Named (name_in a)))

abbrev pub to_terms : List Value → List Value
to_terms = on_one (λ a. TheTerms (term_in a ∷ []))

abbrev pub add_term : List Value → List Value
add_term = on_two (λ a b. TheTerms (terms_in a ++ term_in b ∷ []))

abbrev pub to_basic : RelName → List Value → List Value
to_basic r = on_one (λ a. ARelation (Basic r (place_in a)))

abbrev pub intersect : List Value → List Value
intersect = on_two (λ a b. ARelation (Intersection (relation_in a) (relation_in b)))

abbrev pub unite : List Value → List Value
unite = on_two (λ a b. ARelation (Union (relation_in a) (relation_in b)))

abbrev pub add_truth : List Value → List Value
add_truth vs = AProp Truth ∷ vs

abbrev pub to_equality : List Value → List Value
to_equality = on_three (λ a n b. AProp (Application (Basic Eq (place_in n)) (term_in a) (term_in b)))

abbrev pub to_application : List Value → List Value
to_application = on_three (λ r a b. AProp (Application (relation_in r) (term_in a) (term_in b)))

abbrev pub to_txn : List Value → List Value
to_txn = on_three (λ n a b. AProp (InTxn (place_in n) (terms_in a) (terms_in b)))

abbrev pub conjoin : List Value → List Value
conjoin = on_two (λ a b. AProp (Conjunction (prop_in a) (prop_in b)))

abbrev pub disjoin : List Value → List Value
disjoin = on_two (λ a b. AProp (Disjunction (prop_in a) (prop_in b)))

abbrev pub imply : List Value → List Value
imply = on_two (λ a b. AProp (Implication (prop_in a) (prop_in b)))

abbrev pub to_names : List Value → List Value
to_names = on_one (λ a. TheNames (name_in a ∷ []))

abbrev pub add_name : List Value → List Value
add_name = on_two (λ a b. TheNames (names_in a ++ name_in b ∷ []))

abbrev pub to_free : List Value → List Value
to_free = on_one (λ a. AVar (record { name = name_in a; ops = [] }))

abbrev pub set_operations : List Value → List Value
set_operations = on_two (λ a b. AVar (record { name = (var_in a).name; ops = names_in b }))

abbrev pub to_vars : List Value → List Value
to_vars = on_one (λ a. TheVars (var_in a ∷ []))

abbrev pub add_var : List Value → List Value
add_var = on_two (λ a b. TheVars (vars_in a ++ var_in b ∷ []))

abbrev pub to_plain : List Value → List Value
to_plain = on_one (λ a. ASentence (record { vars = []; body = prop_in a }))

abbrev pub to_forall : List Value → List Value
to_forall = on_two (λ a b. ASentence (record { vars = vars_in a; body = prop_in b }))

-- the operators of each precedence
abbrev pub operators : Precedence → List (Terminal × BinOp)
operators precedence.Product = (Times, op.Mul) ∷ []
operators precedence.Sum = (Plus, op.Add) ∷ (Minus, op.Sub) ∷ []
operators precedence.Comparison = (IsEqual, op.Eq) ∷ (NotEqual, op.Ne) ∷ (Less, op.Lt) ∷ (LessEqual, op.Le) ∷ (Greater, op.Gt) ∷ (GreaterEqual, op.Ge) ∷ []
operators precedence.Conjunction = (AndWord, op.And) ∷ []
operators precedence.Disjunction = (OrWord, op.Or) ∷ []

abbrev pub operator_in : List (Terminal × BinOp) → Terminal → Option BinOp
operator_in [] k = None
operator_in (row ∷ rows) k = if is_same k row.0 then Some row.1 else operator_in rows k

-- the operator of this precedence that a terminal is
unfoldable pub operator_at : Precedence → Terminal → Option BinOp
operator_at l k = operator_in (operators l) k

-- what the values become; values of another form stay as they are

abbrev pub to_number : List Value → List Value
to_number (ASpelling n x ∷ vs) = AnExpr n (Number n (pos (number_spelled x))) ∷ vs
to_number vs = vs

abbrev pub to_literal : List Value → List Value
to_literal (ASpelling n x ∷ vs) = AnExpr n (Literal n (between_quotes x)) ∷ vs
to_literal vs = vs

abbrev pub to_truth : Bool → List Value → List Value
to_truth b (APlace n ∷ vs) = AnExpr n (expr.Truth n b) ∷ vs
to_truth b vs = vs

abbrev pub to_nothing : List Value → List Value
to_nothing (APlace n ∷ vs) = AnExpr n (Nothing n) ∷ vs
to_nothing vs = vs

abbrev pub to_reading : List Value → List Value
to_reading (AName name ∷ vs) = AnExpr name.at (Reading name.at name) ∷ vs
to_reading vs = vs

-- the arguments of a call, whose name was read as a variable
abbrev pub to_call : List Value → List Value
to_call (TheExprs es ∷ AnExpr s (Reading n name) ∷ vs) = AnExpr n (Calling n name (operands es)) ∷ vs
to_call vs = vs

abbrev pub to_group : List Value → List Value
to_group (AnExpr s e ∷ APlace n ∷ vs) = AnExpr n e ∷ vs
to_group vs = vs

abbrev pub to_denial : List Value → List Value
to_denial (AnExpr s e ∷ APlace n ∷ vs) = AnExpr n (Denying n e) ∷ vs
to_denial vs = vs

abbrev pub to_negation : List Value → List Value
to_negation (AnExpr s e ∷ APlace n ∷ vs) = AnExpr n (Negating n e) ∷ vs
to_negation vs = vs

abbrev pub combine : List Value → List Value
combine (AnExpr t b ∷ AnOperator o ∷ AnExpr s a ∷ vs) = AnExpr s (Combining s o a b) ∷ vs
combine vs = vs

abbrev pub to_choice : List Value → List Value
to_choice (AnExpr u c ∷ AnExpr t b ∷ AnExpr s a ∷ APlace n ∷ vs) = AnExpr n (Choosing n a b c) ∷ vs
to_choice vs = vs

abbrev pub to_arguments : List Value → List Value
to_arguments (AnExpr s e ∷ vs) = TheExprs (e ∷ []) ∷ vs
to_arguments vs = vs

abbrev pub add_argument : List Value → List Value
add_argument (AnExpr s e ∷ TheExprs es ∷ vs) = TheExprs (es ++ e ∷ []) ∷ vs
add_argument vs = vs

abbrev pub add_base : Base → List Value → List Value
add_base b vs = ABase b ∷ vs

abbrev pub add_kind : Kind → List Value → List Value
add_kind k vs = AKind k ∷ vs

abbrev pub to_set : List Value → List Value
to_set (ABase b ∷ vs) = AKind (kind.Set b) ∷ vs
to_set vs = vs

abbrev pub to_map : List Value → List Value
to_map (ABase c ∷ ABase b ∷ vs) = AKind (kind.Map b c) ∷ vs
to_map vs = vs

abbrev pub begin_number : List Value → List Value
begin_number (ASpelling n x ∷ vs) = AnInit (record { at = n; node = init.Int (pos (number_spelled x)) }) ∷ vs
begin_number vs = vs

abbrev pub begin_negative : List Value → List Value
begin_negative (ASpelling m x ∷ APlace n ∷ vs) = AnInit (record { at = n; node = init.Int (neg_ℤ (pos (number_spelled x))) }) ∷ vs
begin_negative vs = vs

abbrev pub begin_text : List Value → List Value
begin_text (ASpelling n x ∷ vs) = AnInit (record { at = n; node = init.Text (between_quotes x) }) ∷ vs
begin_text vs = vs

abbrev pub begin_with : InitNode → List Value → List Value
begin_with node (APlace n ∷ vs) = AnInit (record { at = n; node = node }) ∷ vs
begin_with node vs = vs

abbrev pub no_fields : List Value → List Value
no_fields vs = TheFields [] ∷ vs

abbrev pub add_field : List Value → List Value
add_field (AnInit i ∷ AKind k ∷ AName name ∷ APlace n ∷ TheFields fs ∷ vs) = TheFields (fs ++ record { at = n; name = name; kind = k; init = i } ∷ []) ∷ vs
add_field vs = vs

abbrev pub no_params : List Value → List Value
no_params vs = TheParams [] ∷ vs

abbrev pub add_param : List Value → List Value
add_param (ABase b ∷ AName name ∷ TheParams ps ∷ vs) = TheParams (ps ++ record { name = name; base = b } ∷ []) ∷ vs
add_param vs = vs

abbrev pub to_binding : List Value → List Value
to_binding (AnExpr s e ∷ ABase b ∷ AName name ∷ vs) = ABinding (record { name = name; base = b; value = e }) ∷ vs
to_binding vs = vs

abbrev pub to_bindings : List Value → List Value
to_bindings (ABinding b ∷ vs) = TheBindings (b ∷ []) ∷ vs
to_bindings vs = vs

abbrev pub add_binding : List Value → List Value
add_binding (ABinding b ∷ TheBindings bs ∷ vs) = TheBindings (bs ++ b ∷ []) ∷ vs
add_binding vs = vs

abbrev pub no_assignments : List Value → List Value
no_assignments vs = TheAssignments [] ∷ vs

abbrev pub add_assignment : List Value → List Value
add_assignment (AnExpr s e ∷ AName name ∷ TheAssignments changes ∷ vs) = TheAssignments (changes ++ record { target = name; value = e } ∷ []) ∷ vs
add_assignment vs = vs

abbrev pub no_effect : List Value → List Value
no_effect vs = AnEffect None ∷ vs

abbrev pub set_effect : List Value → List Value
set_effect (TheAssignments changes ∷ AnExpr s e ∷ TheBindings bs ∷ AnEffect o ∷ vs) = AnEffect (Some (record { binds = bs; test = e; stmts = changes })) ∷ vs
set_effect vs = vs

abbrev pub to_operation : List Value → List Value
to_operation (AnEffect o ∷ AnExpr s e ∷ ASentence c ∷ AKind k ∷ TheParams ps ∷ AName name ∷ APlace n ∷ vs) = AnOperation (record { at = n; name = name; params = ps; kind = k; contract = c; answer = e; effect = o }) ∷ vs
to_operation vs = vs

abbrev pub to_operations : List Value → List Value
to_operations (AnOperation o ∷ vs) = TheOperations (o ∷ []) ∷ vs
to_operations vs = vs

abbrev pub add_operation : List Value → List Value
add_operation (AnOperation o ∷ TheOperations os ∷ vs) = TheOperations (os ++ o ∷ []) ∷ vs
add_operation vs = vs

abbrev pub to_type : List Value → List Value
to_type (TheOperations os ∷ TheFields fs ∷ AName name ∷ APlace n ∷ vs) = AType (record { at = n; name = name; fields = fs; ops = os }) ∷ vs
to_type vs = vs

abbrev pub to_types : List Value → List Value
to_types (AType t ∷ vs) = TheTypes (t ∷ []) ∷ vs
to_types vs = vs

abbrev pub add_type : List Value → List Value
add_type (AType t ∷ TheTypes types ∷ vs) = TheTypes (types ++ t ∷ []) ∷ vs
add_type vs = vs

abbrev pub to_transaction : List Value → List Value
to_transaction (ASentence c ∷ TheNames names ∷ AName name ∷ APlace n ∷ vs) = ATransaction (record { at = n; name = name; uses = names; contract = c }) ∷ vs
to_transaction vs = vs

abbrev pub no_transactions : List Value → List Value
no_transactions vs = TheTransactions [] ∷ vs

abbrev pub add_transaction : List Value → List Value
add_transaction (ATransaction t ∷ TheTransactions txns ∷ vs) = TheTransactions (txns ++ t ∷ []) ∷ vs
add_transaction vs = vs

abbrev pub to_source : List Value → List Value
to_source (TheTransactions txns ∷ TheTypes types ∷ vs) = ASource (record { types = types; txns = txns }) ∷ vs
to_source vs = vs

-- The ways to begin each part, with what is below it on the stack. Each way begins with a word or a name, and no two
-- ways of one part with the same one.

abbrev pub term_ways : Role → List Sym → List (List Sym)
term_ways r below = (Placed CurWord r ∷ Do to_cur ∷ below) ∷ (ANameOf r ∷ Do to_variable ∷ below) ∷ []

abbrev pub relation_ways : Role → Role → List Sym → List (List Sym)
relation_ways r b below =
    (Word OpenBracket b ∷ APart (RelationAt Sum) ∷ Word CloseBracket Closes ∷ below)
    ∷ (Placed VisWord r ∷ Do (to_basic Vis) ∷ below) ∷ (Placed SoWord r ∷ Do (to_basic So) ∷ below)
    ∷ (Placed SooWord r ∷ Do (to_basic Soo) ∷ below) ∷ (Placed SameObjWord r ∷ Do (to_basic SameObj) ∷ below)
    ∷ (Placed EqWord r ∷ Do (to_basic Eq) ∷ below) ∷ (Placed HbWord r ∷ Do (to_basic Hb) ∷ below)
    ∷ (Placed HboWord r ∷ Do (to_basic Hbo) ∷ below) ∷ []

abbrev pub atom_ways : List Sym → List (List Sym)
atom_ways below =
    (Word TrueWord (Makes 1) ∷ Do add_truth ∷ below)
    ∷ (Word OpenParen (Opens 0) ∷ APart (PropAt Whole) ∷ Word CloseParen Closes ∷ below)
    ∷ (Placed TxnWord (Makes 1) ∷ Word OpenBrace Plain ∷ APart TermList ∷ Word CloseBrace Plain
    ∷ Word OpenBrace Plain ∷ APart TermList ∷ Word CloseBrace Plain ∷ Do to_txn ∷ below)
    ∷ term_ways Plain (Placed Equals (Makes 2) ∷ APart (Term Plain) ∷ Do to_equality ∷ below)
    ++ relation_ways (Makes 2) (Opens 1)
    (Word OpenParen (Opens 0) ∷ APart (Term Plain) ∷ Word Comma Plain ∷ APart (Term Plain)
    ∷ Word CloseParen Closes ∷ Do to_application ∷ below)

abbrev pub constant_ways : List Sym → List (List Sym)
constant_ways below =
    (Placed TrueWord (Makes 1) ∷ Do (to_truth true) ∷ below)
    ∷ (Placed FalseWord (Makes 1) ∷ Do (to_truth false) ∷ below)
    ∷ (Placed UnitWord (Makes 1) ∷ Do to_nothing ∷ below) ∷ []

abbrev pub unary_ways : List Sym → List (List Sym)
unary_ways below =
    (Kept IntToken (Makes 1) ∷ Do to_number ∷ below)
    ∷ (Kept TextToken (Makes 1) ∷ Do to_literal ∷ below)
    ∷ (ANameOf (Makes 1) ∷ Do to_reading ∷ Then Called ∷ below)
    ∷ (Placed OpenParen (Opens 0) ∷ APart (ExprAt Chosen) ∷ Word CloseParen Closes ∷ Do to_group ∷ below)
    ∷ (Placed NotWord (Makes 1) ∷ APart (ExprAt Unary) ∷ Do to_denial ∷ below)
    ∷ (Placed Minus (Makes 1) ∷ APart (ExprAt Unary) ∷ Do to_negation ∷ below)
    ∷ constant_ways below

abbrev pub disjoined_ways : List Sym → List (List Sym)
disjoined_ways below = unary_ways (Then MoreTimes ∷ Then MorePlus ∷ Then Comparison ∷ Then MoreConjoined ∷ Then MoreDisjoined ∷ below)

abbrev pub chosen_ways : List Sym → List (List Sym)
chosen_ways below =
    (Placed IfWord (Makes 1) ∷ APart (ExprAt Chosen) ∷ Word ThenWord Plain ∷ APart (ExprAt Chosen) ∷ Word ElseWord Plain ∷ APart (ExprAt Chosen) ∷ Do to_choice ∷ below)
    ∷ disjoined_ways below

abbrev pub base_ways : List Sym → List (List Sym)
base_ways below =
    (Word IntWord Plain ∷ Do (add_base base.Int) ∷ below)
    ∷ (Word BoolWord Plain ∷ Do (add_base base.Bool) ∷ below)
    ∷ (Word TextWord Plain ∷ Do (add_base base.Text) ∷ below) ∷ []

abbrev pub kind_ways : List Sym → List (List Sym)
kind_ways below =
    (Word SetWord Plain ∷ Word OpenParen Plain ∷ APart BaseKind ∷ Word CloseParen Plain ∷ Do to_set ∷ below)
    ∷ (Word MapWord Plain ∷ Word OpenParen Plain ∷ APart BaseKind ∷ Word Comma Plain ∷ APart BaseKind ∷ Word CloseParen Plain ∷ Do to_map ∷ below)
    ∷ (Word UnitWord Plain ∷ Do (add_kind kind.Unit) ∷ below)
    ∷ (Word IntWord Plain ∷ Do (add_kind kind.Int) ∷ below)
    ∷ (Word BoolWord Plain ∷ Do (add_kind kind.Bool) ∷ below)
    ∷ (Word TextWord Plain ∷ Do (add_kind kind.Text) ∷ below) ∷ []

abbrev pub plain_ways : List Sym → List (List Sym)
plain_ways below =
    (Placed TrueWord Plain ∷ Do (begin_with (init.Bool true)) ∷ below)
    ∷ (Placed FalseWord Plain ∷ Do (begin_with (init.Bool false)) ∷ below)
    ∷ (Placed UnitWord Plain ∷ Do (begin_with init.Unit) ∷ below)
    ∷ (Placed EmptyWord Plain ∷ Do (begin_with init.Empty) ∷ below) ∷ []

abbrev pub beginning_ways : List Sym → List (List Sym)
beginning_ways below =
    (Kept IntToken Plain ∷ Do begin_number ∷ below)
    ∷ (Placed Minus Plain ∷ Kept IntToken Plain ∷ Do begin_negative ∷ below)
    ∷ (Kept TextToken Plain ∷ Do begin_text ∷ below)
    ∷ plain_ways below

-- the symbols of declarations

abbrev pub field_symbols : List Sym → List Sym
field_symbols below =
    Placed StateWord Plain ∷ ANameOf Plain ∷ Word Colon Plain ∷ APart AnyKind ∷ Word Equals Plain ∷ APart Beginning
    ∷ Word Semicolon Plain ∷ Do add_field ∷ below

abbrev pub param_symbols : List Sym → List Sym
param_symbols below = ANameOf Plain ∷ Word Colon Plain ∷ APart BaseKind ∷ Do add_param ∷ below

abbrev pub binding_symbols : List Sym → List Sym
binding_symbols below =
    ANameOf Plain ∷ Word Colon Plain ∷ APart BaseKind ∷ Word Equals Before ∷ APart (ExprAt Chosen) ∷ Do to_binding ∷ below

abbrev pub assignment_symbols : List Sym → List Sym
assignment_symbols below =
    ANameOf Plain ∷ Word Assign Before ∷ APart (ExprAt Chosen) ∷ Word Semicolon Plain ∷ Do add_assignment ∷ below

abbrev pub bindings_symbols : List Sym → List Sym
bindings_symbols below = Word EmitWord Plain ∷ binding_symbols (Do to_bindings ∷ Then MoreBindings ∷ below)

abbrev pub test_symbols : List Sym → List Sym
test_symbols below = Word WhenWord Before ∷ APart (ExprAt Chosen) ∷ Word Semicolon Plain ∷ below

abbrev pub assignments_symbols : List Sym → List Sym
assignments_symbols below =
    Word ApplyWord Plain ∷ Word OpenBrace Plain ∷ Do no_assignments ∷ Then MoreAssignments ∷ Word CloseBrace Plain ∷ below

abbrev pub effect_symbols : List Sym → List Sym
effect_symbols below = bindings_symbols (test_symbols (assignments_symbols (Do set_effect ∷ below)))

abbrev pub params_symbols : List Sym → List Sym
params_symbols below = Word OpenParen Plain ∷ Do no_params ∷ Then SomeParams ∷ Word CloseParen Plain ∷ below

abbrev pub contract_symbols : List Sym → List Sym
contract_symbols below = Word ContractWord Before ∷ APart WholeContract ∷ Word Semicolon Plain ∷ below

abbrev pub answer_symbols : List Sym → List Sym
answer_symbols below = Word AnswerWord Before ∷ APart (ExprAt Chosen) ∷ Word Semicolon Plain ∷ below

abbrev pub body_symbols : List Sym → List Sym
body_symbols below =
    Word OpenBrace Plain ∷ contract_symbols (answer_symbols (Do no_effect ∷ Then Effect ∷ Word CloseBrace Plain ∷ below))

abbrev pub operation_symbols : List Sym → List Sym
operation_symbols below =
    Placed OpWord Plain ∷ ANameOf Plain ∷ params_symbols (Word Colon Plain ∷ APart AnyKind ∷ body_symbols (Do to_operation ∷ below))

abbrev pub operations_symbols : List Sym → List Sym
operations_symbols below = operation_symbols (Do to_operations ∷ Then MoreOperations ∷ below)

abbrev pub type_symbols : List Sym → List Sym
type_symbols below =
    Placed TypeWord Plain ∷ ANameOf Plain ∷ Word OpenBrace Plain ∷ Do no_fields ∷ Then MoreFields
    ∷ operations_symbols (Word CloseBrace Plain ∷ Do to_type ∷ below)

abbrev pub uses_symbols : List Sym → List Sym
uses_symbols below = Word UsesWord Plain ∷ APart ListedNames ∷ Word Semicolon Plain ∷ below

abbrev pub transaction_symbols : List Sym → List Sym
transaction_symbols below =
    Placed TransactionWord Plain ∷ ANameOf Plain ∷ Word OpenBrace Plain ∷ uses_symbols (contract_symbols (Word CloseBrace Plain ∷ Do to_transaction ∷ below))

abbrev pub ways : Part → List Sym → List (List Sym)
ways (Term r) below = term_ways r below
ways TermList below = term_ways (Makes 1) (Do to_terms ∷ Then MoreTerms ∷ below)
ways (RelationAt Applied) below = relation_ways (Makes 2) (Opens 1) below
ways (RelationAt Single) below = relation_ways (Makes 1) (Opens 0) below
ways (RelationAt Product) below = relation_ways (Makes 1) (Opens 0) (Then MoreFactors ∷ below)
ways (RelationAt Sum) below = relation_ways (Makes 1) (Opens 0) (Then MoreFactors ∷ Then MoreSummands ∷ below)
ways (PropAt Atom) below = atom_ways below
ways (PropAt Both) below = atom_ways (Then MoreAnds ∷ below)
ways (PropAt Either) below = atom_ways (Then MoreAnds ∷ Then MoreOrs ∷ below)
ways (PropAt Whole) below = atom_ways (Then MoreAnds ∷ Then MoreOrs ∷ Then MoreImplied ∷ below)
ways BarredNames below = (ANameOf Plain ∷ Do to_names ∷ Then MoreNames ∷ below) ∷ []
ways Variable below = (ANameOf Plain ∷ Do to_free ∷ Then Operations ∷ below) ∷ []
ways VarList below = (ANameOf Plain ∷ Do to_free ∷ Then Operations ∷ Do to_vars ∷ Then MoreVars ∷ below) ∷ []
ways WholeContract below =
    (Word ForallWord Plain ∷ APart VarList ∷ Word Dot Plain ∷ APart (PropAt Whole) ∷ Do to_forall ∷ below)
    ∷ atom_ways (Then MoreAnds ∷ Then MoreOrs ∷ Then MoreImplied ∷ Do to_plain ∷ below)
ways (ExprAt Unary) below = unary_ways below
ways (ExprAt Multiplied) below = unary_ways (Then MoreTimes ∷ below)
ways (ExprAt Added) below = unary_ways (Then MoreTimes ∷ Then MorePlus ∷ below)
ways (ExprAt Compared) below = unary_ways (Then MoreTimes ∷ Then MorePlus ∷ Then Comparison ∷ below)
ways (ExprAt Conjoined) below = unary_ways (Then MoreTimes ∷ Then MorePlus ∷ Then Comparison ∷ Then MoreConjoined ∷ below)
ways (ExprAt Disjoined) below = disjoined_ways below
ways (ExprAt Chosen) below = chosen_ways below
ways Arguments below = chosen_ways (Do to_arguments ∷ Then MoreArguments ∷ below)
ways BaseKind below = base_ways below
ways AnyKind below = kind_ways below
ways Beginning below = beginning_ways below
ways ListedNames below = (ANameOf Plain ∷ Do to_names ∷ Then MoreListed ∷ below) ∷ []
ways WholeSource below = type_symbols (Do to_types ∷ Then MoreTypes ∷ Do no_transactions ∷ Then MoreTransactions ∷ Do to_source ∷ below) ∷ []

-- the way to continue after a part, with what is below it on the stack
abbrev pub way_on : Rest → List Sym → List Sym
way_on MoreTerms below = Word Comma Plain ∷ APart (Term (Makes 1)) ∷ Do add_term ∷ Then MoreTerms ∷ below
way_on MoreFactors below = Word Ampersand (Makes 1) ∷ APart (RelationAt Single) ∷ Do intersect ∷ Then MoreFactors ∷ below
way_on MoreSummands below = Word Bar (Makes 1) ∷ APart (RelationAt Product) ∷ Do unite ∷ Then MoreSummands ∷ below
way_on MoreAnds below = Word AndMark (Makes 1) ∷ APart (PropAt Atom) ∷ Do conjoin ∷ Then MoreAnds ∷ below
way_on MoreOrs below = Word OrMark (Makes 1) ∷ APart (PropAt Both) ∷ Do disjoin ∷ Then MoreOrs ∷ below
way_on MoreImplied below = Word Arrow (Makes 1) ∷ APart (PropAt Whole) ∷ Do imply ∷ below
way_on MoreNames below = Word Bar Plain ∷ ANameOf Plain ∷ Do add_name ∷ Then MoreNames ∷ below
way_on Operations below = Word Colon Plain ∷ APart BarredNames ∷ Do set_operations ∷ below
way_on MoreVars below = Word Comma Plain ∷ APart Variable ∷ Do add_var ∷ Then MoreVars ∷ below
way_on MoreTimes below = Operator precedence.Product ∷ APart (ExprAt Unary) ∷ Do combine ∷ Then MoreTimes ∷ below
way_on MorePlus below = Operator precedence.Sum ∷ APart (ExprAt Multiplied) ∷ Do combine ∷ Then MorePlus ∷ below
way_on Comparison below = Operator precedence.Comparison ∷ APart (ExprAt Added) ∷ Do combine ∷ below
way_on MoreConjoined below = Operator precedence.Conjunction ∷ APart (ExprAt Compared) ∷ Do combine ∷ Then MoreConjoined ∷ below
way_on MoreDisjoined below = Operator precedence.Disjunction ∷ APart (ExprAt Conjoined) ∷ Do combine ∷ Then MoreDisjoined ∷ below
way_on Called below = Word OpenParen (Opens 0) ∷ APart Arguments ∷ Word CloseParen Closes ∷ Do to_call ∷ below
way_on MoreArguments below = Word Comma Plain ∷ APart (ExprAt Chosen) ∷ Do add_argument ∷ Then MoreArguments ∷ below
way_on MoreFields below = field_symbols (Then MoreFields ∷ below)
way_on SomeParams below = param_symbols (Then MoreParams ∷ below)
way_on MoreParams below = Word Comma Plain ∷ param_symbols (Then MoreParams ∷ below)
way_on MoreListed below = Word Comma Plain ∷ ANameOf Plain ∷ Do add_name ∷ Then MoreListed ∷ below
way_on MoreBindings below = Word Comma Plain ∷ binding_symbols (Do add_binding ∷ Then MoreBindings ∷ below)
way_on MoreAssignments below = assignment_symbols (Then MoreAssignments ∷ below)
way_on Effect below = effect_symbols below
way_on MoreOperations below = operation_symbols (Do add_operation ∷ Then MoreOperations ∷ below)
way_on MoreTypes below = type_symbols (Do add_type ∷ Then MoreTypes ∷ below)
way_on MoreTransactions below = transaction_symbols (Do add_transaction ∷ Then MoreTransactions ∷ below)
