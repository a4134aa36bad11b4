-- The names of a program's types, operations and transactions, as they are read, are names of the language.
use Rattle.std.proofs.Common.{ℕ, ◌<◌, List, [], ◌∷◌, ◌++◌, length, map, Option, refl, sym, subst, arith, length-append}
use Rattle.std.proofs.lemmas.List.{length-map}
use Rattle.std.specs.List.{AllByRecursion}
use Rattle.ql_base.specs.Names.{IsName}
use Rattle.ql_grammar.specs.declared.role.Role.{Role}
use Rattle.ql_grammar.specs.declared.terminal.Terminal.{Terminal}
use Rattle.ql_grammar.specs.Tokens.{Marked, lexemes}
use Rattle.ql_grammar.specs.ContractGrammar as contracts
use Rattle.ql_grammar.specs.ContractGrammar.{ReadsTerm, ReadsTerms, ReadsRelation, RelationPart, ReadsProp, PropPart, ReadsNames, ReadsVar, ReadsVars, ReadsContract}
use Rattle.ql_grammar.specs.ExpressionGrammar as expressions
use Rattle.ql_grammar.specs.ExpressionGrammar.{ExprPart, ReadsExpr, ReadsArguments}
use Rattle.ql_grammar.specs.ProgramGrammar as programs
use Rattle.ql_grammar.specs.ProgramGrammar.{ReadsBase, ReadsKind, ReadsInit, ReadsField, ReadsFields, ReadsParam, ReadsParams, ReadsAnyParams, ReadsBinding, ReadsBindings, ReadsAssignment, ReadsAssignments, ReadsEffect, ReadsOperation, ReadsOperations, ReadsReplicated, ReadsTypes, ReadsTransaction, ReadsTransactions, ReadsProgram}
use Rattle.ql_lang.specs.declared.contract.Point.{Point}
use Rattle.ql_lang.specs.declared.contract.Var.{Var}
use Rattle.ql_lang.specs.declared.name.Name.{Name}
use Rattle.ql_lang.specs.declared.operation.Base.{Base}
use Rattle.ql_lang.specs.declared.operation.Kind.{Kind}
use Rattle.ql_lang.specs.declared.operation.OpDecl.{OpDecl}
use Rattle.ql_lang.specs.declared.operation.Param.{Param}
use Rattle.ql_lang.specs.declared.program.Field.{Field}
use Rattle.ql_lang.specs.declared.program.Init.{Init}
use Rattle.ql_lang.specs.declared.program.TypeDecl.{TypeDecl}
use Rattle.ql_lang.specs.declared.program.TxnDecl.{TxnDecl}
use Rattle.ql_lang.specs.declared.program.Program.{Program}
use Rattle.ql_lang.specs.Expressions.{Expression}
use Rattle.ql_lang.specs.Programs.{Assignment, Binding, Emission, Operation, Replicated, Source, Transaction, operation_of, replicated_of, source_of, transaction_of}
use Rattle.ql_lang.specs.Trees.{Proposition, Relation, Sentence}
use Rattle.ql_parse.specs.Parsing.{IsProgramText}
use Rattle.ql_parse.specs.Readers.{lexemes_of}
use Rattle.ql_typing.specs.Operations.{all_ops}
use Rattle.ql_commands.specs.Names.{HasNames}
use Rattle.ql_commands.proofs.NameTokens.{AreNamed, lexes_named}

abbrev Named : List Marked → Type 0
Named ms = AreNamed (lexemes ms)

-- ---- what stands after a part has names too

term : {r : Role} {ts rest : List Marked} {p : Point} → ReadsTerm r ts rest p → Named ts → Named rest
term contracts.current names = names.1
term contracts.variable names = names.1

terms : {ts rest : List Marked} {ps : List Point} → ReadsTerms ts rest ps → Named ts → Named rest
terms (contracts.one t) names = term t names
terms (contracts.more ts t) names = let before = terms ts names in term t before.1

relation : {part : RelationPart} {ts rest : List Marked} {r : Relation} → ReadsRelation part ts rest r → Named ts → Named rest
relation (contracts.applied_named is) names = names.1
relation (contracts.applied_bracket r) names = let inside = relation r names.1 in inside.1
relation (contracts.named is) names = names.1
relation (contracts.bracket r) names = let inside = relation r names.1 in inside.1
relation (contracts.single r) names = relation r names
relation (contracts.both r s) names = let left = relation r names in relation s left.1
relation (contracts.product r) names = relation r names
relation (contracts.either r s) names = let left = relation r names in relation s left.1

prop : {part : PropPart} {ts rest : List Marked} {p : Proposition} → ReadsProp part ts rest p → Named ts → Named rest
prop contracts.truth names = names.1
prop (contracts.group p) names = let inside = prop p names.1 in inside.1
prop (contracts.equal a b) names = let left = term a names in term b left.1
prop (contracts.applied r a b) names = let name = relation r names in let left = term a name.1 in let right = term b left.1 in right.1
prop (contracts.txn ps qs) names = let first = terms ps names.1.1 in let second = terms qs first.1.1 in second.1
prop (contracts.atom p) names = prop p names
prop (contracts.and p q) names = let left = prop p names in prop q left.1
prop (contracts.both p) names = prop p names
prop (contracts.or p q) names = let left = prop p names in prop q left.1
prop (contracts.either p) names = prop p names
prop (contracts.implies p q) names = let left = prop p names in prop q left.1

listed : {k : Terminal} {ts rest : List Marked} {ns : List Name} → ReadsNames k ts rest ns → Named ts → Named rest
listed contracts.one names = names.1
listed (contracts.more ns) names = let before = listed ns names in before.1.1

var : {ts rest : List Marked} {v : Var} → ReadsVar ts rest v → Named ts → Named rest
var contracts.free names = names.1
var (contracts.over ops) names = listed ops names.1.1

vars : {ts rest : List Marked} {vs : List Var} → ReadsVars ts rest vs → Named ts → Named rest
vars (contracts.one v) names = var v names
vars (contracts.more vs v) names = let before = vars vs names in var v before.1

contract : {ts rest : List Marked} {s : Sentence} → ReadsContract ts rest s → Named ts → Named rest
contract (contracts.plain p) names = prop p names
contract (contracts.forall vs p) names = let before = vars vs names.1 in prop p before.1

mutual
  expr : {part : ExprPart} {ts rest : List Marked} {s : ℕ} {e : Expression} → ReadsExpr part ts rest s e → Named ts → Named rest
  expr expressions.number names = names.1
  expr expressions.text names = names.1
  expr expressions.true_value names = names.1
  expr expressions.false_value names = names.1
  expr expressions.unit_value names = names.1
  expr expressions.variable names = names.1
  expr (expressions.call es) names = let inside = arguments es names.1.1 in inside.1
  expr (expressions.group e) names = let inside = expr e names.1 in inside.1
  expr (expressions.denial e) names = expr e names.1
  expr (expressions.negation e) names = expr e names.1
  expr (expressions.unary e) names = expr e names
  expr (expressions.product is a b) names = let left = expr a names in expr b left.1
  expr (expressions.multiplied e) names = expr e names
  expr (expressions.sum is a b) names = let left = expr a names in expr b left.1
  expr (expressions.added e) names = expr e names
  expr (expressions.comparison is a b) names = let left = expr a names in expr b left.1
  expr (expressions.compared e) names = expr e names
  expr (expressions.both is a b) names = let left = expr a names in expr b left.1
  expr (expressions.conjoined e) names = expr e names
  expr (expressions.either is a b) names = let left = expr a names in expr b left.1
  expr (expressions.disjoined e) names = expr e names
  expr (expressions.choice a b c) names = let test = expr a names.1 in let yes = expr b test.1 in expr c yes.1

  arguments : {ts rest : List Marked} {es : List Expression} → ReadsArguments ts rest es → Named ts → Named rest
  arguments (expressions.one e) names = expr e names
  arguments (expressions.more es e) names = let before = arguments es names in expr e before.1

base : {ts rest : List Marked} {b : Base} → ReadsBase ts rest b → Named ts → Named rest
base programs.int names = names.1
base programs.bool names = names.1
base programs.text names = names.1

kind : {ts rest : List Marked} {k : Kind} → ReadsKind ts rest k → Named ts → Named rest
kind programs.unit names = names.1
kind programs.int names = names.1
kind programs.bool names = names.1
kind programs.text names = names.1
kind (programs.set b) names = let inside = base b names.1.1 in inside.1
kind (programs.map b c) names = let key = base b names.1.1 in let value = base c key.1 in value.1

init : {ts rest : List Marked} {i : Init} → ReadsInit ts rest i → Named ts → Named rest
init programs.number names = names.1
init programs.negative names = names.1.1
init programs.text names = names.1
init programs.true_value names = names.1
init programs.false_value names = names.1
init programs.unit_value names = names.1
init programs.empty names = names.1

field : {ts rest : List Marked} {f : Field} → ReadsField ts rest f → Named ts → Named rest
field (programs.field k i) names = let of_kind = kind k names.1.1.1 in let value = init i of_kind.1 in value.1

fields : {ts rest : List Marked} {fs : List Field} → ReadsFields ts rest fs → Named ts → Named rest
fields programs.none names = names
fields (programs.more fs f) names = field f (fields fs names)

param : {ts rest : List Marked} {p : Param} → ReadsParam ts rest p → Named ts → Named rest
param (programs.param b) names = base b names.1.1

params : {ts rest : List Marked} {ps : List Param} → ReadsParams ts rest ps → Named ts → Named rest
params (programs.one p) names = param p names
params (programs.more ps p) names = let before = params ps names in param p before.1

any-params : {ts rest : List Marked} {ps : List Param} → ReadsAnyParams ts rest ps → Named ts → Named rest
any-params programs.none names = names
any-params (programs.some ps) names = params ps names

binding : {ts rest : List Marked} {b : Binding} → ReadsBinding ts rest b → Named ts → Named rest
binding (programs.binding b e) names = let of_base = base b names.1.1 in expr e of_base.1

bindings : {ts rest : List Marked} {bs : List Binding} → ReadsBindings ts rest bs → Named ts → Named rest
bindings (programs.one b) names = binding b names
bindings (programs.more bs b) names = let before = bindings bs names in binding b before.1

assignment : {ts rest : List Marked} {a : Assignment} → ReadsAssignment ts rest a → Named ts → Named rest
assignment (programs.assignment e) names = let value = expr e names.1.1 in value.1

assignments : {ts rest : List Marked} {changes : List Assignment} → ReadsAssignments ts rest changes → Named ts → Named rest
assignments programs.none names = names
assignments (programs.more changes a) names = assignment a (assignments changes names)

effect : {ts rest : List Marked} {e : Option Emission} → ReadsEffect ts rest e → Named ts → Named rest
effect programs.none names = names
effect (programs.emission bs e changes) names =
    let binds = bindings bs names.1 in
    let test = expr e binds.1 in
    let stmts = assignments changes test.1.1.1 in
    stmts.1

-- ---- the names of targets

abbrev OpNamed : Operation → Type 0
OpNamed o = IsName o.name.word

abbrev TypeNamed : Replicated → Type 0
TypeNamed t = IsName t.name.word × AllByRecursion OpNamed t.ops

abbrev TxnNamed : Transaction → Type 0
TxnNamed t = IsName t.name.word

each-more : {T : Type 0} (P : T → Type 0) (ts : List T) (t : T) → AllByRecursion P ts → P t → AllByRecursion P (ts ++ t ∷ [])
each-more P [] t all last = (last, tt)
each-more P (u ∷ us) t all last = (all.0, each-more P us t all.1 last)

operation : {ts rest : List Marked} {o : Operation} → ReadsOperation ts rest o → Named ts → OpNamed o × Named rest
operation (programs.operation ps k c e o) names =
    let of_params = any-params ps names.1.1.1 in
    let of_kind = kind k of_params.1.1 in
    let of_contract = contract c of_kind.1.1 in
    let of_answer = expr e of_contract.1.1 in
    let of_effect = effect o of_answer.1 in
    (names.1.0 refl, of_effect.1)

operations : {ts rest : List Marked} {os : List Operation} → ReadsOperations ts rest os → Named ts → AllByRecursion OpNamed os × Named rest
operations (programs.one o) names = let only = operation o names in ((only.0, tt), only.1)
operations (programs.more {os = os} {o = o} before last) names =
    let first = operations before names in
    let next = operation last first.1 in
    (each-more OpNamed os o first.0 next.0, next.1)

replicated : {ts rest : List Marked} {t : Replicated} → ReadsReplicated ts rest t → Named ts → TypeNamed t × Named rest
replicated (programs.replicated fs os) names = let ops = operations os (fields fs names.1.1.1) in ((names.1.0 refl, ops.0), ops.1.1)

types : {ts rest : List Marked} {ns : List Replicated} → ReadsTypes ts rest ns → Named ts → AllByRecursion TypeNamed ns × Named rest
types (programs.one t) names = let only = replicated t names in ((only.0, tt), only.1)
types (programs.more {types = before} {t = t} reads last) names =
    let first = types reads names in
    let next = replicated last first.1 in
    (each-more TypeNamed before t first.0 next.0, next.1)

transaction : {ts rest : List Marked} {t : Transaction} → ReadsTransaction ts rest t → Named ts → TxnNamed t × Named rest
transaction (programs.transaction ns c) names =
    let uses = listed ns names.1.1.1.1 in
    let of_contract = contract c uses.1.1 in
    (names.1.0 refl, of_contract.1.1)

transactions : {ts rest : List Marked} {ns : List Transaction} → ReadsTransactions ts rest ns → Named ts → AllByRecursion TxnNamed ns × Named rest
transactions programs.none names = (tt, names)
transactions (programs.more {txns = before} {t = t} reads last) names =
    let first = transactions reads names in
    let next = transaction last first.1 in
    (each-more TxnNamed before t first.0 next.0, next.1)

source : {ts rest : List Marked} {s : Source} → ReadsProgram ts rest s → Named ts → AllByRecursion TypeNamed s.types × AllByRecursion TxnNamed s.txns
source (programs.program ts ns) names = let of_types = types ts names in (of_types.0, (transactions ns of_types.1).0)

-- ---- the same of a program

all-append : {T : Type 0} (P : T → Type 0) (xs ys : List T) → AllByRecursion P xs → AllByRecursion P ys → AllByRecursion P (xs ++ ys)
all-append P [] ys all more = more
all-append P (x ∷ xs) ys all more = (all.0, all-append P xs ys all.1 more)

ops-named : (ops : List OpDecl) → AllByRecursion OpNamed (map operation_of ops) → AllByRecursion (λ (op : OpDecl). IsName op.name.word) ops
ops-named [] all = tt
ops-named (o ∷ ops) all = (all.0, ops-named ops all.1)

types-named : (ts : List TypeDecl) → AllByRecursion TypeNamed (map replicated_of ts) → AllByRecursion (λ (op : OpDecl). IsName op.name.word) (all_ops ts)
types-named [] all = tt
types-named (t ∷ ts) all = all-append (λ (op : OpDecl). IsName op.name.word) t.ops (all_ops ts) (ops-named t.ops all.0.1) (types-named ts all.1)

own-named : (ts : List TypeDecl) → AllByRecursion TypeNamed (map replicated_of ts) → AllByRecursion (λ (type : TypeDecl). IsName type.name.word) ts
own-named [] all = tt
own-named (t ∷ ts) all = (all.0.0, own-named ts all.1)

txns-named : (ts : List TxnDecl) → AllByRecursion TxnNamed (map transaction_of ts) → AllByRecursion (λ (txn : TxnDecl). IsName txn.name.word) ts
txns-named [] all = tt
txns-named (t ∷ ts) all = (all.0, txns-named ts all.1)

pub has_names : (bytes : List ℕ) (p : Program) → IsProgramText bytes (source_of p) → HasNames p
has_names bytes p text =
    let tokens : AreNamed (lexemes_of bytes text.tokens) = lexes_named bytes refl text.lexes in
    let named = source text.parses.reads (subst AreNamed (sym text.parses.are) tokens) in
    record { types = own-named p.types named.0; ops = types-named p.types named.0; txns = txns-named p.txns named.1 }

-- a source declares a type
some-types : {ts rest : List Marked} {ns : List Replicated} → ReadsTypes ts rest ns → 0 < length ns
some-types (programs.one t) = omega arith
some-types (programs.more {types = before} {t = t} reads last) = omega (arith, length-append before (t ∷ []))

of-source : {ts rest : List Marked} {s : Source} → ReadsProgram ts rest s → 0 < length s.types
of-source (programs.program ts ns) = some-types ts

pub has_types : (bytes : List ℕ) (p : Program) → IsProgramText bytes (source_of p) → 0 < length p.types
has_types bytes p text =
    let some = of-source text.parses.reads in
    omega (arith, some, length-map p.types replicated_of)
