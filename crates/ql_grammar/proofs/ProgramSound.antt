use Rattle.std.proofs.Common.{ℕ, ◌≤◌, zero, suc, List, [], ◌∷◌, Option, None, true, false, arith}
use Rattle.ql_lang.specs.declared.name.Name.{Name}
use Rattle.ql_lang.specs.declared.operation.Base.TheVariants as base_kind
use Rattle.ql_lang.specs.declared.operation.Kind.{Kind}
use Rattle.ql_lang.specs.declared.operation.Kind.TheVariants as any_kind
use Rattle.ql_lang.specs.declared.operation.Param.{Param}
use Rattle.ql_lang.specs.declared.program.Field.{Field}
use Rattle.ql_lang.specs.declared.program.InitNode.TheVariants as init_node
use Rattle.ql_lang.specs.Expressions.{Expression}
use Rattle.ql_lang.specs.Trees.{Sentence}
use Rattle.ql_lang.specs.Programs.{Binding, Assignment, Emission, Operation, Replicated, Transaction}
use Rattle.ql_grammar.specs.declared.terminal.Terminal.TheVariants.{NameToken, IntToken, TextToken, TypeWord, OpWord, ContractWord, AnswerWord, EmitWord, WhenWord, ApplyWord, TransactionWord, UsesWord, TrueWord, FalseWord, UnitWord, EmptyWord, IntWord, BoolWord, TextWord, SetWord, MapWord, OpenBrace, CloseBrace, OpenParen, CloseParen, Comma, Semicolon, Colon, Minus}
use Rattle.ql_grammar.specs.declared.role.Role.TheVariants.{Plain, Before}
use Rattle.ql_grammar.specs.Tokens.{Marked, marked}
use Rattle.ql_grammar.specs.ContractGrammar.{ReadsContract, ReadsNames}
use Rattle.ql_grammar.specs.ContractGrammar as contracts
use Rattle.ql_grammar.specs.ExpressionGrammar.{Chosen, ReadsExpr}
use Rattle.ql_grammar.specs.ProgramGrammar as grammar
use Rattle.ql_grammar.specs.Table.{Value, APlace, AName, TheNames, TheFields, TheParams, ABinding, TheBindings, TheAssignments, AnExpr, AnEffect, AKind, ASentence, AnOperation, TheOperations, AType, TheTypes, ATransaction, TheTransactions, Sym, Word, Placed, ANameOf, Kept, Do, APart, Then, BaseKind, AnyKind, Beginning, ListedNames, WholeContract, WholeSource, MoreFields, SomeParams, MoreParams, MoreListed, MoreBindings, MoreAssignments, Effect, MoreOperations, MoreTypes, MoreTransactions, base_ways, kind_ways, beginning_ways, binding_symbols, test_symbols, assignments_symbols, body_symbols, operation_symbols, operations_symbols, transaction_symbols, type_symbols, add_base, add_kind, to_set, to_map, begin_number, begin_negative, begin_text, begin_with, to_names, to_types, no_transactions, to_source, set_effect, to_operation, to_transaction, to_type}
use Rattle.ql_grammar.proofs.Wanted.{Has, Widens, none, word, placed, name, kept, operator, change, term, terms, relation, prop, names, variable, vars, contract, expr, arguments, base, kind, init, listed, source, stop, go}
use Rattle.ql_grammar.proofs.Leading.{Leads}

-- kinds

pub base_leads : (below : List Sym) → Leads (APart BaseKind ∷ below) (base_ways below)
base_leads below = (int_way, (bool_way, (text_way, tt)))
  where
    int_way : Widens (Word IntWord Plain ∷ Do (add_base base_kind.Int) ∷ below) (APart BaseKind ∷ below)
    int_way vs out ts (word (change h)) = base grammar.int h

    bool_way : Widens (Word BoolWord Plain ∷ Do (add_base base_kind.Bool) ∷ below) (APart BaseKind ∷ below)
    bool_way vs out ts (word (change h)) = base grammar.bool h

    text_way : Widens (Word TextWord Plain ∷ Do (add_base base_kind.Text) ∷ below) (APart BaseKind ∷ below)
    text_way vs out ts (word (change h)) = base grammar.text h

pub kind_leads : (below : List Sym) → Leads (APart AnyKind ∷ below) (kind_ways below)
kind_leads below = (set_way, (map_way, (unit_way, (int_way, (bool_way, (text_way, tt))))))
  where
    unit_way : Widens (Word UnitWord Plain ∷ Do (add_kind any_kind.Unit) ∷ below) (APart AnyKind ∷ below)
    unit_way vs out ts (word (change h)) = kind grammar.unit h

    int_way : Widens (Word IntWord Plain ∷ Do (add_kind any_kind.Int) ∷ below) (APart AnyKind ∷ below)
    int_way vs out ts (word (change h)) = kind grammar.int h

    bool_way : Widens (Word BoolWord Plain ∷ Do (add_kind any_kind.Bool) ∷ below) (APart AnyKind ∷ below)
    bool_way vs out ts (word (change h)) = kind grammar.bool h

    text_way : Widens (Word TextWord Plain ∷ Do (add_kind any_kind.Text) ∷ below) (APart AnyKind ∷ below)
    text_way vs out ts (word (change h)) = kind grammar.text h

    set_way : Widens (Word SetWord Plain ∷ Word OpenParen Plain ∷ APart BaseKind ∷ Word CloseParen Plain ∷ Do to_set ∷ below) (APart AnyKind ∷ below)
    set_way vs out ts (word (word (base b (word (change h))))) = kind (grammar.set b) h

    map_way : Widens (Word MapWord Plain ∷ Word OpenParen Plain ∷ APart BaseKind ∷ Word Comma Plain ∷ APart BaseKind ∷ Word CloseParen Plain ∷ Do to_map ∷ below) (APart AnyKind ∷ below)
    map_way vs out ts (word (word (base b (word (base c (word (change h))))))) = kind (grammar.map b c) h

-- what a field begins with

pub beginning_leads : (below : List Sym) → Leads (APart Beginning ∷ below) (beginning_ways below)
beginning_leads below = (number_way, (negative_way, (text_way, (true_way, (false_way, (unit_way, (empty_way, tt)))))))
  where
    number_way : Widens (Kept IntToken Plain ∷ Do begin_number ∷ below) (APart Beginning ∷ below)
    number_way vs out ts (kept (change h)) = init grammar.number h

    negative_way : Widens (Placed Minus Plain ∷ Kept IntToken Plain ∷ Do begin_negative ∷ below) (APart Beginning ∷ below)
    negative_way vs out ts (placed (kept (change h))) = init grammar.negative h

    text_way : Widens (Kept TextToken Plain ∷ Do begin_text ∷ below) (APart Beginning ∷ below)
    text_way vs out ts (kept (change h)) = init grammar.text h

    true_way : Widens (Placed TrueWord Plain ∷ Do (begin_with (init_node.Bool true)) ∷ below) (APart Beginning ∷ below)
    true_way vs out ts (placed (change h)) = init grammar.true_value h

    false_way : Widens (Placed FalseWord Plain ∷ Do (begin_with (init_node.Bool false)) ∷ below) (APart Beginning ∷ below)
    false_way vs out ts (placed (change h)) = init grammar.false_value h

    unit_way : Widens (Placed UnitWord Plain ∷ Do (begin_with init_node.Unit) ∷ below) (APart Beginning ∷ below)
    unit_way vs out ts (placed (change h)) = init grammar.unit_value h

    empty_way : Widens (Placed EmptyWord Plain ∷ Do (begin_with init_node.Empty) ∷ below) (APart Beginning ∷ below)
    empty_way vs out ts (placed (change h)) = init grammar.empty h

-- names with commas

absorb_listed : {ts rest : List Marked} {ns : List Name} {below : List Sym} {vs out : List Value} → ReadsNames Comma ts rest ns → Has (Then MoreListed ∷ below) (TheNames ns ∷ vs) rest out → Has (APart ListedNames ∷ below) vs ts out
absorb_listed reads (stop h) = listed reads h
absorb_listed reads (go (word (name (change h)))) = absorb_listed (contracts.more reads) h

pub listed_leads : (below : List Sym) → Leads (APart ListedNames ∷ below) ((ANameOf Plain ∷ Do to_names ∷ Then MoreListed ∷ below) ∷ [])
listed_leads below = (listed_way, tt)
  where
    listed_way : Widens (ANameOf Plain ∷ Do to_names ∷ Then MoreListed ∷ below) (APart ListedNames ∷ below)
    listed_way vs out ts (name (change h)) = absorb_listed contracts.one h

-- Declarations have lists inside lists. A list of them is taken from what a stack has by the size of that.

abbrev size : {st : List Sym} {vs out : List Value} {ts : List Marked} → Has st vs ts out → ℕ
size none = 0
size (word h) = suc (size h)
size (placed h) = suc (size h)
size (name h) = suc (size h)
size (kept h) = suc (size h)
size (operator is h) = suc (size h)
size (change h) = suc (size h)
size (term r h) = suc (size h)
size (terms r h) = suc (size h)
size (relation r h) = suc (size h)
size (prop r h) = suc (size h)
size (names r h) = suc (size h)
size (variable r h) = suc (size h)
size (vars r h) = suc (size h)
size (contract r h) = suc (size h)
size (expr r h) = suc (size h)
size (arguments r h) = suc (size h)
size (base r h) = suc (size h)
size (kind r h) = suc (size h)
size (init r h) = suc (size h)
size (listed r h) = suc (size h)
size (source r h) = suc (size h)
size (stop h) = suc (size h)
size (go h) = suc (size h)

-- orders of sizes, each proved once

same : (n : ℕ) → n ≤ n
same n = omega arith

up : {a b : ℕ} → a ≤ b → a ≤ suc b
up le = omega (arith, le)

up3 : {a b : ℕ} → a ≤ b → a ≤ suc (suc (suc b))
up3 le = omega (arith, le)

before : {a b : ℕ} → suc a ≤ b → a ≤ b
before le = omega (arith, le)

both_less : {a b : ℕ} → suc a ≤ suc b → a ≤ b
both_less le = omega (arith, le)

through : {a b c : ℕ} → a ≤ b → b ≤ c → a ≤ c
through p q = omega (arith, p, q)

none_less : {a : ℕ} → suc a ≤ 0 → ⊥
none_less le = omega (arith, le)

-- the front of the tokens reads as a tree, and the stack has what is left, which is of at most this size
record Split {A : Type 0} (Reads : List Marked → List Marked → A → Type 0) (value : A → Value) (below : List Sym) (vs : List Value) (ts : List Marked) (out : List Value) (most : ℕ) : Type 0 where
  pub rest : List Marked
  pub tree : A
  pub reads : Reads ts rest tree
  pub has : Has below (value tree ∷ vs) rest out
  pub less : size has ≤ most

-- the same, of a greater size
wider : {A : Type 0} {Reads : List Marked → List Marked → A → Type 0} {value : A → Value} {below : List Sym} {vs : List Value} {ts : List Marked} {out : List Value} {most : ℕ} (more : ℕ) → most ≤ more → Split Reads value below vs ts out most → Split Reads value below vs ts out more
wider more le s = record { rest = s.rest; tree = s.tree; reads = s.reads; has = s.has; less = through s.less le }

split_fields : {ts rest : List Marked} {fs : List Field} {below : List Sym} {vs out : List Value} → grammar.ReadsFields ts rest fs → (h : Has (Then MoreFields ∷ below) (TheFields fs ∷ vs) rest out) → Split grammar.ReadsFields TheFields below vs ts out (size h)
split_fields reads (stop h) = record { rest = _; tree = _; reads = reads; has = h; less = up (same _) }
split_fields reads (go (placed (name (word (kind k (word (init i (word (change h))))))))) = wider _ (up3 (up3 (up3 (same _)))) (split_fields (grammar.more reads (grammar.field k i)) h)

split_some_params : {ts rest : List Marked} {ps : List Param} {below : List Sym} {vs out : List Value} → grammar.ReadsParams ts rest ps → (h : Has (Then MoreParams ∷ below) (TheParams ps ∷ vs) rest out) → Split grammar.ReadsAnyParams TheParams below vs ts out (size h)
split_some_params reads (stop h) = record { rest = _; tree = _; reads = grammar.some reads; has = h; less = up (same _) }
split_some_params reads (go (word (name (word (base b (change h)))))) = wider _ (up3 (up3 (same _))) (split_some_params (grammar.more reads (grammar.param b)) h)

split_params : {ts : List Marked} {below : List Sym} {vs out : List Value} → (h : Has (Then SomeParams ∷ below) (TheParams [] ∷ vs) ts out) → Split grammar.ReadsAnyParams TheParams below vs ts out (size h)
split_params (stop h) = record { rest = _; tree = []; reads = grammar.none; has = h; less = up (same _) }
split_params (go (name (word (base b (change h))))) = wider _ (up3 (up (up (same _)))) (split_some_params (grammar.one (grammar.param b)) h)

-- a change of the values is passed
record Changed (f : List Value → List Value) (below : List Sym) (vs : List Value) (ts : List Marked) (out : List Value) (most : ℕ) : Type 0 where
  pub has : Has below (f vs) ts out
  pub less : suc (size has) ≤ most

changed : {f : List Value → List Value} {below : List Sym} {vs out : List Value} {ts : List Marked} → (h : Has (Do f ∷ below) vs ts out) → Changed f below vs ts out (size h)
changed (change h) = record { has = h; less = same _ }

split_binding : {ts : List Marked} {below : List Sym} {vs out : List Value} → (h : Has (binding_symbols below) vs ts out) → Split grammar.ReadsBinding ABinding below vs ts out (size h)
split_binding (name (word (base b (word (expr e (change h)))))) = record { rest = _; tree = _; reads = grammar.binding b e; has = h; less = up3 (up3 (same _)) }

more_bindings : (fuel : ℕ) {ts rest : List Marked} {bs : List Binding} {below : List Sym} {vs out : List Value} → grammar.ReadsBindings ts rest bs → (h : Has (Then MoreBindings ∷ below) (TheBindings bs ∷ vs) rest out) → size h ≤ fuel → Split grammar.ReadsBindings TheBindings below vs ts out (size h)
more_bindings fuel reads (stop h) le = record { rest = _; tree = _; reads = reads; has = h; less = up (same _) }
more_bindings zero reads (go h) le = absurd (none_less le)
more_bindings (suc fuel) reads (go (word h)) le =
    let b = split_binding h in
    let c = changed b.has in
    let less = through (before c.less) b.less in
    wider _ (up (up less)) (more_bindings fuel (grammar.more reads b.reads) c.has (through less (before (both_less {a = suc (size h)} {b = fuel} le))))

split_assignments : {ts rest : List Marked} {changes : List Assignment} {below : List Sym} {vs out : List Value} → grammar.ReadsAssignments ts rest changes → (h : Has (Then MoreAssignments ∷ below) (TheAssignments changes ∷ vs) rest out) → Split grammar.ReadsAssignments TheAssignments below vs ts out (size h)
split_assignments reads (stop h) = record { rest = _; tree = _; reads = reads; has = h; less = up (same _) }
split_assignments reads (go (name (word (expr e (word (change h)))))) = wider _ (up3 (up3 (same _))) (split_assignments (grammar.more reads (grammar.assignment e)) h)

-- effects

abbrev IsEffect : List Sym → List Value → List Marked → List Value → ℕ → Type 0
IsEffect below vs ts out most = Split grammar.ReadsEffect AnEffect below vs ts out most

effect_end : {x1 x2 x3 x4 x5 : List ℕ} {n1 n2 n3 n4 n5 s : ℕ} {ts us ws rest : List Marked} {bs : List Binding} {e : Expression} {changes : List Assignment} {below : List Sym} {vs out : List Value} → grammar.ReadsBindings ts (marked Before WhenWord x2 n2 ∷ us) bs → ReadsExpr Chosen us (marked Plain Semicolon x3 n3 ∷ marked Plain ApplyWord x4 n4 ∷ marked Plain OpenBrace x5 n5 ∷ ws) s e → grammar.ReadsAssignments ws rest changes → (h : Has (Word CloseBrace Plain ∷ Do set_effect ∷ below) (TheAssignments changes ∷ AnExpr s e ∷ TheBindings bs ∷ AnEffect None ∷ vs) rest out) → IsEffect below vs (marked Plain EmitWord x1 n1 ∷ ts) out (size h)
effect_end bs e changes (word (change h)) = record { rest = _; tree = _; reads = grammar.emission bs e changes; has = h; less = up (up (same _)) }

effect_test : {x1 : List ℕ} {n1 : ℕ} {ts rest : List Marked} {bs : List Binding} {below : List Sym} {vs out : List Value} → grammar.ReadsBindings ts rest bs → (h : Has (test_symbols (assignments_symbols (Do set_effect ∷ below))) (TheBindings bs ∷ AnEffect None ∷ vs) rest out) → IsEffect below vs (marked Plain EmitWord x1 n1 ∷ ts) out (size h)
effect_test bs (word (expr e (word (word (word (change h)))))) =
    let changes = split_assignments grammar.none h in
    wider _ (up3 (up3 changes.less)) (effect_end bs e changes.reads changes.has)

split_effect : {ts : List Marked} {below : List Sym} {vs out : List Value} → (h : Has (Then Effect ∷ below) (AnEffect None ∷ vs) ts out) → IsEffect below vs ts out (size h)
split_effect (stop h) = record { rest = _; tree = None; reads = grammar.none; has = h; less = up (same _) }
split_effect (go (word h)) =
    let b = split_binding h in
    let c = changed b.has in
    let bs = more_bindings (size c.has) (grammar.one b.reads) c.has (same _) in
    wider _ (up (up (through bs.less (through (before c.less) b.less)))) (effect_test bs.reads bs.has)

-- operations

abbrev IsOperation : List Sym → List Value → List Marked → List Value → ℕ → Type 0
IsOperation below vs ts out most = Split grammar.ReadsOperation AnOperation below vs ts out most

module _ {x1 x2 x3 : List ℕ} {n1 n2 n3 : ℕ} where
  operation_end : {x4 x5 x6 x7 x8 x9 x10 : List ℕ} {n4 n5 n6 n7 n8 n9 n10 s : ℕ} {ts us ws zs ys rest : List Marked} {ps : List Param} {k : Kind} {c : Sentence} {e : Expression} {o : Option Emission} {below : List Sym} {vs out : List Value} → grammar.ReadsAnyParams ts (marked Plain CloseParen x4 n4 ∷ marked Plain Colon x5 n5 ∷ us) ps → grammar.ReadsKind us (marked Plain OpenBrace x6 n6 ∷ marked Before ContractWord x7 n7 ∷ ws) k → ReadsContract ws (marked Plain Semicolon x8 n8 ∷ marked Before AnswerWord x9 n9 ∷ zs) c → ReadsExpr Chosen zs (marked Plain Semicolon x10 n10 ∷ ys) s e → grammar.ReadsEffect ys rest o → (h : Has (Word CloseBrace Plain ∷ Do to_operation ∷ below) (AnEffect o ∷ AnExpr s e ∷ ASentence c ∷ AKind k ∷ TheParams ps ∷ AName (record { word = x2; at = n2 }) ∷ APlace n1 ∷ vs) rest out) → IsOperation below vs (marked Plain OpWord x1 n1 ∷ marked Plain NameToken x2 n2 ∷ marked Plain OpenParen x3 n3 ∷ ts) out (size h)
  operation_end ps k c e o (word (change h)) = record { rest = _; tree = _; reads = grammar.operation ps k c e o; has = h; less = up (up (same _)) }

  operation_body : {ts rest : List Marked} {ps : List Param} {below : List Sym} {vs out : List Value} → grammar.ReadsAnyParams ts rest ps → (h : Has (Word CloseParen Plain ∷ Word Colon Plain ∷ APart AnyKind ∷ body_symbols (Do to_operation ∷ below)) (TheParams ps ∷ AName (record { word = x2; at = n2 }) ∷ APlace n1 ∷ vs) rest out) → IsOperation below vs (marked Plain OpWord x1 n1 ∷ marked Plain NameToken x2 n2 ∷ marked Plain OpenParen x3 n3 ∷ ts) out (size h)
  operation_body ps (word (word (kind k (word (word (contract c (word (word (expr e (word (change h))))))))))) =
      let o = split_effect h in
      wider _ (up3 (up3 (up3 (up (up o.less))))) (operation_end ps k c e o.reads o.has)

split_operation : {ts : List Marked} {below : List Sym} {vs out : List Value} → (h : Has (operation_symbols below) vs ts out) → IsOperation below vs ts out (size h)
split_operation (placed (name (word (change h)))) =
    let ps = split_params h in
    wider _ (up3 (up ps.less)) (operation_body ps.reads ps.has)

more_operations : (fuel : ℕ) {ts rest : List Marked} {os : List Operation} {below : List Sym} {vs out : List Value} → grammar.ReadsOperations ts rest os → (h : Has (Then MoreOperations ∷ below) (TheOperations os ∷ vs) rest out) → size h ≤ fuel → Split grammar.ReadsOperations TheOperations below vs ts out (size h)
more_operations fuel reads (stop h) le = record { rest = _; tree = _; reads = reads; has = h; less = up (same _) }
more_operations zero reads (go h) le = absurd (none_less le)
more_operations (suc fuel) reads (go h) le =
    let o = split_operation h in
    let c = changed o.has in
    let less = through (before c.less) o.less in
    wider _ (up less) (more_operations fuel (grammar.more reads o.reads) c.has (through less (both_less {a = size h} {b = fuel} le)))

split_operations : {ts : List Marked} {below : List Sym} {vs out : List Value} → (h : Has (operations_symbols below) vs ts out) → Split grammar.ReadsOperations TheOperations below vs ts out (size h)
split_operations h =
    let o = split_operation h in
    let c = changed o.has in
    wider _ (through (before c.less) o.less) (more_operations (size c.has) (grammar.one o.reads) c.has (same _))

-- types

abbrev IsType : List Sym → List Value → List Marked → List Value → ℕ → Type 0
IsType below vs ts out most = Split grammar.ReadsReplicated AType below vs ts out most

type_end : {x1 x2 x3 : List ℕ} {n1 n2 n3 : ℕ} {ts us rest : List Marked} {fs : List Field} {os : List Operation} {below : List Sym} {vs out : List Value} → grammar.ReadsFields ts us fs → grammar.ReadsOperations us rest os → (h : Has (Word CloseBrace Plain ∷ Do to_type ∷ below) (TheOperations os ∷ TheFields fs ∷ AName (record { word = x2; at = n2 }) ∷ APlace n1 ∷ vs) rest out) → IsType below vs (marked Plain TypeWord x1 n1 ∷ marked Plain NameToken x2 n2 ∷ marked Plain OpenBrace x3 n3 ∷ ts) out (size h)
type_end fs os (word (change h)) = record { rest = _; tree = _; reads = grammar.replicated fs os; has = h; less = up (up (same _)) }

split_type : {ts : List Marked} {below : List Sym} {vs out : List Value} → (h : Has (type_symbols below) vs ts out) → IsType below vs ts out (size h)
split_type (placed (name (word (change h)))) =
    let fs = split_fields grammar.none h in
    let os = split_operations fs.has in
    wider _ (up3 (up (through os.less fs.less))) (type_end fs.reads os.reads os.has)

more_types : (fuel : ℕ) {ts rest : List Marked} {types : List Replicated} {below : List Sym} {vs out : List Value} → grammar.ReadsTypes ts rest types → (h : Has (Then MoreTypes ∷ below) (TheTypes types ∷ vs) rest out) → size h ≤ fuel → Split grammar.ReadsTypes TheTypes below vs ts out (size h)
more_types fuel reads (stop h) le = record { rest = _; tree = _; reads = reads; has = h; less = up (same _) }
more_types zero reads (go h) le = absurd (none_less le)
more_types (suc fuel) reads (go h) le =
    let t = split_type h in
    let c = changed t.has in
    let less = through (before c.less) t.less in
    wider _ (up less) (more_types fuel (grammar.more reads t.reads) c.has (through less (both_less {a = size h} {b = fuel} le)))

-- transactions

abbrev IsTransaction : List Sym → List Value → List Marked → List Value → ℕ → Type 0
IsTransaction below vs ts out most = Split grammar.ReadsTransaction ATransaction below vs ts out most

transaction_end : {x1 x2 x3 x4 x5 x6 : List ℕ} {n1 n2 n3 n4 n5 n6 : ℕ} {ts us : List Marked} {ns : List Name} {below : List Sym} {vs out : List Value} → ReadsNames Comma ts (marked Plain Semicolon x5 n5 ∷ marked Before ContractWord x6 n6 ∷ us) ns → (h : Has (APart WholeContract ∷ Word Semicolon Plain ∷ Word CloseBrace Plain ∷ Do to_transaction ∷ below) (TheNames ns ∷ AName (record { word = x2; at = n2 }) ∷ APlace n1 ∷ vs) us out) → IsTransaction below vs (marked Plain TransactionWord x1 n1 ∷ marked Plain NameToken x2 n2 ∷ marked Plain OpenBrace x3 n3 ∷ marked Plain UsesWord x4 n4 ∷ ts) out (size h)
transaction_end ns (contract c (word (word (change h)))) = record { rest = _; tree = _; reads = grammar.transaction ns c; has = h; less = up3 (up (same _)) }

split_transaction : {ts : List Marked} {below : List Sym} {vs out : List Value} → (h : Has (transaction_symbols below) vs ts out) → IsTransaction below vs ts out (size h)
split_transaction (placed (name (word (word (listed ns (word (word h))))))) = wider _ (up3 (up3 (up (same _)))) (transaction_end ns h)

more_transactions : (fuel : ℕ) {ts rest : List Marked} {txns : List Transaction} {below : List Sym} {vs out : List Value} → grammar.ReadsTransactions ts rest txns → (h : Has (Then MoreTransactions ∷ below) (TheTransactions txns ∷ vs) rest out) → size h ≤ fuel → Split grammar.ReadsTransactions TheTransactions below vs ts out (size h)
more_transactions fuel reads (stop h) le = record { rest = _; tree = _; reads = reads; has = h; less = up (same _) }
more_transactions zero reads (go h) le = absurd (none_less le)
more_transactions (suc fuel) reads (go h) le =
    let t = split_transaction h in
    let c = changed t.has in
    let less = through (before c.less) t.less in
    wider _ (up less) (more_transactions fuel (grammar.more reads t.reads) c.has (through less (both_less {a = size h} {b = fuel} le)))

-- whole sources

source_end : {ts us rest : List Marked} {types : List Replicated} {txns : List Transaction} {below : List Sym} {vs out : List Value} → grammar.ReadsTypes ts us types → grammar.ReadsTransactions us rest txns → Has (Do to_source ∷ below) (TheTransactions txns ∷ TheTypes types ∷ vs) rest out → Has (APart WholeSource ∷ below) vs ts out
source_end types txns (change h) = source (grammar.program types txns) h

source_way : {below : List Sym} → Widens (type_symbols (Do to_types ∷ Then MoreTypes ∷ Do no_transactions ∷ Then MoreTransactions ∷ Do to_source ∷ below)) (APart WholeSource ∷ below)
source_way vs out ts h =
    let t = split_type h in
    let c = changed t.has in
    let types = more_types (size c.has) (grammar.one t.reads) c.has (same _) in
    let d = changed types.has in
    let txns = more_transactions (size d.has) grammar.none d.has (same _) in
    source_end types.reads txns.reads txns.has

pub source_leads : (below : List Sym) → Leads (APart WholeSource ∷ below) (type_symbols (Do to_types ∷ Then MoreTypes ∷ Do no_transactions ∷ Then MoreTransactions ∷ Do to_source ∷ below) ∷ [])
source_leads below = (source_way, tt)
