use Rattle.std.proofs.Common.{◌≡◌, ℕ, List, [], ◌∷◌, ◌++◌, Option, Some, None, refl}
use Rattle.ql_lang.specs.declared.name.Name.{Name}
use Rattle.ql_lang.specs.declared.operation.Base.{Base}
use Rattle.ql_lang.specs.declared.operation.Kind.{Kind}
use Rattle.ql_lang.specs.declared.operation.Param.{Param}
use Rattle.ql_lang.specs.declared.program.Field.{Field}
use Rattle.ql_lang.specs.declared.program.Init.{Init}
use Rattle.ql_lang.specs.Programs.{Binding, Assignment, Emission, Operation, Replicated, Transaction, Source}
use Rattle.ql_grammar.specs.declared.terminal.Terminal.{Terminal}
use Rattle.ql_grammar.specs.declared.terminal.Terminal.TheVariants.{TypeWord, StateWord, OpWord, TransactionWord, OpenBrace, CloseBrace, CloseParen, Comma, Semicolon, Colon}
use Rattle.ql_grammar.specs.Terminals.{is_same, number as number_in}
use Rattle.ql_grammar.specs.declared.role.Role.{Role}
use Rattle.ql_grammar.specs.declared.role.Role.TheVariants.{Plain}
use Rattle.ql_grammar.specs.Tokens.{Marked, marked}
use Rattle.ql_grammar.specs.ContractGrammar.{ReadsNames}
use Rattle.ql_grammar.specs.ContractGrammar as contracts
use Rattle.ql_grammar.specs.ProgramGrammar.{ReadsBase, ReadsKind, ReadsInit, ReadsFields, ReadsParam, ReadsParams, ReadsAnyParams, ReadsBinding, ReadsBindings, ReadsAssignments, ReadsEffect, ReadsOperation, ReadsOperations, ReadsReplicated, ReadsTypes, ReadsTransactions, ReadsProgram, int, bool, text, unit, set, map, number, negative, true_value, false_value, unit_value, empty, field, none, more, param, one, some, binding, assignment, emission, operation, replicated, transaction, program}
use Rattle.ql_grammar.specs.Table.{Value, APlace, TheNames, TheFields, TheParams, TheBindings, TheAssignments, ABase, AKind, AnInit, ABinding, AnEffect, AnOperation, TheOperations, AType, TheTypes, TheTransactions, ASource, Sym, Word, ANameOf, Do, APart, Then, BaseKind, AnyKind, Beginning, ListedNames, WholeSource, MoreFields, SomeParams, MoreParams, MoreListed, MoreBindings, MoreAssignments, Effect, MoreOperations, MoreTypes, MoreTransactions, param_symbols, params_symbols, binding_symbols, body_symbols, operations_symbols, no_fields, to_bindings, to_operation, add_operation, to_type, to_types, add_type}
use Rattle.ql_grammar.specs.Machine.{lead, first_fit, step}
use Rattle.ql_grammar.proofs.Paths.{Path, here, take, then, doing, IsClear, pass}
use Rattle.ql_grammar.proofs.Again.{again_contract, Unjoined}
use Rattle.ql_grammar.proofs.ExpressionAgain.{NoOr, again_expr, at_comma, at_when, at_semicolon}

-- What the grammar of declarations reads, the machine reads too.

at_end : {r : Role} {x : List ℕ} {n : ℕ} {us : List Marked} → Unjoined (marked r Semicolon x n ∷ us)
unfolding is_same number_in
at_end = record { no_and = refl; no_or = refl; no_arrow = refl }

again_base : {ts rest : List Marked} {b : Base} → ReadsBase ts rest b → (below : List Sym) (vs : List Value) → Path (APart BaseKind ∷ below) vs ts below (ABase b ∷ vs) rest
unfolding is_same number_in lead first_fit step
again_base int below vs = take refl doing
again_base bool below vs = take refl doing
again_base text below vs = take refl doing

again_kind : {ts rest : List Marked} {k : Kind} → ReadsKind ts rest k → (below : List Sym) (vs : List Value) → Path (APart AnyKind ∷ below) vs ts below (AKind k ∷ vs) rest
unfolding is_same number_in lead first_fit step
again_kind unit below vs = take refl doing
again_kind int below vs = take refl doing
again_kind bool below vs = take refl doing
again_kind text below vs = take refl doing
again_kind (set b) below vs = take refl (take refl (then (again_base b _ _) (take refl doing)))
again_kind (map b c) below vs = take refl (take refl (then (again_base b _ _) (take refl (then (again_base c _ _) (take refl doing)))))

again_init : {ts rest : List Marked} {i : Init} → ReadsInit ts rest i → (below : List Sym) (vs : List Value) → Path (APart Beginning ∷ below) vs ts below (AnInit i ∷ vs) rest
unfolding is_same number_in lead first_fit step
again_init number below vs = take refl doing
again_init negative below vs = take refl (take refl doing)
again_init text below vs = take refl doing
again_init true_value below vs = take refl doing
again_init false_value below vs = take refl doing
again_init unit_value below vs = take refl doing
again_init empty below vs = take refl doing

again_listed : {ts rest : List Marked} {ns : List Name} → ReadsNames Comma ts rest ns → (below : List Sym) (vs : List Value) → Path (APart ListedNames ∷ below) vs ts (Then MoreListed ∷ below) (TheNames ns ∷ vs) rest
unfolding is_same number_in lead first_fit step
again_listed contracts.one below vs = take refl doing
again_listed (contracts.more reads) below vs = then (again_listed reads below vs) (take refl (take refl doing))

again_fields : {ts rest : List Marked} {fs : List Field} → ReadsFields ts rest fs → (below : List Sym) (vs : List Value) → Path (Then MoreFields ∷ below) (TheFields [] ∷ vs) ts (Then MoreFields ∷ below) (TheFields fs ∷ vs) rest
unfolding is_same number_in lead first_fit step
again_fields none below vs = here
again_fields (more fs (field k i)) below vs =
    then (again_fields fs below vs) (take refl (take refl (take refl (then (again_kind k _ _) (take refl (then (again_init i _ _) (take refl doing)))))))

-- the first parameter, and those after it

again_param : {ts rest : List Marked} {p : Param} {ps : List Param} → ReadsParam ts rest p → (below : List Sym) (vs : List Value) → Path (param_symbols below) (TheParams ps ∷ vs) ts below (TheParams (ps ++ p ∷ []) ∷ vs) rest
unfolding is_same number_in lead first_fit step
again_param (param b) below vs = take refl (take refl (then (again_base b _ _) doing))

again_first_param : {ts rest : List Marked} {p : Param} → ReadsParam ts rest p → (below : List Sym) (vs : List Value) → Path (Then SomeParams ∷ below) (TheParams [] ∷ vs) ts (Then MoreParams ∷ below) (TheParams (p ∷ []) ∷ vs) rest
unfolding is_same number_in lead first_fit step
again_first_param (param b) below vs = take refl (take refl (then (again_base b _ _) doing))

again_some_params : {ts rest : List Marked} {ps : List Param} → ReadsParams ts rest ps → (below : List Sym) (vs : List Value) → Path (Then SomeParams ∷ below) (TheParams [] ∷ vs) ts (Then MoreParams ∷ below) (TheParams ps ∷ vs) rest
unfolding is_same number_in lead first_fit step
again_some_params (one p) below vs = again_first_param p below vs
again_some_params (more ps p) below vs = then (again_some_params ps below vs) (take refl (again_param p _ _))

again_params : {ts rest : List Marked} {ps : List Param} {x : List ℕ} {n : ℕ} → ReadsAnyParams ts (marked Plain CloseParen x n ∷ rest) ps → (below : List Sym) (vs : List Value) → Path (Then SomeParams ∷ Word CloseParen Plain ∷ below) (TheParams [] ∷ vs) ts below (TheParams ps ∷ vs) rest
unfolding is_same number_in lead first_fit step
again_params none below vs = take refl here
again_params (some ps) below vs = then (again_some_params ps _ vs) (take refl here)

again_binding : {ts rest : List Marked} {b : Binding} → ReadsBinding ts rest b → (below : List Sym) (vs : List Value) → NoOr rest → Path (binding_symbols below) vs ts below (ABinding b ∷ vs) rest
unfolding is_same number_in lead first_fit step
again_binding (binding b e) below vs clear = take refl (take refl (then (again_base b _ _) (take refl (then (again_expr e _ _ clear) doing))))

again_bindings : {ts rest : List Marked} {bs : List Binding} → ReadsBindings ts rest bs → (below : List Sym) (vs : List Value) → NoOr rest → Path (binding_symbols (Do to_bindings ∷ Then MoreBindings ∷ below)) vs ts (Then MoreBindings ∷ below) (TheBindings bs ∷ vs) rest
unfolding is_same number_in lead first_fit step
again_bindings (one b) below vs clear = then (again_binding b _ vs clear) doing
again_bindings (more bs b) below vs clear = then (again_bindings bs below vs at_comma) (take refl (then (again_binding b _ _ clear) doing))

again_assignments : {ts rest : List Marked} {changes : List Assignment} → ReadsAssignments ts rest changes → (below : List Sym) (vs : List Value) → Path (Then MoreAssignments ∷ below) (TheAssignments [] ∷ vs) ts (Then MoreAssignments ∷ below) (TheAssignments changes ∷ vs) rest
unfolding is_same number_in lead first_fit step
again_assignments none below vs = here
again_assignments (more changes (assignment e)) below vs =
    then (again_assignments changes below vs) (take refl (take refl (then (again_expr e _ _ at_semicolon) (take refl doing))))

again_effect : {ts rest : List Marked} {o : Option Emission} {x : List ℕ} {n : ℕ} → ReadsEffect ts (marked Plain CloseBrace x n ∷ rest) o → (below : List Sym) (vs : List Value) → Path (Then Effect ∷ Word CloseBrace Plain ∷ below) (AnEffect None ∷ vs) ts below (AnEffect o ∷ vs) rest
unfolding is_same number_in lead first_fit step
again_effect none below vs = take refl here
again_effect (emission bs e changes) below vs =
    take refl (then (again_bindings bs _ _ at_when) (take refl (then (again_expr e _ _ at_semicolon) (take refl (take refl (take refl (then doing (then (again_assignments changes _ _) (take refl (then doing (take refl here)))))))))))

-- from the stacks after `op`, `type` and the like, whatever stood before

abbrev Begins : List Sym → List Value → Terminal → List Sym → Type 0
Begins st vs k behind = (x : List ℕ) (n : ℕ) → step st vs k x n ≡ Some (record { role = Plain; stack = behind; values = APlace n ∷ vs })

abbrev operation_tail : List Sym → List Sym
operation_tail below = ANameOf Plain ∷ params_symbols (Word Colon Plain ∷ APart AnyKind ∷ body_symbols (Do to_operation ∷ below))

again_operation : {st : List Sym} {ts rest : List Marked} {o : Operation} → ReadsOperation ts rest o → (below : List Sym) (vs : List Value) → Begins st vs OpWord (operation_tail below) → Path st vs ts below (AnOperation o ∷ vs) rest
unfolding is_same number_in lead first_fit step
again_operation (operation ps k c e o) below vs first =
    take (first _ _) (take refl (take refl (then doing (then (again_params ps _ _) (take refl (then (again_kind k _ _) (take refl (take refl (then (again_contract c _ _ at_end) (take refl (take refl (then (again_expr e _ _ at_semicolon) (take refl (then doing (then (again_effect o _ _) doing)))))))))))))))

again_operations : {ts rest : List Marked} {os : List Operation} → ReadsOperations ts rest os → (below : List Sym) (vs : List Value) → Path (operations_symbols below) vs ts (Then MoreOperations ∷ below) (TheOperations os ∷ vs) rest
unfolding is_same number_in lead first_fit step
again_operations (one o) below vs = then (again_operation o _ vs (λ x n. refl)) doing
again_operations (more os o) below vs = then (again_operations os below vs) (then (again_operation o (Do add_operation ∷ Then MoreOperations ∷ below) _ (λ x n. refl)) doing)

operation_head : {ts rest : List Marked} {o : Operation} → ReadsOperation ts rest o → IsClear StateWord ts
unfolding is_same number_in
operation_head (operation ps k c e o) = refl

operations_head : {ts rest : List Marked} {os : List Operation} → ReadsOperations ts rest os → IsClear StateWord ts
operations_head (one o) = operation_head o
operations_head (more os o) = operations_head os

abbrev type_tail : List Sym → List Sym
type_tail below = ANameOf Plain ∷ Word OpenBrace Plain ∷ Do no_fields ∷ Then MoreFields ∷ operations_symbols (Word CloseBrace Plain ∷ Do to_type ∷ below)

again_type : {st : List Sym} {ts rest : List Marked} {t : Replicated} → ReadsReplicated ts rest t → (below : List Sym) (vs : List Value) → Begins st vs TypeWord (type_tail below) → Path st vs ts below (AType t ∷ vs) rest
unfolding is_same number_in lead first_fit step
again_type (replicated fs os) below vs first =
    take (first _ _) (take refl (take refl (then doing (then (again_fields fs _ _) (then (pass MoreFields (operations_head os)) (then (again_operations os _ _) (take refl doing)))))))

again_types : {st : List Sym} {ts rest : List Marked} {types : List Replicated} → ReadsTypes ts rest types → (below : List Sym) (vs : List Value) → Begins st vs TypeWord (type_tail (Do to_types ∷ Then MoreTypes ∷ below)) → Path st vs ts (Then MoreTypes ∷ below) (TheTypes types ∷ vs) rest
unfolding is_same number_in lead first_fit step
again_types (one t) below vs first = then (again_type t _ vs first) doing
again_types (more types t) below vs first = then (again_types types below vs first) (then (again_type t (Do add_type ∷ Then MoreTypes ∷ below) _ (λ x n. refl)) doing)

again_transactions : {ts rest : List Marked} {txns : List Transaction} → ReadsTransactions ts rest txns → (below : List Sym) (vs : List Value) → Path (Then MoreTransactions ∷ below) (TheTransactions [] ∷ vs) ts (Then MoreTransactions ∷ below) (TheTransactions txns ∷ vs) rest
unfolding is_same number_in lead first_fit step
again_transactions none below vs = here
again_transactions (more txns (transaction ns c)) below vs =
    then (again_transactions txns below vs) (take refl (take refl (take refl (take refl (then (again_listed ns _ _) (take refl (take refl (then (again_contract c _ _ at_end) (take refl (take refl (then doing doing)))))))))))

transactions_head : {ts rest : List Marked} {txns : List Transaction} → ReadsTransactions ts rest txns → IsClear TypeWord rest → IsClear TypeWord ts
unfolding is_same number_in
transactions_head none clear = clear
transactions_head (more txns (transaction ns c)) clear = transactions_head txns refl

pub again_program : {ts rest : List Marked} {s : Source} → ReadsProgram ts rest s → (below : List Sym) (vs : List Value) → IsClear TypeWord rest → IsClear TransactionWord rest → Path (APart WholeSource ∷ below) vs ts below (ASource s ∷ vs) rest
unfolding is_same number_in lead first_fit step
again_program (program types txns) below vs no_type no_txn =
    then (again_types types _ vs (λ x n. refl)) (then (pass MoreTypes (transactions_head txns no_type)) (then doing (then (again_transactions txns _ _) (then (pass MoreTransactions no_txn) doing))))
