-- What the pieces of a source read as: the source, with other offsets.
use Rattle.std.proofs.Common.{◌≡◌, ℕ, suc, ◌+◌, arith, true, false, List, [], ◌∷◌, map, option_map, Option, Some, None, length, codes, decimal, pos, negsuc, neg_ℤ, refl, sym, ap, ◌∙◌, subst}
use Rattle.std.specs.List.{AllByRecursion}
use Rattle.ql_lex.specs.declared.token.TokenKind.TheVariants.{Mark, Keyword}
use Rattle.ql_lang.specs.declared.name.Name.{Name}
use Rattle.ql_lang.specs.declared.operation.Base.{Base}
use Rattle.ql_lang.specs.declared.operation.Base.TheVariants as base
use Rattle.ql_lang.specs.declared.operation.Kind.{Kind}
use Rattle.ql_lang.specs.declared.operation.Kind.TheVariants as kind
use Rattle.ql_lang.specs.declared.operation.Param.{Param}
use Rattle.ql_lang.specs.declared.program.Field.{Field}
use Rattle.ql_lang.specs.declared.program.Init.{Init}
use Rattle.ql_lang.specs.declared.program.InitNode.{InitNode}
use Rattle.ql_lang.specs.declared.program.InitNode.TheVariants as init
use Rattle.ql_lang.specs.Expressions.{Expression}
use Rattle.ql_lang.specs.Trees.{Sentence}
use Rattle.ql_lang.specs.Programs.{Binding, Assignment, Emission, Operation, Replicated, Transaction, Source}
use Rattle.ql_lang.specs.ExpressionSpelling.{quoted}
use Rattle.ql_grammar.specs.declared.terminal.Terminal.TheVariants.{NameToken, CloseParen, Comma, Equals, WhenWord, ContractWord}
use Rattle.ql_grammar.specs.declared.role.Role.TheVariants.{Plain, Before}
use Rattle.ql_grammar.specs.Tokens.{marked}
use Rattle.ql_grammar.specs.ContractGrammar.{ReadsNames}
use Rattle.ql_grammar.specs.ExpressionGrammar.{number_spelled, between_quotes}
use Rattle.ql_grammar.specs.ProgramGrammar.{ReadsBase, ReadsKind, ReadsInit, ReadsField, ReadsFields, ReadsParam, ReadsParams, ReadsAnyParams, ReadsBinding, ReadsBindings, ReadsAssignment, ReadsAssignments, ReadsEffect, ReadsOperation, ReadsOperations, ReadsReplicated, ReadsTypes, ReadsTransaction, ReadsTransactions, ReadsProgram}
use Rattle.ql_text_laws.specs.Printed.{unplaced_name}
use Rattle.ql_text_laws.specs.PrintedPrograms.{unplaced_init, unplaced_field, unplaced_param, unplaced_binding, unplaced_assignment, unplaced_emission, unplaced_operation, unplaced_type, unplaced_transaction, unplaced_source, InitFits, FieldFits, BindingFits, AssignmentFits, EffectFits, OperationFits, TypeFits, TransactionFits, SourceFits}
use Rattle.ql_text_laws.proofs.Pieces.{Piece, Blank, Said, marks_of}
use Rattle.ql_text_laws.proofs.PiecesRead.{Reads, Listed, same_parts, every, items_read, items_behind_read, comma, items_pieces, name_pieces, contract_pieces, contract_reads}
use Rattle.ql_text_laws.proofs.ExpressionPieces.{chosen_reads, number_back, text_back, expression_pieces}
use Rattle.ql_text_laws.proofs.ProgramPieces.{colon, ends_line, opens, closes, margin, each_pieces, base_pieces, kind_pieces, init_pieces, field_pieces, param_pieces, binding_pieces, assignment_pieces, apply_pieces, effect_pieces, asked_pieces, answered_pieces, operation_pieces, type_pieces, transaction_pieces, source_pieces}

three_same : {A B C D : Type 0} (f : A → B → C → D) {a d : A} {b e : B} {c g : C} → a ≡ d → b ≡ e → c ≡ g → f a b c ≡ f d e g
three_same f {a} {d} {b} {e} {c} {g} p q r = ap (λ x. f x b c) p ∙ ap (λ y. f d y c) q ∙ ap (λ z. f d e z) r

-- kinds and first values

base_reads : (b : Base) (at : ℕ) (below : List Piece) → Reads Base ReadsBase (λ x. x) at (base_pieces b below) below b
base_reads base.Int at below = record { next = at + 3; tree = base.Int; reads = ReadsBase.int; same = refl }
base_reads base.Bool at below = record { next = at + 4; tree = base.Bool; reads = ReadsBase.bool; same = refl }
base_reads base.Text at below = record { next = at + 4; tree = base.Text; reads = ReadsBase.text; same = refl }

kind_reads : (k : Kind) (at : ℕ) (below : List Piece) → Reads Kind ReadsKind (λ x. x) at (kind_pieces k below) below k
kind_reads kind.Unit at below = record { next = at + 4; tree = kind.Unit; reads = ReadsKind.unit; same = refl }
kind_reads kind.Int at below = record { next = at + 3; tree = kind.Int; reads = ReadsKind.int; same = refl }
kind_reads kind.Bool at below = record { next = at + 4; tree = kind.Bool; reads = ReadsKind.bool; same = refl }
kind_reads kind.Text at below = record { next = at + 4; tree = kind.Text; reads = ReadsKind.text; same = refl }
kind_reads (kind.Set b) at below =
    let x = base_reads b (at + 3 + 1) (Said Mark CloseParen Plain (codes ")") ∷ below) in
    record { next = x.next + 1; tree = kind.Set x.tree; reads = ReadsKind.set x.reads; same = ap (λ (y : Base). kind.Set y) x.same }
kind_reads (kind.Map b c) at below =
    let last = Said Mark CloseParen Plain (codes ")") ∷ below in
    let x = base_reads b (at + 3 + 1) (comma (base_pieces c last)) in
    let y = base_reads c (x.next + 1 + 1) last in
    record { next = y.next + 1; tree = kind.Map x.tree y.tree; reads = ReadsKind.map x.reads y.reads; same = same_parts (λ (u : Base) (v : Base). kind.Map u v) x.same y.same }

init_reads : (n0 : ℕ) (i : InitNode) → InitFits i → (at : ℕ) (below : List Piece) → Reads Init ReadsInit unplaced_init at (init_pieces i below) below (record { at = n0; node = i })
init_reads n0 (init.Int (pos n)) fits at below = record {
  next = at + length (decimal n);
  tree = record { at = at; node = init.Int (pos (number_spelled (decimal n))) };
  reads = ReadsInit.number;
  same = ap (λ (m : ℕ). record { at = 0; node = init.Int (pos m) }) (number_back n fits);
}
init_reads n0 (init.Int (negsuc n)) fits at below = record {
  next = at + 1 + length (decimal (suc n));
  tree = record { at = at; node = init.Int (neg_ℤ (pos (number_spelled (decimal (suc n))))) };
  reads = ReadsInit.negative;
  same = ap (λ (m : ℕ). record { at = 0; node = init.Int (neg_ℤ (pos m)) }) (number_back (suc n) (omega arith));
}
init_reads n0 (init.Text text) fits at below = record {
  next = at + length (quoted text);
  tree = record { at = at; node = init.Text (between_quotes (quoted text)) };
  reads = ReadsInit.text;
  same = ap (λ (t : List ℕ). record { at = 0; node = init.Text t }) (text_back text);
}
init_reads n0 (init.Bool true) fits at below = record { next = at + 4; tree = record { at = at; node = init.Bool true }; reads = ReadsInit.true_value; same = refl }
init_reads n0 (init.Bool false) fits at below = record { next = at + 5; tree = record { at = at; node = init.Bool false }; reads = ReadsInit.false_value; same = refl }
init_reads n0 init.Unit fits at below = record { next = at + 4; tree = record { at = at; node = init.Unit }; reads = ReadsInit.unit_value; same = refl }
init_reads n0 init.Empty fits at below = record { next = at + 5; tree = record { at = at; node = init.Empty }; reads = ReadsInit.empty; same = refl }

-- fields and parameters

field_reads : (f : Field) → FieldFits f → (at : ℕ) (below : List Piece) → Reads Field ReadsField unplaced_field at (field_pieces f below) below f
field_reads f fits at below =
    let word = at + 1 + 1 in
    let name = word + 5 + 1 in
    let start = init_pieces f.init.node (ends_line below) in
    let k = kind_reads f.kind (name + length f.name.word + 1 + 1) (Blank ∷ Said Mark Equals Plain (codes "=") ∷ Blank ∷ start) in
    let i = init_reads f.init.at f.init.node fits.1 (k.next + 1 + 1 + 1) (ends_line below) in
    record {
      next = i.next + 1 + 1;
      tree = record { at = word; name = record { word = f.name.word; at = name }; kind = k.tree; init = i.tree };
      reads = ReadsField.field k.reads i.reads;
      same = same_parts (λ (x : Kind) (y : Init). record { at = 0; name = unplaced_name f.name; kind = x; init = y }) k.same i.same;
    }

param_reads : (p : Param) (at : ℕ) (below : List Piece) → Reads Param ReadsParam unplaced_param at (param_pieces p below) below p
param_reads p at below =
    let b = base_reads p.base (at + length p.name.word + 1 + 1) below in
    record {
      next = b.next;
      tree = record { name = record { word = p.name.word; at = at }; base = b.tree };
      reads = ReadsParam.param b.reads;
      same = ap (λ (x : Base). record { name = unplaced_name p.name; base = x }) b.same;
    }

params_read : (ps : List Param) (at : ℕ) (below : List Piece) → Reads (List Param) ReadsAnyParams (map unplaced_param) at (items_pieces comma param_pieces ps below) below ps
params_read [] at below = record { next = at; tree = []; reads = ReadsAnyParams.none; same = refl }
params_read (p ∷ ps) at below =
    let r = items_read Param (λ q. Unit {0}) ReadsParam ReadsParams unplaced_param param_pieces comma (λ n. n + 1 + 1) (λ q fits. param_reads q)
    (λ ts rest q reads. ReadsParams.one reads) (λ ts n us rest done q so_far reads. ReadsParams.more so_far reads) p ps tt (every ps) at below in
    record { next = r.next; tree = r.tree; reads = ReadsAnyParams.some r.reads; same = r.same }

-- effects

binding_reads : (b : Binding) → BindingFits b → (at : ℕ) (below : List Piece) → Reads Binding ReadsBinding unplaced_binding at (binding_pieces b below) below b
binding_reads b fits at below =
    let x = base_reads b.base (at + length b.name.word + 1 + 1) (Blank ∷ Said Mark Equals Before (codes "=") ∷ Blank ∷ expression_pieces b.value below) in
    let e = chosen_reads b.value fits.1 (x.next + 1 + 1 + 1) below in
    record {
      next = e.next;
      tree = record { name = record { word = b.name.word; at = at }; base = x.tree; value = e.tree };
      reads = ReadsBinding.binding x.reads e.reads.1;
      same = same_parts (λ (u : Base) (v : Expression). record { name = unplaced_name b.name; base = u; value = v }) x.same e.same;
    }

bindings_read : (b : Binding) (bs : List Binding) → BindingFits b → AllByRecursion BindingFits bs → (at : ℕ) (below : List Piece) → Reads (List Binding) ReadsBindings (map unplaced_binding) at (items_pieces comma binding_pieces (b ∷ bs) below) below (b ∷ bs)
bindings_read b bs fits all at below =
    items_read Binding BindingFits ReadsBinding ReadsBindings unplaced_binding binding_pieces comma (λ n. n + 1 + 1) binding_reads
    (λ ts rest x reads. ReadsBindings.one reads) (λ ts n us rest done x so_far reads. ReadsBindings.more so_far reads) b bs fits all at below

assignment_reads : (a : Assignment) → AssignmentFits a → (at : ℕ) (below : List Piece) → Reads Assignment ReadsAssignment unplaced_assignment at (assignment_pieces a below) below a
assignment_reads a fits at below =
    let name = at + 1 + 1 + 1 + 1 + 1 + 1 in
    let e = chosen_reads a.value fits.1 (name + length a.target.word + 1 + 2 + 1) (ends_line below) in
    record {
      next = e.next + 1 + 1;
      tree = record { target = record { word = a.target.word; at = name }; value = e.tree };
      reads = ReadsAssignment.assignment e.reads.1;
      same = ap (λ (v : Expression). record { target = unplaced_name a.target; value = v }) e.same;
    }

assignments_read : (changes : List Assignment) → AllByRecursion AssignmentFits changes → (at : ℕ) (below : List Piece) → Listed Assignment ReadsAssignments unplaced_assignment (marks_of at (each_pieces assignment_pieces changes below)) below [] changes
assignments_read changes all at below =
    items_behind_read Assignment AssignmentFits ReadsAssignment ReadsAssignments unplaced_assignment assignment_pieces (λ more. more) (λ n. n) assignment_reads
    (λ ts rest x reads. ReadsAssignments.more ReadsAssignments.none reads) (λ ts n us rest done x so_far reads. ReadsAssignments.more so_far reads)
    (marks_of at (each_pieces assignment_pieces changes below)) [] changes all at below ReadsAssignments.none

effect_reads : (o : Option Emission) → EffectFits o → (at : ℕ) (below : List Piece) → Reads (Option Emission) ReadsEffect (option_map unplaced_emission) at (effect_pieces o below) below o
effect_reads None fits at below = record { next = at; tree = None; reads = ReadsEffect.none; same = refl }
effect_reads (Some e) fits at below = emission_reads e.binds e.test e.stmts fits at below where
  emission_reads : (bs : List Binding) (test : Expression) (changes : List Assignment) → EffectFits (Some (record { binds = bs; test = test; stmts = changes })) → (at : ℕ) (below : List Piece) → Reads (Option Emission) ReadsEffect (option_map unplaced_emission) at (effect_pieces (Some (record { binds = bs; test = test; stmts = changes })) below) below (Some (record { binds = bs; test = test; stmts = changes }))
  emission_reads [] test changes fits at below = absurd (omega (arith, fits.0))
  emission_reads (b ∷ bs) test changes fits at below =
      let word = at + 1 + 1 + 1 + 1 in
      let last = margin (margin (closes below)) in
      let applied = apply_pieces changes below in
      let xs = bindings_read b bs fits.1.0 fits.1.1 (word + 4 + 1) (Blank ∷ Said Keyword WhenWord Before (codes "when") ∷ Blank ∷ expression_pieces test (ends_line applied)) in
      let x = chosen_reads test fits.2 (xs.next + 1 + 4 + 1) (ends_line applied) in
      let ys = assignments_read changes fits.3 (x.next + 1 + 1 + 1 + 1 + 1 + 1 + 5 + 1 + 1 + 1) last in
      record {
        next = ys.next + 1 + 1 + 1 + 1 + 1 + 1;
        tree = Some (record { binds = xs.tree; test = x.tree; stmts = ys.trees });
        reads = ReadsEffect.emission xs.reads x.reads.1 ys.reads;
        same = three_same (λ (p : List Binding) (q : Expression) (r : List Assignment). Some (record { binds = p; test = q; stmts = r })) xs.same x.same ys.same;
      }

-- operations

abbrev made_of : ℕ → Name → List Param → Kind → Sentence → Expression → Option Emission → Operation
made_of at name ps k c e o = record { at = at; name = name; params = ps; kind = k; contract = c; answer = e; effect = o }

same_operation : (name : Name) (ps qs : List Param) (k l : Kind) (c d : Sentence) (e f : Expression) (o p : Option Emission) → ps ≡ qs → k ≡ l → c ≡ d → e ≡ f → o ≡ p → made_of 0 name ps k c e o ≡ made_of 0 name qs l d f p
same_operation name ps qs k l c d e f o p a b h i j =
    three_same (λ (x : List Param) (y : Kind) (z : Sentence). made_of 0 name x y z e o) a b h ∙ same_parts (λ (x : Expression) (y : Option Emission). made_of 0 name qs l d x y) i j

operation_reads : (o : Operation) → OperationFits o → (at : ℕ) (below : List Piece) → Reads Operation ReadsOperation unplaced_operation at (operation_pieces o below) below o
operation_reads o fits at below =
    let word = at + 1 + 1 in
    let name = word + 2 + 1 in
    let after_effect = margin (closes below) in
    let after_answer = effect_pieces o.effect after_effect in
    let after_contract = answered_pieces o after_answer in
    let after_kind = opens (asked_pieces o after_contract) in
    let ps = params_read o.params (name + length o.name.word + 1) (Said Mark CloseParen Plain (codes ")") ∷ colon (kind_pieces o.kind after_kind)) in
    let k = kind_reads o.kind (ps.next + 1 + 1 + 1) after_kind in
    let c = contract_reads o.contract fits.2 (k.next + 1 + 1 + 1 + 1 + 1 + 1 + 1 + 8 + 1) (ends_line after_contract) in
    let e = chosen_reads o.answer fits.3 (c.next + 1 + 1 + 1 + 1 + 1 + 1 + 6 + 1) (ends_line after_answer) in
    let x = effect_reads o.effect fits.4 (e.next + 1 + 1) after_effect in
    record {
      next = x.next + 1 + 1 + 1 + 1;
      tree = made_of word (record { word = o.name.word; at = name }) ps.tree k.tree c.tree e.tree x.tree;
      reads = ReadsOperation.operation ps.reads k.reads c.reads e.reads.1 x.reads;
      same = same_operation (unplaced_name o.name) _ _ _ _ _ _ _ _ _ _ ps.same k.same c.same e.same x.same;
    }

operations_read : (o : Operation) (os : List Operation) → OperationFits o → AllByRecursion OperationFits os → (at : ℕ) (below : List Piece) → Reads (List Operation) ReadsOperations (map unplaced_operation) at (each_pieces operation_pieces (o ∷ os) below) below (o ∷ os)
operations_read o os fits all at below =
    items_read Operation OperationFits ReadsOperation ReadsOperations unplaced_operation operation_pieces (λ more. more) (λ n. n) operation_reads
    (λ ts rest x reads. ReadsOperations.one reads) (λ ts n us rest done x so_far reads. ReadsOperations.more so_far reads) o os fits all at below

-- types

fields_read : (fs : List Field) → AllByRecursion FieldFits fs → (at : ℕ) (below : List Piece) → Listed Field ReadsFields unplaced_field (marks_of at (each_pieces field_pieces fs below)) below [] fs
fields_read fs all at below =
    items_behind_read Field FieldFits ReadsField ReadsFields unplaced_field field_pieces (λ more. more) (λ n. n) field_reads
    (λ ts rest x reads. ReadsFields.more ReadsFields.none reads) (λ ts n us rest done x so_far reads. ReadsFields.more so_far reads)
    (marks_of at (each_pieces field_pieces fs below)) [] fs all at below ReadsFields.none

type_reads : (t : Replicated) → TypeFits t → (at : ℕ) (below : List Piece) → Reads Replicated ReadsReplicated unplaced_type at (type_pieces t below) below t
type_reads t fits at below = by_parts t.at t.name t.fields t.ops fits at below where
  by_parts : (n : ℕ) (name : Name) (fs : List Field) (os : List Operation) → TypeFits (record { at = n; name = name; fields = fs; ops = os }) → (at : ℕ) (below : List Piece) → Reads Replicated ReadsReplicated unplaced_type at (type_pieces (record { at = n; name = name; fields = fs; ops = os }) below) below (record { at = n; name = name; fields = fs; ops = os })
  by_parts n name fs [] fits at below = absurd (omega (arith, fits.2))
  by_parts n name fs (o ∷ os) fits at below =
      let xs = fields_read fs fits.1 (at + 4 + 1 + length name.word + 1 + 1 + 1) (each_pieces operation_pieces (o ∷ os) (closes below)) in
      let ys = operations_read o os fits.3.0 fits.3.1 xs.next (closes below) in
      record {
        next = ys.next + 1 + 1;
        tree = record { at = at; name = record { word = name.word; at = at + 4 + 1 }; fields = xs.trees; ops = ys.tree };
        reads = ReadsReplicated.replicated xs.reads ys.reads;
        same = same_parts (λ (p : List Field) (q : List Operation). record { at = 0; name = unplaced_name name; fields = p; ops = q }) xs.same ys.same;
      }

types_read : (t : Replicated) (ts : List Replicated) → TypeFits t → AllByRecursion TypeFits ts → (at : ℕ) (below : List Piece) → Reads (List Replicated) ReadsTypes (map unplaced_type) at (each_pieces type_pieces (t ∷ ts) below) below (t ∷ ts)
types_read t ts fits all at below =
    items_read Replicated TypeFits ReadsReplicated ReadsTypes unplaced_type type_pieces (λ more. more) (λ n. n) type_reads
    (λ us rest x reads. ReadsTypes.one reads) (λ us n vs rest done x so_far reads. ReadsTypes.more so_far reads) t ts fits all at below

-- transactions

uses_read : (n : Name) (ns : List Name) (at : ℕ) (below : List Piece) → Reads (List Name) (ReadsNames Comma) (map unplaced_name) at (items_pieces comma name_pieces (n ∷ ns) below) below (n ∷ ns)
uses_read n ns at below =
    items_read Name (λ name. Unit {0}) (λ ts rest name. ts ≡ marked Plain NameToken name.word name.at ∷ rest) (ReadsNames Comma) unplaced_name name_pieces comma (λ at. at + 1 + 1)
    (λ name fits at below. record { next = at + length name.word; tree = record { word = name.word; at = at }; reads = refl; same = refl })
    (λ ts rest name is. subst (λ us. ReadsNames Comma us rest (name ∷ [])) (sym is) ReadsNames.one)
    (λ ts at us rest done name so_far is. ReadsNames.more (subst (λ ms. ReadsNames Comma ts (marked Plain Comma (codes ",") at ∷ ms) done) is so_far)) n ns tt (every ns) at below

transaction_reads : (t : Transaction) → TransactionFits t → (at : ℕ) (below : List Piece) → Reads Transaction ReadsTransaction unplaced_transaction at (transaction_pieces t below) below t
transaction_reads t fits at below = by_parts t.at t.name t.uses t.contract fits at below where
  by_parts : (n : ℕ) (name : Name) (uses : List Name) (c : Sentence) → TransactionFits (record { at = n; name = name; uses = uses; contract = c }) → (at : ℕ) (below : List Piece) → Reads Transaction ReadsTransaction unplaced_transaction at (transaction_pieces (record { at = n; name = name; uses = uses; contract = c }) below) below (record { at = n; name = name; uses = uses; contract = c })
  by_parts n name [] c fits at below = absurd (omega (arith, fits.1))
  by_parts n name (u ∷ us) c fits at below =
      let last = ends_line (closes below) in
      let after_uses = margin (Said Keyword ContractWord Before (codes "contract") ∷ Blank ∷ contract_pieces c last) in
      let xs = uses_read u us (at + 11 + 1 + length name.word + 1 + 1 + 1 + 1 + 1 + 4 + 1) (ends_line after_uses) in
      let x = contract_reads c fits.3 (xs.next + 1 + 1 + 1 + 1 + 8 + 1) last in
      record {
        next = x.next + 1 + 1 + 1 + 1;
        tree = record { at = at; name = record { word = name.word; at = at + 11 + 1 }; uses = xs.tree; contract = x.tree };
        reads = ReadsTransaction.transaction xs.reads x.reads;
        same = same_parts (λ (p : List Name) (q : Sentence). record { at = 0; name = unplaced_name name; uses = p; contract = q }) xs.same x.same;
      }

transactions_read : (ts : List Transaction) → AllByRecursion TransactionFits ts → (at : ℕ) (below : List Piece) → Listed Transaction ReadsTransactions unplaced_transaction (marks_of at (each_pieces transaction_pieces ts below)) below [] ts
transactions_read ts all at below =
    items_behind_read Transaction TransactionFits ReadsTransaction ReadsTransactions unplaced_transaction transaction_pieces (λ more. more) (λ n. n) transaction_reads
    (λ us rest x reads. ReadsTransactions.more ReadsTransactions.none reads) (λ us n vs rest done x so_far reads. ReadsTransactions.more so_far reads)
    (marks_of at (each_pieces transaction_pieces ts below)) [] ts all at below ReadsTransactions.none

-- the pieces of a source read as it, offsets aside
pub source_reads : (p : Source) → SourceFits p → Reads Source ReadsProgram unplaced_source 0 (source_pieces p []) [] p
source_reads p fits = by_parts p.types p.txns fits where
  by_parts : (types : List Replicated) (txns : List Transaction) → SourceFits (record { types = types; txns = txns }) → Reads Source ReadsProgram unplaced_source 0 (source_pieces (record { types = types; txns = txns }) []) [] (record { types = types; txns = txns })
  by_parts [] txns fits = absurd (omega (arith, fits.0))
  by_parts (t ∷ ts) txns fits =
      let xs = types_read t ts fits.1.0 fits.1.1 0 (each_pieces transaction_pieces txns []) in
      let ys = transactions_read txns fits.2 xs.next [] in
      record {
        next = ys.next;
        tree = record { types = xs.tree; txns = ys.trees };
        reads = ReadsProgram.program xs.reads ys.reads;
        same = same_parts (λ (a : List Replicated) (b : List Transaction). record { types = a; txns = b }) xs.same ys.same;
      }
