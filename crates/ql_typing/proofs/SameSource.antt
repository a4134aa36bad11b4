-- Programs that are read as one source have the same faults, contracts and names, wherever their parts are kept.
use Rattle.std.proofs.Common.{◌≡◌, ℕ, suc, List, [], ◌∷◌, ◌++◌, length, map, replicate, true, false, Option, Some, None, refl, ap, sym, ◌∙◌}
use Rattle.std.specs.List.{flat_map}
use Rattle.std.specs.Option.{option_map}
use Rattle.std.specs.Str.{bytes_eq}
use Rattle.ql_base.specs.Numbering.{place}
use Rattle.std.proofs.lemmas.List.{length-map, map-append}
use Rattle.ql_lang.specs.declared.name.Name.{Name}
use Rattle.ql_lang.specs.declared.operation.Bind.{Bind}
use Rattle.ql_lang.specs.declared.operation.Stmt.{Stmt}
use Rattle.ql_lang.specs.declared.operation.EmitDecl.{EmitDecl}
use Rattle.ql_lang.specs.declared.operation.OpDecl.{OpDecl}
use Rattle.ql_lang.specs.declared.program.Field.{Field}
use Rattle.ql_lang.specs.declared.program.TypeDecl.{TypeDecl}
use Rattle.ql_lang.specs.declared.program.TxnDecl.{TxnDecl}
use Rattle.ql_lang.specs.declared.program.Program.{Program}
use Rattle.ql_lang.specs.Expressions.{expression_of}
use Rattle.ql_lang.specs.Programs.{Binding, Assignment, Emission, Operation, Replicated, Transaction, Source, binding_of, assignment_of, emission_of, operation_of, replicated_of, transaction_of, source_of}
use Rattle.ql_typing.specs.declared.fault.TypeFault.{TypeFault}
use Rattle.ql_typing.specs.declared.scope.Known.{Known}
use Rattle.ql_typing.specs.Faults.{each, names_met, repeats}
use Rattle.ql_typing.specs.ContractFaults.{contract_faults, op_faults}
use Rattle.ql_typing.specs.Functions.{of_base}
use Rattle.ql_typing.specs.Kinds.{faults_as, kind_in, reading_faults}
use Rattle.ql_typing.specs.Lookups.{txn_place, type_place}
use Rattle.ql_typing.specs.Operations.{all_ops, kinds_from, op_kinds, op_place, op_words}
use Rattle.ql_typing.proofs.Positions.{op_place_of, position-map}
use Rattle.ql_typing.specs.Programs.{above, bind_faults, bind_names, binds_known, effect_faults, field_names, fields_known, init_faults, maybe_effect_faults, op_decl_faults, op_names, op_places, param_names, params_known, places, program_faults, stmt_faults, target_names, txn_faults, type_faults}

-- what two lists agree on in each item, they agree on as lists
pub map_alike : {A B C : Type 0} (f : A → B) (g : A → C) → ((x y : A) → f x ≡ f y → g x ≡ g y) → (xs ys : List A) → map f xs ≡ map f ys → map g xs ≡ map g ys
map_alike f g h [] [] e = refl
map_alike f g h [] (y ∷ ys) e = absurd (cc)
map_alike f g h (x ∷ xs) [] e = absurd (cc)
map_alike {A} {B} {C} f g h (x ∷ xs) (y ∷ ys) e =
    let one : f x ≡ f y = cc in
    let more : map f xs ≡ map f ys = cc in
    ap (λ (c : C). c ∷ map g xs) (h x y one) ∙ ap (λ (cs : List C). g y ∷ cs) (map_alike f g h xs ys more)

pub each_alike : {A B : Type 0} (f : A → B) (g : A → List TypeFault) → ((x y : A) → f x ≡ f y → g x ≡ g y) → (xs ys : List A) → map f xs ≡ map f ys → each g xs ≡ each g ys
unfolding each
each_alike f g h [] [] e = refl
each_alike f g h [] (y ∷ ys) e = absurd (cc)
each_alike f g h (x ∷ xs) [] e = absurd (cc)
each_alike f g h (x ∷ xs) (y ∷ ys) e =
    let one : f x ≡ f y = cc in
    let more : map f xs ≡ map f ys = cc in
    ap (λ (c : List TypeFault). c ++ each g xs) (h x y one) ∙ ap (λ (cs : List TypeFault). g y ++ cs) (each_alike f g h xs ys more)

pub flat_alike : {A B C : Type 0} (f : A → B) (g : A → List C) → ((x y : A) → f x ≡ f y → g x ≡ g y) → (xs ys : List A) → map f xs ≡ map f ys → flat_map g xs ≡ flat_map g ys
flat_alike f g h [] [] e = refl
flat_alike f g h [] (y ∷ ys) e = absurd (cc)
flat_alike f g h (x ∷ xs) [] e = absurd (cc)
flat_alike {A} {B} {C} f g h (x ∷ xs) (y ∷ ys) e =
    let one : f x ≡ f y = cc in
    let more : map f xs ≡ map f ys = cc in
    ap (λ (c : List C). c ++ flat_map g xs) (h x y one) ∙ ap (λ (cs : List C). g y ++ cs) (flat_alike f g h xs ys more)

-- ---- what an operation emits

same-bind : (scope : List Known) (a b : Bind) → binding_of a ≡ binding_of b → bind_faults scope a ≡ bind_faults scope b
unfolding bind_faults
same-bind scope a b e = ap (λ (x : Binding). faults_as scope (Some (of_base x.base)) x.value) e

same-stmt : (fields scope : List Known) (a b : Stmt) → assignment_of a ≡ assignment_of b → stmt_faults fields scope a ≡ stmt_faults fields scope b
unfolding stmt_faults
same-stmt fields scope a b e =
    ap (λ (x : Assignment). reading_faults (kind_in fields x.target.word) x.target.at ++ faults_as scope (kind_in fields x.target.word) x.value) e

same-effect : (names : List (List ℕ)) (fields scope : List Known) (a b : EmitDecl) → emission_of a ≡ emission_of b → effect_faults names fields scope a ≡ effect_faults names fields scope b
unfolding effect_faults
same-effect names fields scope a b e =
    let binds : map binding_of a.binds ≡ map binding_of b.binds = ap (λ (x : Emission). x.binds) e in
    let test : expression_of a.test ≡ expression_of b.test = ap (λ (x : Emission). x.test) e in
    let stmts : map assignment_of a.stmts ≡ map assignment_of b.stmts = ap (λ (x : Emission). x.stmts) e in
    let emitted : bind_names a.binds ≡ bind_names b.binds = map_alike binding_of (λ x. x.name) (λ x y s. ap (λ (z : Binding). z.name) s) a.binds b.binds binds in
    let known : binds_known a.binds ≡ binds_known b.binds = map_alike binding_of (λ x. record { word = x.name.word; kind = of_base x.base }) (λ x y s. ap (λ (z : Binding). record { word = z.name.word; kind = of_base z.base }) s) a.binds b.binds binds in
    let values : each (bind_faults scope) a.binds ≡ each (bind_faults scope) b.binds = each_alike binding_of (bind_faults scope) (same-bind scope) a.binds b.binds binds in
    let targets : target_names a.stmts ≡ target_names b.stmts = map_alike assignment_of (λ x. x.target) (λ x y s. ap (λ (z : Assignment). z.target) s) a.stmts b.stmts stmts in
    let changes : each (stmt_faults fields (fields ++ binds_known a.binds)) a.stmts ≡ each (stmt_faults fields (fields ++ binds_known b.binds)) b.stmts =
    ap (λ (k : List Known). each (stmt_faults fields (fields ++ k)) a.stmts) known
    ∙ each_alike assignment_of (stmt_faults fields (fields ++ binds_known b.binds)) (same-stmt fields (fields ++ binds_known b.binds)) a.stmts b.stmts stmts in
    rw (emitted, values, test, targets, changes) refl

same-maybe : (names : List (List ℕ)) (fields scope : List Known) (a b : Option EmitDecl) → option_map emission_of a ≡ option_map emission_of b → maybe_effect_faults names fields scope a ≡ maybe_effect_faults names fields scope b
same-maybe names fields scope None None e = refl
same-maybe names fields scope None (Some b) e = absurd (cc)
same-maybe names fields scope (Some a) None e = absurd (cc)
same-maybe names fields scope (Some a) (Some b) e = let same : emission_of a ≡ emission_of b = cc in same-effect names fields scope a b same

-- ---- declarations

same-op : (known names : List (List ℕ)) (fields : List Known) (a b : OpDecl) → operation_of a ≡ operation_of b → op_decl_faults known names fields a ≡ op_decl_faults known names fields b
unfolding op_decl_faults
same-op known names fields a b e =
    let faults : Operation → List TypeFault → List TypeFault = λ o effect.
    repeats names (param_names o.params)
    ++ (above 8 (places (param_names o.params))
    ++ (contract_faults (Some known) false o.contract
    ++ (faults_as (fields ++ params_known o.params) (Some o.kind) o.answer
    ++ effect))) in
    ap (λ (o : Operation). faults o (maybe_effect_faults names fields (fields ++ params_known o.params) a.effect)) e
    ∙ ap (faults (operation_of b)) (same-maybe names fields (fields ++ params_known b.params) a.effect b.effect (ap (λ (o : Operation). o.effect) e))

same-type : (known : List (List ℕ)) (a b : TypeDecl) → replicated_of a ≡ replicated_of b → type_faults known a ≡ type_faults known b
unfolding type_faults
same-type known a b e =
    let faults : List Field → List TypeFault → List TypeFault = λ fields ops.
    repeats [] (field_names fields) ++ (above 16 (map (λ f. f.at) fields) ++ (each init_faults fields ++ ops)) in
    let of_op : List Field → OpDecl → List TypeFault = λ fields. op_decl_faults known (names_met [] (field_names fields)) (fields_known fields) in
    ap (λ (fields : List Field). faults fields (each (of_op fields) a.ops)) (ap (λ (t : Replicated). t.fields) e)
    ∙ ap (faults b.fields) (each_alike operation_of (of_op b.fields) (same-op known (names_met [] (field_names b.fields)) (fields_known b.fields)) a.ops b.ops (ap (λ (t : Replicated). t.ops) e))

same-txn : (known : List (List ℕ)) (a b : TxnDecl) → transaction_of a ≡ transaction_of b → txn_faults known a ≡ txn_faults known b
unfolding txn_faults
same-txn known a b e = ap (λ (t : Transaction). repeats [] t.uses ++ (each (op_faults (Some known)) t.uses ++ contract_faults (Some known) true t.contract)) e

module _ (p q : Program) (e : source_of p ≡ source_of q) where
  pub same-types : map replicated_of p.types ≡ map replicated_of q.types
  same-types = ap (λ (s : Source). s.types) e

  pub same-txns : map transaction_of p.txns ≡ map transaction_of q.txns
  same-txns = ap (λ (s : Source). s.txns) e

  ops-of : (a b : TypeDecl) → replicated_of a ≡ replicated_of b → map operation_of a.ops ≡ map operation_of b.ops
  ops-of a b s = ap (λ (t : Replicated). t.ops) s

  -- the same faults
  pub same_faults : program_faults p ≡ program_faults q
  unfolding program_faults
  same_faults =
      let type_names : map (λ (t : TypeDecl). t.name) p.types ≡ map (λ (t : TypeDecl). t.name) q.types = map_alike replicated_of (λ t. t.name) (λ a b s. ap (λ (t : Replicated). t.name) s) p.types q.types same-types in
      let type_places : map (λ (t : TypeDecl). t.at) p.types ≡ map (λ (t : TypeDecl). t.at) q.types = map_alike replicated_of (λ t. t.at) (λ a b s. ap (λ (t : Replicated). t.at) s) p.types q.types same-types in
      let txn_names : map (λ (d : TxnDecl). d.name) p.txns ≡ map (λ (d : TxnDecl). d.name) q.txns = map_alike transaction_of (λ d. d.name) (λ a b s. ap (λ (t : Transaction). t.name) s) p.txns q.txns same-txns in
      let txn_places : map (λ (d : TxnDecl). d.at) p.txns ≡ map (λ (d : TxnDecl). d.at) q.txns = map_alike transaction_of (λ d. d.at) (λ a b s. ap (λ (t : Transaction). t.at) s) p.txns q.txns same-txns in
      let names : op_names p.types ≡ op_names q.types = flat_alike replicated_of (λ t. map (λ o. o.name) t.ops) (λ a b s. map_alike operation_of (λ o. o.name) (λ x y r. ap (λ (o : Operation). o.name) r) a.ops b.ops (ops-of a b s)) p.types q.types same-types in
      let at : op_places p.types ≡ op_places q.types = flat_alike replicated_of (λ t. map (λ o. o.at) t.ops) (λ a b s. map_alike operation_of (λ o. o.at) (λ x y r. ap (λ (o : Operation). o.at) r) a.ops b.ops (ops-of a b s)) p.types q.types same-types in
      let of_types : each (type_faults (names_met [] (op_names p.types))) p.types ≡ each (type_faults (names_met [] (op_names q.types))) q.types =
      ap (λ (n : List Name). each (type_faults (names_met [] n)) p.types) names
      ∙ each_alike replicated_of (type_faults (names_met [] (op_names q.types))) (same-type (names_met [] (op_names q.types))) p.types q.types same-types in
      let of_txns : each (txn_faults (names_met [] (op_names p.types))) p.txns ≡ each (txn_faults (names_met [] (op_names q.types))) q.txns =
      ap (λ (n : List Name). each (txn_faults (names_met [] n)) p.txns) names
      ∙ each_alike transaction_of (txn_faults (names_met [] (op_names q.types))) (same-txn (names_met [] (op_names q.types))) p.txns q.txns same-txns in
      rw (type_names, type_places, txn_names, txn_places, at, of_types, of_txns, names) refl

-- ---- the parts of programs that are read as one source

same-kinds : (k : ℕ) (ts us : List TypeDecl) → map replicated_of ts ≡ map replicated_of us → kinds_from k ts ≡ kinds_from k us
unfolding kinds_from
same-kinds k [] [] e = refl
same-kinds k [] (u ∷ us) e = absurd (cc)
same-kinds k (t ∷ ts) [] e = absurd (cc)
same-kinds k (t ∷ ts) (u ∷ us) e =
    let one : replicated_of t ≡ replicated_of u = cc in
    let more : map replicated_of ts ≡ map replicated_of us = cc in
    let count : length t.ops ≡ length u.ops = sym (length-map t.ops operation_of) ∙ ap (λ (r : Replicated). length r.ops) one ∙ length-map u.ops operation_of in
    ap (λ (n : ℕ). replicate n k ++ kinds_from (suc k) ts) count ∙ ap (λ (ks : List ℕ). replicate (length u.ops) k ++ ks) (same-kinds (suc k) ts us more)

map-flat : {A B C : Type 0} (f : B → C) (g : A → List B) (xs : List A) → map f (flat_map g xs) ≡ flat_map (λ x. map f (g x)) xs
map-flat f g [] = refl
map-flat {A} {B} {C} f g (x ∷ xs) = map-append f (g x) (flat_map g xs) ∙ ap (λ (cs : List C). map f (g x) ++ cs) (map-flat f g xs)

module _ (p q : Program) (e : source_of p ≡ source_of q) where
  pub same-ops : map operation_of (all_ops p.types) ≡ map operation_of (all_ops q.types)
  same-ops =
      map-flat operation_of (λ t. t.ops) p.types
      ∙ flat_alike replicated_of (λ t. map operation_of t.ops) (λ a b s. ap (λ (r : Replicated). r.ops) s) p.types q.types (same-types p q e)
      ∙ sym (map-flat operation_of (λ t. t.ops) q.types)

  pub same-op-kinds : op_kinds p.types ≡ op_kinds q.types
  same-op-kinds = same-kinds 0 p.types q.types (same-types p q e)

  -- ---- names and their places

  pub same-type-words : map (λ (t : TypeDecl). t.name.word) p.types ≡ map (λ (t : TypeDecl). t.name.word) q.types
  same-type-words = map_alike replicated_of (λ t. t.name.word) (λ a b s. ap (λ (t : Replicated). t.name.word) s) p.types q.types (same-types p q e)

  pub same-op-words : op_words p.types ≡ op_words q.types
  same-op-words = map_alike operation_of (λ o. o.name.word) (λ a b s. ap (λ (o : Operation). o.name.word) s) (all_ops p.types) (all_ops q.types) same-ops

  pub same-txn-words : map (λ (d : TxnDecl). d.name.word) p.txns ≡ map (λ (d : TxnDecl). d.name.word) q.txns
  same-txn-words = map_alike transaction_of (λ d. d.name.word) (λ a b s. ap (λ (t : Transaction). t.name.word) s) p.txns q.txns (same-txns p q e)

  pub same-type-place : (w : List ℕ) → type_place p.types w ≡ type_place q.types w
  same-type-place w =
      sym (position-map (bytes_eq w) (λ (t : TypeDecl). t.name.word) p.types) ∙ ap (λ (ws : List (List ℕ)). place ws w) same-type-words
      ∙ position-map (bytes_eq w) (λ (t : TypeDecl). t.name.word) q.types

  pub same-op-place : (w : List ℕ) → op_place p.types w ≡ op_place q.types w
  same-op-place w =
      sym (op_place_of (op_words p.types) p.types w refl) ∙ ap (λ (ws : List (List ℕ)). place ws w) same-op-words
      ∙ op_place_of (op_words q.types) q.types w refl

  pub same-txn-place : (w : List ℕ) → txn_place p.txns w ≡ txn_place q.txns w
  same-txn-place w =
      sym (position-map (bytes_eq w) (λ (d : TxnDecl). d.name.word) p.txns) ∙ ap (λ (ws : List (List ℕ)). place ws w) same-txn-words
      ∙ position-map (bytes_eq w) (λ (d : TxnDecl). d.name.word) q.txns
