-- What a program without faults has: few declarations, and operations and transactions without faults.
use Rattle.std.proofs.Common.{◌≡◌, ◌≤◌, ℕ, false, List, [], ◌∷◌, ◌++◌, Option, Some, None, length, map, refl, sym, ap, ◌∙◌, subst, arith, option_map}
use Rattle.std.specs.List.{slice_get}
use Rattle.std.proofs.lemmas.List.{length-map}
use Rattle.std.proofs.lemmas.Option.{slice_get-map}
use Rattle.ql_lang.specs.declared.operation.OpDecl.{OpDecl}
use Rattle.ql_lang.specs.declared.program.TypeDecl.{TypeDecl}
use Rattle.ql_lang.specs.declared.program.TxnDecl.{TxnDecl}
use Rattle.ql_lang.specs.declared.program.Program.{Program}
use Rattle.ql_lang.specs.Formulas.{Resolved}
use Rattle.ql_lang.specs.Trees.{sentence_of}
use Rattle.ql_typing.specs.declared.scope.Known.{Known}
use Rattle.ql_typing.specs.Faults.{each, names_met, repeats}
use Rattle.ql_typing.specs.ContractFaults.{contract_faults, op_faults}
use Rattle.ql_typing.specs.Programs.{above, field_names, fields_known, init_faults, op_decl_faults, op_names, op_places, param_names, places, program_faults, too_many, txn_faults, type_faults}
use Rattle.ql_typing.specs.Operations.{all_ops, op_contract, op_contracts, op_words, txn_contract, txn_contracts}
use Rattle.ql_typing.specs.WellFormed.{IsOpContract, IsTxnContract}
use Rattle.ql_typing.proofs.Mapped.{map-twice}
use Rattle.ql_typing.proofs.Parts.{distinct_met, each-append, each_at, each_weaker, few_each, flat_of_map, left_none, right_none}
use Rattle.ql_typing.proofs.Formed.{op_formed, txn_formed}

-- the names of operations, as words
words_of : (types : List TypeDecl) → map (λ n. n.word) (op_names types) ≡ op_words types
words_of types =
    ap (λ ns. map (λ n. n.word) ns) (flat_of_map (λ (o : OpDecl). o.name) (λ (t : TypeDecl). t.ops) types)
    ∙ map-twice (λ (o : OpDecl). o.name) (λ n. n.word) (all_ops types)

-- names of operations without a repeat are met as they stand
pub met_words : (types : List TypeDecl) → repeats [] (op_names types) ≡ [] → names_met [] (op_names types) ≡ op_words types
met_words types distinct = distinct_met [] (op_names types) distinct ∙ words_of types

-- one item past a limit is a fault
wrong_past : (at : ℕ) → ¬ too_many at ≡ []
unfolding too_many
wrong_past at e = cc

-- where nothing is above a limit, there are no more items than that
few_above : (limit : ℕ) (all : List ℕ) → above limit all ≡ [] → length all ≤ limit
few_above limit all h = few_each too_many wrong_past limit all h

-- the contract of an operation without faults has none
contract_typed : (known names : List (List ℕ)) (fields : List Known) (o : OpDecl) → op_decl_faults known names fields o ≡ [] → contract_faults (Some known) false (sentence_of o.contract) ≡ []
unfolding op_decl_faults
contract_typed known names fields o h =
    left_none _ _ (right_none (above 8 (places (param_names o.params))) _ (right_none (repeats names (param_names o.params)) _ h))

-- and so the contracts of the operations of types without faults
pub own_typed : (known : List (List ℕ)) (t : TypeDecl) → type_faults known t ≡ [] → each (λ o. contract_faults (Some known) false (sentence_of o.contract)) t.ops ≡ []
unfolding type_faults
own_typed known t h =
    each_weaker (op_decl_faults known (names_met [] (field_names t.fields)) (fields_known t.fields)) (λ o. contract_faults (Some known) false (sentence_of o.contract))
    (λ o e. contract_typed known (names_met [] (field_names t.fields)) (fields_known t.fields) o e) t.ops
    (right_none (each init_faults t.fields) _ (right_none (above 16 (map (λ f. f.at) t.fields)) _ (right_none (repeats [] (field_names t.fields)) _ h)))

all_typed : (known : List (List ℕ)) (types : List TypeDecl) → each (type_faults known) types ≡ [] → each (λ o. contract_faults (Some known) false (sentence_of o.contract)) (all_ops types) ≡ []
unfolding each
all_typed known [] h = refl
all_typed known (t ∷ ts) h =
    each-append (λ o. contract_faults (Some known) false (sentence_of o.contract)) t.ops (all_ops ts)
    ∙ rw (own_typed known t (left_none _ _ h)) (all_typed known ts (right_none (type_faults known t) _ h))

-- what stands at a place of a list that was made item by item
at_made : {A B : Type 0} (f : A → B) (xs : List A) (k : ℕ) (y : B) → slice_get (map f xs) k ≡ Some y → (x : A) × (slice_get xs k ≡ Some x) × (f x ≡ y)
at_made f xs k y h = by (slice_get xs k) refl (sym (slice_get-map f xs k) ∙ h)
  where
    by : (r : Option _) → slice_get xs k ≡ r → option_map f r ≡ Some y → (x : _) × (slice_get xs k ≡ Some x) × (f x ≡ y)
    by None e g =
        let no : ⊥ = cc in
        absurd no
    by (Some x) e g =
        let same : f x ≡ y = cc in
        (x, e, same)

module _ (p : Program) (typed : program_faults p ≡ []) where
  named_well : (repeats [] (map (λ t. t.name) p.types) ++ repeats [] (map (λ d. d.name) p.txns)) ++ repeats [] (op_names p.types) ≡ []
  unfolding program_faults
  named_well = left_none _ _ typed

  after_names : (above 16 (map (λ t. t.at) p.types) ++ (above 32 (op_places p.types) ++ above 16 (map (λ d. d.at) p.txns)))
      ++ (each (type_faults (names_met [] (op_names p.types))) p.types ++ each (txn_faults (names_met [] (op_names p.types))) p.txns) ≡ []
  unfolding program_faults
  after_names = right_none ((repeats [] (map (λ t. t.name) p.types) ++ repeats [] (map (λ d. d.name) p.txns)) ++ repeats [] (op_names p.types)) _ typed

  few_well : above 16 (map (λ t. t.at) p.types) ++ (above 32 (op_places p.types) ++ above 16 (map (λ d. d.at) p.txns)) ≡ []
  few_well = left_none _ _ after_names

  declared_well : each (type_faults (names_met [] (op_names p.types))) p.types ++ each (txn_faults (names_met [] (op_names p.types))) p.txns ≡ []
  declared_well = right_none (above 16 (map (λ t. t.at) p.types) ++ (above 32 (op_places p.types) ++ above 16 (map (λ d. d.at) p.txns))) _ after_names

  -- the names of operations are met as they stand
  pub known_words : names_met [] (op_names p.types) ≡ op_words p.types
  known_words = met_words p.types (right_none (repeats [] (map (λ t. t.name) p.types) ++ repeats [] (map (λ d. d.name) p.txns)) _ named_well)

  pub few_types : length p.types ≤ 16
  few_types =
      let few = few_above 16 (map (λ t. t.at) p.types) (left_none _ _ few_well) in
      omega (arith, few, length-map p.types (λ t. t.at))

  pub few_ops : length (all_ops p.types) ≤ 32
  few_ops =
      let rest : above 32 (op_places p.types) ++ above 16 (map (λ d. d.at) p.txns) ≡ [] = right_none (above 16 (map (λ t. t.at) p.types)) _ few_well in
      let few = few_above 32 (op_places p.types) (left_none _ _ rest) in
      let same : op_places p.types ≡ map (λ o. o.at) (all_ops p.types) = flat_of_map (λ (o : OpDecl). o.at) (λ (t : TypeDecl). t.ops) p.types in
      omega (arith, few, ap length same, length-map (all_ops p.types) (λ o. o.at))

  pub few_txns : length p.txns ≤ 16
  few_txns =
      let rest : above 32 (op_places p.types) ++ above 16 (map (λ d. d.at) p.txns) ≡ [] = right_none (above 16 (map (λ t. t.at) p.types)) _ few_well in
      let few = few_above 16 (map (λ d. d.at) p.txns) (right_none (above 32 (op_places p.types)) _ rest) in
      omega (arith, few, length-map p.txns (λ d. d.at))

  pub types_typed : each (type_faults (op_words p.types)) p.types ≡ []
  types_typed = subst (λ known. each (type_faults known) p.types ≡ []) known_words (left_none _ _ declared_well)

  pub txns_typed : each (txn_faults (op_words p.types)) p.txns ≡ []
  txns_typed = subst (λ known. each (txn_faults known) p.txns ≡ []) known_words (right_none (each (type_faults (names_met [] (op_names p.types))) p.types) _ declared_well)

  -- a type of the program has no faults
  pub type_typed : (k : ℕ) (t : TypeDecl) → slice_get p.types k ≡ Some t → type_faults (op_words p.types) t ≡ []
  type_typed k t is = each_at (type_faults (op_words p.types)) p.types k t types_typed is

  -- nor has a transaction
  pub txn_typed : (k : ℕ) (d : TxnDecl) → slice_get p.txns k ≡ Some d → txn_faults (op_words p.types) d ≡ []
  txn_typed k d is = each_at (txn_faults (op_words p.types)) p.txns k d txns_typed is

  -- the resolved contract of an operation is well formed
  pub op_well_formed : (k : ℕ) (f : Resolved) → slice_get (op_contracts p.types) k ≡ Some f → IsOpContract (length (all_ops p.types)) f
  op_well_formed k f is =
      let made = at_made (op_contract (op_words p.types)) (all_ops p.types) k f is in
      let fine = each_at (λ o. contract_faults (Some (op_words p.types)) false (sentence_of o.contract)) (all_ops p.types) k made.0 (all_typed (op_words p.types) p.types types_typed) made.1 in
      subst (λ n. IsOpContract n f) (length-map (all_ops p.types) (λ o. o.name.word))
      (subst (λ g. IsOpContract (length (op_words p.types)) g) made.2 (op_formed (op_words p.types) (sentence_of made.0.contract) fine))

  -- and that of a transaction
  pub txn_well_formed : (k : ℕ) (f : Resolved) → slice_get (txn_contracts p) k ≡ Some f → IsTxnContract (length (all_ops p.types)) f
  unfolding txn_faults
  txn_well_formed k f is =
      let made = at_made (txn_contract (op_words p.types)) p.txns k f is in
      let fine = right_none (each (op_faults (Some (op_words p.types))) made.0.uses) _ (right_none (repeats [] made.0.uses) _ (txn_typed k made.0 made.1)) in
      subst (λ n. IsTxnContract n f) (length-map (all_ops p.types) (λ o. o.name.word))
      (subst (λ g. IsTxnContract (length (op_words p.types)) g) made.2 (txn_formed (op_words p.types) (sentence_of made.0.contract) fine))
