-- which rules the faults of a contract break
use Rattle.std.proofs.Common.{◌≡◌, ℕ, Bool, true, false, ◌||◌, List, [], ◌∷◌, ◌++◌, None, Some, Result, Ok, Err, IfOk, drop, refl, ap, sym, ◌∙◌}
use Rattle.std.specs.Prelude.{if◌then◌else◌}
use Rattle.std.specs.List.{list_any}
use Rattle.std.proofs.lemmas.List.Folds.{list_any-append}
use Rattle.ql_base.specs.Numbering.{has_name, with_name}
use Rattle.ql_base.specs.declared.no_memory.NoMemory.{NoMemory}
use Rattle.ql_lang.specs.declared.name.Name.{Name}
use Rattle.ql_lang.specs.declared.contract.Var.{Var}
use Rattle.ql_lang.specs.declared.contract.Point.{Point}
use Rattle.ql_lang.specs.declared.contract.Point.TheVariants.{CurAt, Named}
use Rattle.ql_lang.specs.Trees.{Relation, Basic, Union, Intersection, Proposition, Truth, Application, Conjunction, Disjunction, Implication, InTxn, Sentence}
use Rattle.ql_typing.specs.declared.fault.TypeFault.{TypeFault}
use Rattle.ql_typing.specs.declared.fault.TypeFault.TheVariants as typing
use Rattle.ql_typing.specs.Faults.{IsRefusal, each, first_fault, names_met, repeats, unless, where_so}
use Rattle.ql_typing.specs.ContractFaults.{choice_faults, contract_faults, extra_var, op_faults, point_faults, prop_faults, rel_faults, var_names}
use Rattle.ql_holds_files.specs.declared.rules.HoldsRule.{HoldsRule}
use Rattle.ql_holds_files.specs.declared.rules.HoldsRule.TheVariants.{Unknown, Twice, TxnAtom, Variables}
use Rattle.ql_holds_files.specs.ContractLine.{sentence_faults, is_repeat, is_txn_atom, is_unknown_name, lowest_rule, rule_of_bound}

pub unknown_either : (xs ys : List TypeFault) → list_any is_unknown_name (xs ++ ys) ≡ (list_any is_unknown_name xs || list_any is_unknown_name ys)
unknown_either xs ys = list_any-append is_unknown_name xs ys

pub txn_either : (xs ys : List TypeFault) → list_any is_txn_atom (xs ++ ys) ≡ (list_any is_txn_atom xs || list_any is_txn_atom ys)
txn_either xs ys = list_any-append is_txn_atom xs ys

module _ (p : TypeFault → Bool) where
  -- of the faults of items one is such where it is for some item
  pub any_each : {A : Type 0} (faults : A → List TypeFault) (xs : List A) → list_any p (each faults xs) ≡ list_any (λ x. list_any p (faults x)) xs
  unfolding each
  any_each faults [] = refl
  any_each faults (x ∷ xs) = list_any-append p (faults x) (each faults xs) ∙ ap (λ b. list_any p (faults x) || b) (any_each faults xs)

  none_each : {A : Type 0} (faults : A → List TypeFault) → ((x : A) → list_any p (faults x) ≡ false) → (xs : List A) → list_any p (each faults xs) ≡ false
  unfolding each
  none_each faults none [] = refl
  none_each faults none (x ∷ xs) = list_any-append p (faults x) (each faults xs) ∙ rw (none x) (none_each faults none xs)

  any_of_two : (xs ys : List TypeFault) (b : Bool) → list_any p xs ≡ false → list_any p ys ≡ b → list_any p (xs ++ ys) ≡ b
  any_of_two xs ys b none some = list_any-append p xs ys ∙ rw none some

-- the first item decides where it has such a fault, and else the others do
module _ (p : TypeFault → Bool) {A : Type 0} (faults : A → List TypeFault) where
  pub any_here : (x : A) (xs : List A) → list_any p (faults x) ≡ true → list_any p (each faults (x ∷ xs)) ≡ true
  unfolding each
  any_here x xs e = list_any-append p (faults x) (each faults xs) ∙ rw e refl

  pub any_after : (x : A) (xs : List A) → list_any p (faults x) ≡ false → list_any p (each faults (x ∷ xs)) ≡ list_any p (each faults xs)
  unfolding each
  any_after x xs e = list_any-append p (faults x) (each faults xs) ∙ rw e refl

  pub any_nowhere : list_any p (each faults []) ≡ false
  unfolding each
  any_nowhere = refl

-- ---- names that repeat others

no_unknown_repeat : (before : List (List ℕ)) (ns : List Name) → list_any is_unknown_name (repeats before ns) ≡ false
unfolding repeats
no_unknown_repeat before [] = refl
no_unknown_repeat before (n ∷ ns) =
    let rest = no_unknown_repeat (with_name before n.word) ns in
    let P : Bool → Type 0 = λ t. list_any is_unknown_name (where_so t (typing.Twice n.at) ++ repeats (with_name before n.word) ns) ≡ false in
    elim (has_name before n.word) as P [ true ↦ rest | false ↦ rest ]

no_txn_repeat : (before : List (List ℕ)) (ns : List Name) → list_any is_txn_atom (repeats before ns) ≡ false
unfolding repeats
no_txn_repeat before [] = refl
no_txn_repeat before (n ∷ ns) =
    let rest = no_txn_repeat (with_name before n.word) ns in
    let P : Bool → Type 0 = λ t. list_any is_txn_atom (where_so t (typing.Twice n.at) ++ repeats (with_name before n.word) ns) ≡ false in
    elim (has_name before n.word) as P [ true ↦ rest | false ↦ rest ]

-- one more name
pub twice_repeat : (before : List (List ℕ)) (n : Name) (ns : List Name) → list_any is_repeat (repeats before (n ∷ ns)) ≡ (has_name before n.word || list_any is_repeat (repeats (with_name before n.word) ns))
unfolding repeats
twice_repeat before n ns =
    let rest = repeats (with_name before n.word) ns in
    let P : Bool → Type 0 = λ t. list_any is_repeat (where_so t (typing.Twice n.at) ++ rest) ≡ (t || list_any is_repeat rest) in
    elim (has_name before n.word) as P [ true ↦ refl | false ↦ refl ]

-- ---- operations, of which any may be named

no_op : (xs : List Name) → each (op_faults None) xs ≡ []
unfolding each op_faults
no_op [] = refl
no_op (x ∷ xs) = no_op xs

pub choice_is : (v : Var) → choice_faults None v ≡ repeats [] v.ops
unfolding choice_faults
choice_is v = rw (no_op v.ops) (append-none (repeats [] v.ops))
  where
    append-none : (fs : List TypeFault) → fs ++ [] ≡ fs
    append-none [] = refl
    append-none (f ∷ fs) = ap (λ r. f ∷ r) (append-none fs)

no_unknown_choice : (v : Var) → list_any is_unknown_name (choice_faults None v) ≡ false
no_unknown_choice v = ap (list_any is_unknown_name) (choice_is v) ∙ no_unknown_repeat [] v.ops

no_txn_choice : (v : Var) → list_any is_txn_atom (choice_faults None v) ≡ false
no_txn_choice v = ap (list_any is_txn_atom) (choice_is v) ∙ no_txn_repeat [] v.ops

no_unknown_extra : (n : Name) → list_any is_unknown_name (extra_var n) ≡ false
unfolding extra_var
no_unknown_extra n = refl

no_txn_extra : (n : Name) → list_any is_txn_atom (extra_var n) ≡ false
unfolding extra_var
no_txn_extra n = refl

no_twice_extra : (n : Name) → list_any is_repeat (extra_var n) ≡ false
unfolding extra_var
no_twice_extra n = refl

-- ---- the body

-- an operation's contract may name each relation
pub no_relation : (r : Relation) → rel_faults false r ≡ []
unfolding rel_faults
no_relation (Basic name at) = refl
no_relation (Union r s) = rw (no_relation r, no_relation s) refl
no_relation (Intersection r s) = rw (no_relation r, no_relation s) refl

module _ (vars : List (List ℕ)) where
  no_twice_point : (x : Point) → list_any is_repeat (point_faults false vars x) ≡ false
  unfolding point_faults
  no_twice_point (CurAt at) = refl
  no_twice_point (Named n) =
      let P : Bool → Type 0 = λ t. list_any is_repeat (unless t (typing.Unknown n.at)) ≡ false in
      elim (has_name vars n.word) as P [ true ↦ refl | false ↦ refl ]

  pub no_txn_point : (x : Point) → list_any is_txn_atom (point_faults false vars x) ≡ false
  unfolding point_faults
  no_txn_point (CurAt at) = refl
  no_txn_point (Named n) =
      let P : Bool → Type 0 = λ t. list_any is_txn_atom (unless t (typing.Unknown n.at)) ≡ false in
      elim (has_name vars n.word) as P [ true ↦ refl | false ↦ refl ]

  no_twice_prop : (q : Proposition) → list_any is_repeat (prop_faults false vars q) ≡ false
  unfolding prop_faults
  no_twice_prop Truth = refl
  no_twice_prop (Application r x y) =
      any_of_two is_repeat (rel_faults false r) _ false (ap (list_any is_repeat) (no_relation r))
      (any_of_two is_repeat (point_faults false vars x) (point_faults false vars y) false (no_twice_point x) (no_twice_point y))
  no_twice_prop (Conjunction a b) = any_of_two is_repeat (prop_faults false vars a) (prop_faults false vars b) false (no_twice_prop a) (no_twice_prop b)
  no_twice_prop (Disjunction a b) = any_of_two is_repeat (prop_faults false vars a) (prop_faults false vars b) false (no_twice_prop a) (no_twice_prop b)
  no_twice_prop (Implication a b) = any_of_two is_repeat (prop_faults false vars a) (prop_faults false vars b) false (no_twice_prop a) (no_twice_prop b)
  no_twice_prop (InTxn at members others) =
      any_of_two is_repeat (each (point_faults false vars) members) (each (point_faults false vars) others) false
      (none_each is_repeat (point_faults false vars) no_twice_point members) (none_each is_repeat (point_faults false vars) no_twice_point others)

  pub txn_application : (r : Relation) (x y : Point) → list_any is_txn_atom (prop_faults false vars (Application r x y)) ≡ false
  unfolding prop_faults
  txn_application r x y =
      any_of_two is_txn_atom (rel_faults false r) _ false (ap (list_any is_txn_atom) (no_relation r))
      (any_of_two is_txn_atom (point_faults false vars x) (point_faults false vars y) false (no_txn_point x) (no_txn_point y))

  pub unknown_application : (r : Relation) (x y : Point) → list_any is_unknown_name (prop_faults false vars (Application r x y)) ≡ (list_any is_unknown_name (point_faults false vars x) || list_any is_unknown_name (point_faults false vars y))
  unfolding prop_faults
  unknown_application r x y =
      any_of_two is_unknown_name (rel_faults false r) _ _ (ap (list_any is_unknown_name) (no_relation r)) (list_any-append is_unknown_name (point_faults false vars x) (point_faults false vars y))

-- ---- the whole contract

module _ (c : Sentence) where
  pub any_unknown : list_any is_unknown_name (sentence_faults c) ≡ list_any is_unknown_name (prop_faults false (names_met [] (var_names c.vars)) c.body)
  unfolding contract_faults
  any_unknown =
      any_of_two is_unknown_name (repeats [] (var_names c.vars)) _ _ (no_unknown_repeat [] (var_names c.vars))
      (any_of_two is_unknown_name (each extra_var (drop 5 (var_names c.vars))) _ _ (none_each is_unknown_name extra_var no_unknown_extra (drop 5 (var_names c.vars)))
      (any_of_two is_unknown_name (each (choice_faults None) c.vars) _ _ (none_each is_unknown_name (choice_faults None) no_unknown_choice c.vars) refl))

  pub any_txn_atom : list_any is_txn_atom (sentence_faults c) ≡ list_any is_txn_atom (prop_faults false (names_met [] (var_names c.vars)) c.body)
  unfolding contract_faults
  any_txn_atom =
      any_of_two is_txn_atom (repeats [] (var_names c.vars)) _ _ (no_txn_repeat [] (var_names c.vars))
      (any_of_two is_txn_atom (each extra_var (drop 5 (var_names c.vars))) _ _ (none_each is_txn_atom extra_var no_txn_extra (drop 5 (var_names c.vars)))
      (any_of_two is_txn_atom (each (choice_faults None) c.vars) _ _ (none_each is_txn_atom (choice_faults None) no_txn_choice c.vars) refl))

  or_none : (b : Bool) → (b || false) ≡ b
  or_none true = refl
  or_none false = refl

  pub any_twice : list_any is_repeat (sentence_faults c) ≡ (list_any is_repeat (repeats [] (var_names c.vars)) || list_any is_repeat (each (choice_faults None) c.vars))
  unfolding contract_faults
  any_twice =
      let vars = var_names c.vars in
      let body = prop_faults false (names_met [] vars) c.body in
      let choices = each (choice_faults None) c.vars in
      list_any-append is_repeat (repeats [] vars) _
      ∙ ap (λ b. list_any is_repeat (repeats [] vars) || b)
      (any_of_two is_repeat (each extra_var (drop 5 vars)) (choices ++ body) _ (none_each is_repeat extra_var no_twice_extra (drop 5 vars))
      (list_any-append is_repeat choices body ∙ ap (λ b. list_any is_repeat choices || b) (no_twice_prop (names_met [] vars) c.body) ∙ or_none (list_any is_repeat choices)))

-- ---- the lowest rule

lowest_is : (fs : List TypeFault) → (fs ≡ [] → ⊥)
    → lowest_rule fs ≡ Some (if list_any is_unknown_name fs then Unknown else (if list_any is_repeat fs then Twice else (if list_any is_txn_atom fs then TxnAtom else Variables)))
unfolding lowest_rule
lowest_is [] some = absurd (some refl)
lowest_is (f ∷ fs) some = refl

module _ (c : Sentence) (some : sentence_faults c ≡ [] → ⊥) where
  abbrev unknown_in : Bool
  unknown_in = list_any is_unknown_name (prop_faults false (names_met [] (var_names c.vars)) c.body)

  abbrev repeat_in : Bool
  repeat_in = list_any is_repeat (repeats [] (var_names c.vars))

  abbrev twice_in : Bool
  twice_in = repeat_in || list_any is_repeat (each (choice_faults None) c.vars)

  abbrev txn_in : Bool
  txn_in = list_any is_txn_atom (prop_faults false (names_met [] (var_names c.vars)) c.body)

  lowest : lowest_rule (sentence_faults c) ≡ Some (if unknown_in then Unknown else (if twice_in then Twice else (if txn_in then TxnAtom else Variables)))
  lowest =
      lowest_is (sentence_faults c) some
      ∙ ap (λ b. Some (if b then Unknown else (if list_any is_repeat (sentence_faults c) then Twice else (if list_any is_txn_atom (sentence_faults c) then TxnAtom else Variables)))) (any_unknown c)
      ∙ ap (λ b. Some (if unknown_in then Unknown else (if b then Twice else (if list_any is_txn_atom (sentence_faults c) then TxnAtom else Variables)))) (any_twice c)
      ∙ ap (λ b. Some (if unknown_in then Unknown else (if twice_in then Twice else (if b then TxnAtom else Variables)))) (any_txn_atom c)

  -- from what is computed of the variables
  module _ (items : List Var) (is_items : items ≡ c.vars) (names : List (List ℕ)) (are_names : names ≡ names_met [] (var_names items)) where
    unknown_is : (b t : Bool) → b ≡ list_any is_unknown_name (prop_faults false names c.body) → b ≡ t → unknown_in ≡ t
    unknown_is b t e f =
        sym (e ∙ ap (λ (ns : List (List ℕ)). list_any is_unknown_name (prop_faults false ns c.body)) (are_names ∙ ap (λ (vs : List Var). names_met [] (var_names vs)) is_items)) ∙ f

    pub lowest_unknown : (b : Bool) → b ≡ list_any is_unknown_name (prop_faults false names c.body) → b ≡ true → lowest_rule (sentence_faults c) ≡ Some Unknown
    lowest_unknown b e f = lowest ∙ rw (unknown_is b true e f) refl

    module _ (b : Bool) (e : b ≡ list_any is_unknown_name (prop_faults false names c.body)) (f : b ≡ false) (twice : Bool) (is_twice : twice ≡ list_any is_repeat (repeats [] (var_names items))) where
      bound : lowest_rule (sentence_faults c) ≡ Some (rule_of_bound twice c)
      bound =
          lowest ∙ ap (λ (u : Bool). Some (if u then Unknown else rule_of_bound repeat_in c)) (unknown_is b false e f)
          ∙ ap (λ (t : Bool). Some (rule_of_bound t c)) (sym (is_twice ∙ ap (λ (vs : List Var). list_any is_repeat (repeats [] (var_names vs))) is_items))

      pub lowest_bound : (r : Result HoldsRule NoMemory) → IfOk r (λ rule. rule ≡ rule_of_bound twice c) → IfOk r (λ rule. lowest_rule (sentence_faults c) ≡ Some rule)
      lowest_bound (Ok rule) is = bound ∙ ap (λ (k : HoldsRule). Some k) (sym is)
      lowest_bound (Err fault) is = tt

-- ---- what typing refuses has faults

nothing_first : (f : TypeFault) → first_fault [] ≡ Some f → ⊥
unfolding first_fault
nothing_first f e = cc

some_first : (fs : List TypeFault) (f : TypeFault) → first_fault fs ≡ Some f → fs ≡ [] → ⊥
some_first fs f e none = nothing_first f (sym (ap first_fault none) ∙ e)

pub has_faults : (fs : List TypeFault) (f : TypeFault) → IsRefusal fs f → (f ≡ typing.NoMemory → ⊥) → fs ≡ [] → ⊥
unfolding IsRefusal
has_faults fs (typing.Unknown at) h other = some_first fs (typing.Unknown at) h
has_faults fs (typing.Twice at) h other = some_first fs (typing.Twice at) h
has_faults fs (typing.Kind at) h other = some_first fs (typing.Kind at) h
has_faults fs (typing.TooMany at) h other = some_first fs (typing.TooMany at) h
has_faults fs (typing.TxnClosure at) h other = some_first fs (typing.TxnClosure at) h
has_faults fs (typing.Variables at) h other = some_first fs (typing.Variables at) h
has_faults fs (typing.TxnAtom at) h other = some_first fs (typing.TxnAtom at) h
has_faults fs typing.NoMemory h other = absurd (other refl)
