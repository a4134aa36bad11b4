-- Meeting names only adds to them, and adds no more than there are.
use Rattle.std.proofs.Common.{◌≡◌, ◌≤◌, ◌+◌, ℕ, Bool, true, false, List, [], ◌∷◌, ◌++◌, Option, if◌then◌else◌, length, arith, length-append}
use Rattle.std.specs.List.{flat_map}
use Rattle.std.proofs.lemmas.List.{length-map}
use Rattle.ql_base.specs.Numbering.{has_name, with_name}
use Rattle.ql_lang.specs.declared.name.Name.{Name}
use Rattle.ql_lang.specs.declared.contract.Var.{Var}
use Rattle.ql_lang.specs.Trees.{Sentence}
use Rattle.ql_typing.specs.Faults.{names_met, repeats}
use Rattle.ql_typing.specs.ContractFaults.{contract_faults, extra_var, var_names}
use Rattle.ql_typing.specs.Resolved.{ops_met}
use Rattle.ql_typing.proofs.Parts.{few_each, left_none, right_none}

name_grows : (names : List (List ℕ)) (w : List ℕ) → (length names ≤ length (with_name names w)) × (length (with_name names w) ≤ length names + 1)
name_grows names w = by (has_name names w)
  where
    by : (b : Bool) → (length names ≤ length (if b then names else names ++ w ∷ [])) × (length (if b then names else names ++ w ∷ []) ≤ length names + 1)
    by true = (omega arith, omega arith)
    by false = (omega (arith, length-append names (w ∷ [])), omega (arith, length-append names (w ∷ [])))

pub names_grow : (names : List (List ℕ)) (ns : List Name) → length names ≤ length (names_met names ns)
unfolding names_met
names_grow names [] = omega arith
names_grow names (n ∷ ns) =
    let one = (name_grows names n.word).0 in
    let rest = names_grow (with_name names n.word) ns in
    omega (arith, one, rest)

pub names_few : (names : List (List ℕ)) (ns : List Name) → length (names_met names ns) ≤ length names + length ns
unfolding names_met
names_few names [] = omega arith
names_few names (n ∷ ns) =
    let one = (name_grows names n.word).1 in
    let rest = names_few (with_name names n.word) ns in
    omega (arith, one, rest)

pub ops_grow : (ops : List (List ℕ)) (vs : List Var) → length ops ≤ length (ops_met ops vs)
unfolding ops_met
ops_grow ops [] = omega arith
ops_grow ops (v ∷ vs) =
    let one = names_grow ops v.ops in
    let rest = ops_grow (names_met ops v.ops) vs in
    omega (arith, one, rest)

-- there are at most as many operations more as variables name
pub ops_few : (ops : List (List ℕ)) (vs : List Var) → length (ops_met ops vs) ≤ length ops + length (flat_map (λ v. v.ops) vs)
unfolding ops_met
ops_few ops [] = omega arith
ops_few ops (v ∷ vs) =
    let one = names_few ops v.ops in
    let rest = ops_few (names_met ops v.ops) vs in
    omega (arith, one, rest, length-append v.ops (flat_map (λ (u : Var). u.ops) vs))

-- a contract without faults has few variables
pub few_vars : (known : Option (List (List ℕ))) (for_txn : Bool) (c : Sentence) → contract_faults known for_txn c ≡ [] → length c.vars ≤ 5
unfolding contract_faults extra_var
few_vars known for_txn c typed =
    let few = few_each extra_var (λ x e. cc) 5 (var_names c.vars) (left_none _ _ (right_none (repeats [] (var_names c.vars)) _ typed)) in
    omega (arith, few, length-map c.vars (λ v. v.name))

-- and few names of variables
pub few_names : (vs : List Var) → length vs ≤ 5 → length (names_met [] (var_names vs)) ≤ 5
few_names vs few = omega (arith, few, names_few [] (var_names vs), length-map vs (λ v. v.name))
