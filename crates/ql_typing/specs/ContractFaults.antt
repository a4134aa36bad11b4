use Rattle.std.specs.Prelude.{ℕ, Bool, true, false, ◌&&◌, List, [], ◌∷◌, ◌++◌, Option, None, Some, map, drop}
use Rattle.ql_base.specs.Numbering.{has_name}
use Rattle.ql_lang.specs.declared.name.Name.{Name}
use Rattle.ql_lang.specs.declared.contract.Var.{Var}
use Rattle.ql_lang.specs.declared.contract.Point.{Point}
use Rattle.ql_lang.specs.declared.contract.Point.TheVariants.{CurAt, Named}
use Rattle.ql_lang.specs.Trees.{Relation, Basic, Union, Intersection, Proposition, Truth, Application, Conjunction, Disjunction, Implication, InTxn, Sentence}
use Rattle.ql_lang.specs.declared.relation.RelName.{RelName}
use Rattle.ql_lang.specs.declared.relation.RelName.TheVariants.{Hb, Hbo}
use Rattle.ql_typing.specs.declared.fault.TypeFault.{TypeFault}
use Rattle.ql_typing.specs.declared.fault.TypeFault.TheVariants.{Unknown, TxnClosure, Variables, TxnAtom}
use Rattle.ql_typing.specs.Faults.{each, repeats, names_met, unless, where_so}

-- whether a relation is the closure of visibility and session order, on one object or over all
abbrev pub is_closure : RelName → Bool
is_closure Hb = true
is_closure Hbo = true
is_closure _ = false

-- a closure isn't allowed in a transaction's contract
unfoldable pub rel_faults : Bool → Relation → List TypeFault
rel_faults for_txn (Basic name at) = where_so (for_txn && is_closure name) (TxnClosure at)
rel_faults for_txn (Union a b) = rel_faults for_txn a ++ rel_faults for_txn b
rel_faults for_txn (Intersection a b) = rel_faults for_txn a ++ rel_faults for_txn b

-- a term is one of the variables, or the current effect if there is one
unfoldable pub point_faults : Bool → List (List ℕ) → Point → List TypeFault
point_faults for_txn vars (CurAt at) = where_so for_txn (Unknown at)
point_faults for_txn vars (Named n) = unless (has_name vars n.word) (Unknown n.at)

-- what is wrong in a contract's body, with the variables in scope
unfoldable pub prop_faults : Bool → List (List ℕ) → Proposition → List TypeFault
prop_faults for_txn vars Truth = []
prop_faults for_txn vars (Application r x y) = rel_faults for_txn r ++ (point_faults for_txn vars x ++ point_faults for_txn vars y)
prop_faults for_txn vars (Conjunction a b) = prop_faults for_txn vars a ++ prop_faults for_txn vars b
prop_faults for_txn vars (Disjunction a b) = prop_faults for_txn vars a ++ prop_faults for_txn vars b
prop_faults for_txn vars (Implication a b) = prop_faults for_txn vars a ++ prop_faults for_txn vars b
prop_faults for_txn vars (InTxn at members others) =
    unless for_txn (TxnAtom at) ++ (each (point_faults for_txn vars) members ++ each (point_faults for_txn vars) others)

-- whether an operation is known, if only those of a list are
abbrev pub is_known : Option (List (List ℕ)) → List ℕ → Bool
is_known None w = true
is_known (Some known) w = has_name known w

-- an operation that isn't known
unfoldable pub op_faults : Option (List (List ℕ)) → Name → List TypeFault
op_faults known n = unless (is_known known n.word) (Unknown n.at)

-- what is wrong with the operations that a variable names
unfoldable pub choice_faults : Option (List (List ℕ)) → Var → List TypeFault
choice_faults known v = repeats [] v.ops ++ each (op_faults known) v.ops

-- the names of variables
abbrev pub var_names : List Var → List Name
var_names vars = map (λ v. v.name) vars

-- one variable too many
unfoldable pub extra_var : Name → List TypeFault
extra_var n = Variables n.at ∷ []

-- what is wrong in a contract, by the known operations, if only those are allowed
unfoldable pub contract_faults : Option (List (List ℕ)) → Bool → Sentence → List TypeFault
contract_faults known for_txn c =
    repeats [] (var_names c.vars) ++ (each extra_var (drop 5 (var_names c.vars)) ++ (each (choice_faults known) c.vars
    ++ prop_faults for_txn (names_met [] (var_names c.vars)) c.body))
