-- The first line of a holds file, and the rules that its contract may break.
use Rattle.std.specs.Prelude.{ℕ, Bool, true, false, ◌||◌, List, [], ◌∷◌, Option, None, Some, codes, if◌then◌else◌}
use Rattle.std.specs.List.{list_any}
use Rattle.ql_lines.specs.Fields.{FirstField}
use Rattle.ql_lang.specs.Trees.{Sentence}
use Rattle.ql_parse.specs.Parsing.{IsContractText}
use Rattle.ql_typing.specs.declared.fault.TypeFault.{TypeFault}
use Rattle.ql_typing.specs.declared.fault.TypeFault.TheVariants as typing
use Rattle.ql_typing.specs.ContractFaults.{choice_faults, contract_faults, prop_faults, var_names}
use Rattle.ql_typing.specs.Faults.{each, names_met}
use Rattle.ql_holds_files.specs.declared.rules.HoldsRule.{HoldsRule}
use Rattle.ql_holds_files.specs.declared.rules.HoldsRule.TheVariants.{Unknown, Twice, TxnAtom, Variables}

-- the word `contract`, and then a contract
pub record IsContractLine (text : List ℕ) (c : Sentence) : Type 0 where
  pub rest : List ℕ
  pub first : FirstField text (codes "contract") rest
  pub contract : IsContractText rest c

-- the faults of a contract that may name any operations, and may not use transactions
abbrev pub sentence_faults : Sentence → List TypeFault
sentence_faults c = contract_faults None false c

abbrev pub is_unknown_name : TypeFault → Bool
is_unknown_name (typing.Unknown at) = true
is_unknown_name _ = false

abbrev pub is_repeat : TypeFault → Bool
is_repeat (typing.Twice at) = true
is_repeat _ = false

abbrev pub is_txn_atom : TypeFault → Bool
is_txn_atom (typing.TxnAtom at) = true
is_txn_atom _ = false

-- The lowest rule that faults of such a contract break, wherever they are. Only these four can be broken.
unfoldable pub lowest_rule : List TypeFault → Option HoldsRule
lowest_rule [] = None
lowest_rule (f ∷ fs) =
    Some (if list_any is_unknown_name (f ∷ fs) then Unknown
    else (if list_any is_repeat (f ∷ fs) then Twice
    else (if list_any is_txn_atom (f ∷ fs) then TxnAtom else Variables)))

-- The lowest rule that such a contract breaks where it binds each variable that it uses; whether a variable repeats another
-- is given.
abbrev pub rule_of_bound : Bool → Sentence → HoldsRule
rule_of_bound twice c =
    if twice || list_any is_repeat (each (choice_faults None) c.vars) then Twice
    else (if list_any is_txn_atom (prop_faults false (names_met [] (var_names c.vars)) c.body) then TxnAtom else Variables)
