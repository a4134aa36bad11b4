-- The texts that report why a program has no levels.
use Rattle.std.specs.Prelude.{ℕ, suc, Bool, List, [], ◌++◌, length, slice_get, codes}
use Rattle.std.specs.Option.{option_map_or}
use Rattle.ql_lang.specs.declared.contract.Var.{Var}
use Rattle.ql_lang.specs.declared.program.Program.{Program}
use Rattle.ql_typing.specs.Operations.{all_ops}
use Rattle.ql_typing.specs.Names.{op_name, txn_name}
use Rattle.ql_report.specs.Atoms.{Reported, atoms_line}

-- the variables of a contract
abbrev pub op_vars : Program → ℕ → List Var
op_vars p o = option_map_or (λ op. op.contract.vars) (slice_get (all_ops p.types) o) []

abbrev pub txn_vars : Program → ℕ → List Var
txn_vars p d = option_map_or (λ txn. txn.contract.vars) (slice_get p.txns d) []

-- An operation's problem has the contract's variables and the current effect as constants, a transaction's the variables.
abbrev pub op_reported : Program → ℕ → List Bool → Reported
op_reported p o values = record {
  program = p;
  vars = op_vars p o;
  size = record { constants = suc (length (op_vars p o)); operations = length (all_ops p.types) };
  values = values;
}

abbrev pub txn_reported : Program → ℕ → List Bool → Reported
txn_reported p d values = record {
  program = p;
  vars = txn_vars p d;
  size = record { constants = length (txn_vars p d); operations = length (all_ops p.types) };
  values = values;
}

-- no level is enough for the operation, or for the transaction, as the assignment shows
abbrev pub none_op_text : Program → ℕ → List Bool → List ℕ
none_op_text p o values = codes "none op " ++ op_name p o ++ codes "\n" ++ atoms_line (op_reported p o values)

abbrev pub none_txn_text : Program → ℕ → List Bool → List ℕ
none_txn_text p d values = codes "none txn " ++ txn_name p d ++ codes "\n" ++ atoms_line (txn_reported p d values)

-- the transaction uses the operation, which is strong
abbrev pub strong_text : Program → ℕ → ℕ → List ℕ
strong_text p d o = codes "strong " ++ op_name p o ++ codes " in " ++ txn_name p d ++ codes "\n"
