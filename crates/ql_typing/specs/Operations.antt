use Rattle.std.specs.Prelude.{ℕ, suc, Bool, false, List, [], ◌∷◌, ◌++◌, Option, Some, map, length, replicate, position, slice_get}
use Rattle.std.specs.List.{flat_map, list_any}
use Rattle.std.specs.Str.{bytes_eq}
use Rattle.ql_lang.specs.declared.operation.OpDecl.{OpDecl}
use Rattle.ql_lang.specs.declared.program.TypeDecl.{TypeDecl}
use Rattle.ql_lang.specs.declared.program.TxnDecl.{TxnDecl}
use Rattle.ql_lang.specs.declared.program.Program.{Program}
use Rattle.ql_lang.specs.Formulas.{Resolved}
use Rattle.ql_lang.specs.Trees.{sentence_of}
use Rattle.ql_typing.specs.Resolved.{resolved_in}

-- the operations of all types, in order: an operation's number is its index here
abbrev pub all_ops : List TypeDecl → List OpDecl
all_ops types = flat_map (λ t. t.ops) types

-- the number of each operation's type, where types are numbered from k on
unfoldable pub kinds_from : ℕ → List TypeDecl → List ℕ
kinds_from k [] = []
kinds_from k (t ∷ ts) = replicate (length t.ops) k ++ kinds_from (suc k) ts

-- the number of each operation's type
abbrev pub op_kinds : List TypeDecl → List ℕ
op_kinds types = kinds_from 0 types

-- the names of all operations, in order
abbrev pub op_words : List TypeDecl → List (List ℕ)
op_words types = map (λ o. o.name.word) (all_ops types)

-- the index of the first operation with a name
abbrev pub op_place : List TypeDecl → List ℕ → Option ℕ
op_place types w = position (λ o. bytes_eq w o.name.word) (all_ops types)

-- an operation's contract with its names resolved, where operations are numbered by a list
abbrev pub op_contract : List (List ℕ) → OpDecl → Resolved
op_contract words o = resolved_in words (sentence_of o.contract)

-- the same for a transaction
abbrev pub txn_contract : List (List ℕ) → TxnDecl → Resolved
txn_contract words d = resolved_in words (sentence_of d.contract)

-- the contracts of all operations, resolved
abbrev pub op_contracts : List TypeDecl → List Resolved
op_contracts types = map (op_contract (op_words types)) (all_ops types)

-- the contracts of all transactions, resolved
abbrev pub txn_contracts : Program → List Resolved
txn_contracts p = map (txn_contract (op_words p.types)) p.txns

-- whether one of the names that a transaction uses is the operation's
abbrev pub names_op : Option TxnDecl → Option OpDecl → Bool
names_op (Some d) (Some o) = list_any (λ n. bytes_eq o.name.word n.word) d.uses
names_op _ _ = false

-- whether the transaction with the number d uses the operation with the number o
abbrev pub uses_op : Program → ℕ → ℕ → Bool
uses_op p d o = names_op (slice_get p.txns d) (slice_get (all_ops p.types) o)
