use Rattle.std.specs.Prelude.{ℕ, List, Option, position}
use Rattle.std.specs.Str.{bytes_eq}
use Rattle.ql_lang.specs.declared.program.TypeDecl.{TypeDecl}
use Rattle.ql_lang.specs.declared.program.TxnDecl.{TxnDecl}

-- the index of the first type with a name
abbrev pub type_place : List TypeDecl → List ℕ → Option ℕ
type_place types w = position (λ t. bytes_eq w t.name.word) types

-- the index of the first transaction with a name
abbrev pub txn_place : List TxnDecl → List ℕ → Option ℕ
txn_place txns w = position (λ d. bytes_eq w d.name.word) txns
