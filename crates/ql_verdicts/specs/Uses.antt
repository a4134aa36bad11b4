-- The operations that a transaction names, by their numbers.
use Rattle.std.specs.Prelude.{ℕ, ◌≡◌, Some, slice_get}
use Rattle.ql_lang.specs.declared.name.Name.{Name}
use Rattle.ql_lang.specs.declared.program.Program.{Program}
use Rattle.ql_lang.specs.declared.program.TxnDecl.{TxnDecl}
use Rattle.ql_typing.specs.Operations.{op_place}

-- the transaction of a number names the operation of a number, at an index of its list
pub record NamesOp (p : Program) (d o : ℕ) : Type 0 where
  pub txn : TxnDecl
  pub declared : slice_get p.txns d ≡ Some txn
  pub place : ℕ
  pub name : Name
  pub listed : slice_get txn.uses place ≡ Some name
  pub number : op_place p.types name.word ≡ Some o
