-- Names that have a spelling.
use Rattle.std.specs.List.{AllByRecursion}
use Rattle.ql_base.specs.Names.{IsName}
use Rattle.ql_lang.specs.declared.program.Program.{Program}
use Rattle.ql_typing.specs.Operations.{all_ops}

-- the names of a program's targets can stand in a certificate, and those of its types in a schedule
pub record HasNames (p : Program) : Type 0 where
  pub types : AllByRecursion (λ type. IsName type.name.word) p.types
  pub ops : AllByRecursion (λ op. IsName op.name.word) (all_ops p.types)
  pub txns : AllByRecursion (λ txn. IsName txn.name.word) p.txns
