-- The rules of the written machine at a store's levels.
use Rattle.std.specs.Prelude.{◌≡◌, Bool, length, slice_index_or}
use Rattle.ql_base.specs.declared.ids.DeclId.{DeclId}
use Rattle.ql_base.specs.declared.ids.OpId.{OpId}
use Rattle.ql_lang.specs.declared.program.Program.{Program}
use Rattle.ql_levels.specs.declared.level.Level.TheVariants.{Strong}
use Rattle.ql_levels.specs.declared.level.TxnLevel.TheVariants.{Rr}
use Rattle.ql_levels.specs.Lists.{LevelLists}
use Rattle.ql_typing.specs.Operations.{all_ops, uses_op}
use Rattle.ql_machine.specs.Rules.{Promises}

-- what a store guarantees at some levels; numbers out of range have the highest level
abbrev pub promises_of : LevelLists → Promises
promises_of levels = record {
  level = λ op. slice_index_or levels.ops op.0 Strong;
  txn_level = λ decl. slice_index_or levels.txns decl.0 Rr;
}

-- there is a level for each operation and each declared transaction of a program
pub record HasLevelOfEach (p : Program) (levels : LevelLists) : Type 0 where
  pub ops : length levels.ops ≡ length (all_ops p.types)
  pub txns : length levels.txns ≡ length p.txns

-- the operations that a program's transactions use
abbrev pub uses_of : Program → DeclId → OpId → Bool
uses_of p decl op = uses_op p decl.0 op.0
