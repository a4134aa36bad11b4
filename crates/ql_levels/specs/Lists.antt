-- Levels as two lists.
use Rattle.std.specs.Prelude.{List}
use Rattle.ql_levels.specs.declared.level.Level.{Level}
use Rattle.ql_levels.specs.declared.level.TxnLevel.{TxnLevel}

pub record LevelLists : Type 0 where
  pub ops : List Level
  pub txns : List TxnLevel
