-- A classified program as its users see it: its declarations, and the level of each target.
use Rattle.ql_lang.specs.declared.program.Program.{Program}
use Rattle.ql_levels.specs.Lists.{LevelLists}

pub record Classification : Type 0 where
  pub program : Program
  pub levels : LevelLists
