-- What always holds of a classified program.
use Rattle.std.specs.Prelude.{◌≡◌, List, length}
use Rattle.std.specs.List.{AllZip}
use Rattle.ql_lang.specs.declared.program.Program.{Program}
use Rattle.ql_levels.specs.Lists.{LevelLists}
use Rattle.ql_typing.specs.Operations.{all_ops}
use Rattle.ql_classify.specs.Outcome.{IsAccepted}
use Rattle.ql_classify.specs.Targets.{IsEvidence, goals_at}
use Rattle.ql_classify.specs.declared.evidence.Evidence.{Evidence}

-- a level for each target with its evidence, and no transaction uses a strong operation
pub record IsClassified (p : Program) (levels : LevelLists) (kept : List Evidence) : Type 0 where
  pub ops : length levels.ops ≡ length (all_ops p.types)
  pub txns : length levels.txns ≡ length p.txns
  pub evidence : AllZip (IsEvidence p) (goals_at levels) kept
  pub accepted : IsAccepted p
