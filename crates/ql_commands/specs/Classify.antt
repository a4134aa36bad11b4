-- What `classify` says of a source.
use Rattle.std.specs.Prelude.{◌≡◌, ℕ, List}
use Rattle.ql_lang.specs.declared.program.Program.{Program}
use Rattle.ql_levels.specs.Lists.{LevelLists}
use Rattle.ql_report.specs.Levels.{levels_text}
use Rattle.ql_reply.specs.declared.status.Status.{Status}
use Rattle.ql_reply.specs.declared.status.Status.TheVariants.{Done, No, Bad}
use Rattle.ql_commands.specs.Sources.{IsSourceOf, BadSourceSays}
use Rattle.ql_classify.specs.Least.{AreLevelsOf}
use Rattle.ql_commands.specs.Levels.{RefusalSays}

abbrev pub ClassifySays : List ℕ → Status → List ℕ → Type 0
ClassifySays bytes Done text = (p : Program) × IsSourceOf bytes p × (levels : LevelLists) × AreLevelsOf p levels × (text ≡ levels_text p levels)
ClassifySays bytes No text = (p : Program) × IsSourceOf bytes p × RefusalSays p text
ClassifySays bytes Bad text = BadSourceSays bytes text
ClassifySays bytes _ text = ⊥
