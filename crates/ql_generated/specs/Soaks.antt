-- What `soak` says of a source.
use Rattle.std.specs.Prelude.{ℕ, List}
use Rattle.ql_reply.specs.declared.status.Status.{Status}
use Rattle.ql_reply.specs.declared.status.Status.TheVariants.{Done, No, Bad}
use Rattle.ql_classify.specs.Least.{AreLevelsOf}
use Rattle.ql_commands.specs.Levels.{RefusalSays}
use Rattle.ql_commands.specs.Sources.{BadSourceSays, IsSourceOf}
use Rattle.ql_gen.specs.Generated.{generated}
use Rattle.ql_lang.specs.declared.program.Program.{Program}
use Rattle.ql_levels.specs.Lists.{LevelLists}
use Rattle.ql_running.specs.Runs.{PrintsRun}
use Rattle.ql_generated.specs.Summaries.{IsSummary}

-- The summary of the run of the number's schedule, with 4000 events, at the least levels of the source's program; in its
-- execution every contract holds.
pub record ReportsSoak (source : List ℕ) (number : ℕ) (text : List ℕ) : Type 0 where
  pub program : Program
  pub levels : LevelLists
  pub is_source : IsSourceOf source program
  pub are_least : AreLevelsOf program levels
  pub prints : PrintsRun IsSummary program levels (generated program number 4000) text

abbrev pub SoakSays : List ℕ → ℕ → Status → List ℕ → Type 0
SoakSays source number Done text = ReportsSoak source number text
SoakSays source number No text = (p : Program) × IsSourceOf source p × RefusalSays p text
SoakSays source number Bad text = BadSourceSays source text
SoakSays source number _ text = ⊥
