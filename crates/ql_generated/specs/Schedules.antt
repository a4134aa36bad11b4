-- What `gen` says of a source.
use Rattle.std.specs.Prelude.{◌≡◌, ℕ, List}
use Rattle.ql_reply.specs.declared.status.Status.{Status}
use Rattle.ql_reply.specs.declared.status.Status.TheVariants.{Done, Bad}
use Rattle.ql_commands.specs.Sources.{BadSourceSays, IsSourceOf}
use Rattle.ql_gen.specs.Generated.{generated}
use Rattle.ql_lang.specs.declared.program.Program.{Program}
use Rattle.ql_lines.specs.Texts.{file_text}
use Rattle.ql_schedule.specs.Texts.{schedule_lines}

-- the text of the schedule of a number, with this number of events, of the source's program
pub record ReportsSchedule (source : List ℕ) (number events : ℕ) (text : List ℕ) : Type 0 where
  pub program : Program
  pub is_source : IsSourceOf source program
  pub printed : text ≡ file_text (schedule_lines program (generated program number events))

abbrev pub GenSays : List ℕ → ℕ → ℕ → Status → List ℕ → Type 0
GenSays source number events Done text = ReportsSchedule source number events text
GenSays source number events Bad text = BadSourceSays source text
GenSays source number events _ text = ⊥
