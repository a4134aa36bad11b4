-- The formats in which a run is written.
use Rattle.std.specs.Prelude.{◌≡◌, ℕ, List, Some}
use Rattle.ql_exec.specs.declared.effect.Effect.{Effect}
use Rattle.ql_lang.specs.declared.program.Program.{Program}
use Rattle.ql_levels.specs.Lists.{LevelLists}
use Rattle.ql_machine.specs.declared.reply.Reply.{Reply}
use Rattle.serde_json.specs.Read.{read}
use Rattle.ql_report.specs.JsonRuns.{run_data, run_json}
use Rattle.ql_report.specs.EffectTexts.{HaveValues}
use Rattle.ql_report.specs.RunTexts.{run_text}
use Rattle.ql_running.specs.declared.form.Form.{Form}
use Rattle.ql_running.specs.declared.form.Form.TheVariants.{Text, Json}
use Rattle.ql_running.specs.Runs.{Format}

module _ (p : Program) (objects : List (List ℕ)) (levels : LevelLists) (replies : List Reply) (x : List Effect) (text : List ℕ) where
  -- lines, in which all values are of the grammar
  pub record IsRunText : Type 0 where
    pub written : text ≡ run_text p objects levels replies x
    pub values : HaveValues x

  -- a line of JSON, which is read as the run's value
  pub record IsRunJson : Type 0 where
    pub written : text ≡ run_json p objects levels replies x
    pub again : read text ≡ Some (run_data p objects levels replies x)

abbrev pub format_of : Form → Format
format_of Text = IsRunText
format_of Json = IsRunJson
