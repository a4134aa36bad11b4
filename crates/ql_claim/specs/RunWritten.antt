-- What a reader may quote of `run`.
use Rattle.std.specs.Prelude.{◌≡◌, ℕ, List, ◌++◌, Option, Some}
use Rattle.ql_app.specs.declared.words.PairCommand.TheVariants.{Run}
use Rattle.ql_app.specs.Words.{pair_words}
use Rattle.ql_running.specs.declared.form.Form.{Form}
use Rattle.ql_running.specs.declared.form.Form.TheVariants.{Json}
use Rattle.ql_running.specs.Forms.{IsRunJson, format_of}
use Rattle.ql_running.specs.Runs.{ReportsRun}
use Rattle.ql_report.specs.JsonRuns.{run_data}
use Rattle.serde_json.specs.Read.{read}

-- The arguments are `run NAME OTHER` or `run --json NAME OTHER`, the files hold these bytes, and so much was written before:
-- then a text was appended that shows, in that form, the schedule's run at the source's least levels, in which every contract
-- holds.
abbrev pub WritesRun : List (List ℕ) → (List ℕ → Option (List ℕ)) → Option (List ℕ) → Option (List ℕ) → Type 0
WritesRun words held was is =
    (form : Form) (name other source file before : List ℕ) → words ≡ pair_words (Run form) name other → held name ≡ Some source → held other ≡ Some file → was ≡ Some before
    → (text : List ℕ) × (is ≡ Some (before ++ text)) × ReportsRun (format_of form) source file text

-- The same of `run --json NAME OTHER`: by `serde_json`'s grammar the text that was appended is read as the run's value, with
-- its levels, replies and effects.
abbrev pub WritesJson : List (List ℕ) → (List ℕ → Option (List ℕ)) → Option (List ℕ) → Option (List ℕ) → Type 0
WritesJson words held was is =
    (name other source file before : List ℕ) → words ≡ pair_words (Run Json) name other → held name ≡ Some source → held other ≡ Some file → was ≡ Some before
    → (text : List ℕ) × (is ≡ Some (before ++ text)) × (reported : ReportsRun IsRunJson source file text)
    × (read text ≡ Some (run_data reported.program reported.schedule.objects reported.levels reported.prints.replies reported.prints.last.effects))
