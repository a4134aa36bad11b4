-- The arguments ask for one thing only.
use Rattle.std.proofs.Common.{ℕ, List, Result, Ok, Err, rules}
use Rattle.std.specs.Prelude.{IfOk}
use Rattle.ql_base.specs.declared.no_memory.NoMemory.{NoMemory}
use Rattle.ql_app.specs.declared.words.PairCommand.TheVariants.{Check, Verify, Run, Slim, Restart}
use Rattle.ql_running.specs.declared.form.Form.TheVariants.{Text, Json}
use Rattle.ql_app.specs.MissingFiles.{ReportsMissing}
use Rattle.ql_app.specs.Words.{NamedRequest, IsRequest, OneFile, TwoFiles}
use Rattle.ql_reply.specs.declared.ended.Answered.{Answered}
use Rattle.ql_reply.specs.declared.status.Status.{Status}

-- what is reported of the files of one request is reported of those of another with the same arguments
reports : (Lacks : List ℕ → Type 0) (words : List (List ℕ)) (a b : NamedRequest) (status : Status) (text : List ℕ)
    → IsRequest words a → IsRequest words b → ReportsMissing Lacks a status text → ReportsMissing Lacks b status text
reports Lacks words (OneFile command name) b status text is too r = search rules
reports Lacks words (TwoFiles Check name other) b status text is too r = search rules
reports Lacks words (TwoFiles Verify name other) b status text is too r = search rules
reports Lacks words (TwoFiles (Run Text) name other) b status text is too r = search rules
reports Lacks words (TwoFiles (Run Json) name other) b status text is too r = search rules
reports Lacks words (TwoFiles Slim name other) b status text is too r = search rules
reports Lacks words (TwoFiles (Restart replica cut) name other) b status text is too r = search rules

-- and so of an answer, which out of memory isn't there
pub reports_of : (Lacks : List ℕ → Type 0) (words : List (List ℕ)) (a b : NamedRequest) (answer : Result Answered NoMemory)
    → IsRequest words a → IsRequest words b → IfOk answer (λ x. ReportsMissing Lacks a x.reply.status x.reply.text.items) → IfOk answer (λ x. ReportsMissing Lacks b x.reply.status x.reply.text.items)
reports_of Lacks words a b (Ok x) is too r = reports Lacks words a b x.reply.status x.reply.text.items is too r
reports_of Lacks words a b (Err e) is too r = tt
