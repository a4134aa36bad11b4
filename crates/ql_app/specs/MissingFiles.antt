-- What is reported of files that the shelf lacks.
use Rattle.std.specs.Prelude.{◌⊎◌, ℕ, List}
use Rattle.ql_app.specs.Words.{NamedRequest, OneFile, TwoFiles}
use Rattle.ql_ports.specs.declared.whole.ReadWhy.{ReadWhy}
use Rattle.ql_ports.specs.declared.whole.ReadWhy.TheVariants.{Failed}
use Rattle.ql_reply.specs.Unread.{IsUnread}
use Rattle.ql_reply.specs.declared.status.Status.{Status}

-- a file that the shelf lacks is reported as a read fault: the first, and the second unless the first couldn't be read whole
abbrev pub ReportsMissing : (List ℕ → Type 0) → NamedRequest → Status → List ℕ → Type 0
ReportsMissing Lacks (OneFile command name) status text = Lacks name → IsUnread Failed name status text
ReportsMissing Lacks (TwoFiles command name other) status text =
    (Lacks name → IsUnread Failed name status text)
    × (Lacks other → IsUnread Failed other status text ⊎ ((error : ReadWhy) × IsUnread error name status text))
