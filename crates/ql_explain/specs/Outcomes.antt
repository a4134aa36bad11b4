-- What is written: for the arguments, what the shelf holds and counts, and a status.
use Rattle.std.specs.Prelude.{◌≡◌, ◌⊎◌, ℕ, ◌<◌, List, ◌++◌, length, Option, Some, None, IfSome, codes}
use Rattle.ql_baseline.specs.Comparison.{BaselineSays}
use Rattle.ql_explain.specs.JsonExplanations.{ExplainJsonSays}
use Rattle.ql_explanation.specs.Explanation.{ExplainSays}
use Rattle.ql_ports.specs.Faults.{Rose}
use Rattle.ql_explain.specs.Words.{Inquiry, Explained, Compared, inquiry}
use Rattle.ql_explain.specs.declared.request.Form.{Form}
use Rattle.ql_explain.specs.declared.request.Form.TheVariants.{Text, Json}
use Rattle.ql_explain.specs.declared.help.TheConstants.{HELP}
use Rattle.ql_reply.specs.Read.{IsRead}
use Rattle.ql_reply.specs.declared.status.Status.{Status}
use Rattle.ql_reply.specs.declared.status.Status.TheVariants.{Done, No, Bad, ReadFault, WriteFault, Usage, TooLarge}

-- what is found of a source, in a form
abbrev pub SaysIn : Form → List ℕ → Status → List ℕ → Type 0
SaysIn Text bytes status text = ExplainSays bytes status text
SaysIn Json bytes status text = ExplainJsonSays bytes status text

-- the most bytes of a file
abbrev pub most_bytes : ℕ
most_bytes = 1048576

-- the files were read whole, in the order of the arguments, and this is said of them
abbrev pub Means : (List ℕ → Option (List ℕ)) → Inquiry → Status → List ℕ → Type 0
Means held (Explained form name) status text = IsRead most_bytes (held name) (λ bytes. SaysIn form bytes status text)
Means held (Compared file name) status text =
    IsRead most_bytes (held file) (λ baseline. IsRead most_bytes (held name) (λ source. BaselineSays source baseline status text))

-- a file that is asked about has this name
abbrev pub IsInquiryFile : Inquiry → List ℕ → Type 0
IsInquiryFile (Explained form name) other = other ≡ name
IsInquiryFile (Compared file name) other = (other ≡ file) ⊎ (other ≡ name)

-- a file that couldn't be read
abbrev pub InquiryUnread : (List ℕ → ℕ) → (List ℕ → ℕ) → Inquiry → List ℕ → Type 0
InquiryUnread before after call text = (name : List ℕ) × IsInquiryFile call name × Rose (before name) (after name) × (text ≡ codes "read fault " ++ name ++ codes "\n")

-- a file with more bytes than the limit, where its shelf reports them
abbrev pub InquiryTooLarge : (List ℕ → Option (List ℕ)) → Inquiry → List ℕ → Type 0
InquiryTooLarge held call text = (name : List ℕ) × IsInquiryFile call name × IfSome (held name) (λ bytes. most_bytes < length bytes) × (text ≡ codes "too large " ++ name ++ codes "\n")

-- what is reported about the files, by the status
abbrev pub ReportsInquiry : (List ℕ → Option (List ℕ)) → (List ℕ → ℕ) → (List ℕ → ℕ) → Inquiry → Status → List ℕ → Type 0
ReportsInquiry held before after call Done text = Means held call Done text
ReportsInquiry held before after call No text = Means held call No text
ReportsInquiry held before after call Bad text = Means held call Bad text
ReportsInquiry held before after call ReadFault text = InquiryUnread before after call text
ReportsInquiry held before after call TooLarge text = InquiryTooLarge held call text
ReportsInquiry held before after call WriteFault text = ⊥
ReportsInquiry held before after call Usage text = ⊥

abbrev pub IsUsage : Status → List ℕ → Type 0
IsUsage status text = (status ≡ Usage) × (text ≡ HELP.now)

-- The text that is to be written with a status. `held` is what the shelf holds under each name, where it reports it, and the
-- counts are those of its faults at each name, before the call and after it.
abbrev pub SaysInquiryOf : (List ℕ → Option (List ℕ)) → (List ℕ → ℕ) → (List ℕ → ℕ) → Option Inquiry → Status → List ℕ → Type 0
SaysInquiryOf held before after None status text = IsUsage status text
SaysInquiryOf held before after (Some call) status text = ReportsInquiry held before after call status text

abbrev pub SaysInquiry : List (List ℕ) → (List ℕ → Option (List ℕ)) → (List ℕ → ℕ) → (List ℕ → ℕ) → Status → List ℕ → Type 0
SaysInquiry words held before after status text = SaysInquiryOf held before after (inquiry words) status text
