-- a call whose files are held and in their grammars is answered with yes or no
use Rattle.std.proofs.Common.{◌≡◌, ◌⊎◌, inl, inr, ℕ, ◌≤◌, List, length, Option, Some, None, Ok, rules, subst, codes}
use Rattle.std.specs.Prelude.{IfSome}
use Rattle.ql_reply.specs.declared.status.Status.{Status}
use Rattle.ql_reply.specs.declared.status.Status.TheVariants.{Done, No, Bad, ReadFault, WriteFault, Usage, TooLarge}
use Rattle.ql_reply.proofs.Replies.{no_usage}
use Rattle.ql_app.specs.declared.outcome.Limits.{Limits}
use Rattle.ql_app.specs.Words.{NamedRequest, OneFile, TwoFiles, IsRequest}
use Rattle.ql_app.specs.Outcome.{AreHeld, CommandSays, ForRequest, IsAnswered, Judges, MeetsFault, MeetsLimit, NoneRose, PairSays, Says, RequestSays, second_limit}
use Rattle.ql_reply.specs.Read.{IsRead}

-- what is read is so of what is held, where that is reported
abbrev IsOfHeld : ℕ → Option (List ℕ) → (List ℕ → Type 0) → Type 0
IsOfHeld limit held P = IfSome held (λ bytes. (length bytes ≤ limit) × P bytes)

of_read : (limit : ℕ) (held : Option (List ℕ)) (P : List ℕ → Type 0) → IsRead limit held P → IsOfHeld limit held P
of_read limit None P r = tt
of_read limit (Some whole) P r = subst (λ (w : List ℕ). (length w ≤ limit) × P w) r.are_held (r.short, r.is_so)

both : (limit second : ℕ) (held other : Option (List ℕ)) (P : List ℕ → List ℕ → Type 0) → IsRead limit held (λ bytes. IsRead second other (λ more. P bytes more))
    → IsOfHeld limit held (λ bytes. IsOfHeld second other (λ more. P bytes more))
both limit second None other P r = tt
both limit second (Some whole) other P r =
    subst (λ (w : List ℕ). (length w ≤ limit) × IsOfHeld second other (λ more. P w more)) r.are_held (r.short, of_read second other (λ more. P r.bytes more) r.is_so)

-- what is said of a call, of what is held alone
abbrev JudgesHeld : Limits → (List ℕ → Option (List ℕ)) → NamedRequest → Status → List ℕ → Type 0
JudgesHeld limits held (OneFile command name) status text = IsOfHeld limits.file (held name) (λ bytes. CommandSays command bytes status text)
JudgesHeld limits held (TwoFiles command name other) status text =
    IsOfHeld limits.file (held name) (λ bytes. IsOfHeld (second_limit limits command) (held other) (λ more. PairSays command bytes more status text))

abbrev ReportsHeld : Limits → (List ℕ → Option (List ℕ)) → (List ℕ → ℕ) → (List ℕ → ℕ) → NamedRequest → Status → List ℕ → Type 0
ReportsHeld limits held before after named Done text = JudgesHeld limits held named Done text
ReportsHeld limits held before after named No text = JudgesHeld limits held named No text
ReportsHeld limits held before after named Bad text = JudgesHeld limits held named Bad text
ReportsHeld limits held before after named ReadFault text = MeetsFault limits held before after named text
ReportsHeld limits held before after named WriteFault text = ⊥
ReportsHeld limits held before after named Usage text = ⊥
ReportsHeld limits held before after named TooLarge text = JudgesHeld limits held named TooLarge text ⊎ MeetsLimit limits held named text

abbrev pub SaysHeld : Limits → List (List ℕ) → (List ℕ → Option (List ℕ)) → (List ℕ → ℕ) → (List ℕ → ℕ) → Status → List ℕ → Type 0
SaysHeld limits words held before after status text =
    ForRequest words (λ named. ReportsHeld limits held before after named status text)
    ⊎ ((status ≡ Usage) × (ForRequest words (λ _. Unit {0}) → ⊥) × (text ≡ codes "usage\n"))

judges_held : (limits : Limits) (held : List ℕ → Option (List ℕ)) (named : NamedRequest) (status : Status) (text : List ℕ) → Judges limits held named status text → JudgesHeld limits held named status text
judges_held limits held (OneFile command name) status text r = of_read limits.file (held name) (λ bytes. CommandSays command bytes status text) r
judges_held limits held (TwoFiles command name other) status text r =
    both limits.file (second_limit limits command) (held name) (held other) (λ bytes more. PairSays command bytes more status text) r

reports_held : (limits : Limits) (held : List ℕ → Option (List ℕ)) (before after : List ℕ → ℕ) (named : NamedRequest) (status : Status) (text : List ℕ)
    → RequestSays limits held before after named status text → ReportsHeld limits held before after named status text
reports_held limits held before after named Done text t = judges_held limits held named Done text t
reports_held limits held before after named No text t = judges_held limits held named No text t
reports_held limits held before after named Bad text t = judges_held limits held named Bad text t
reports_held limits held before after named ReadFault text t = t
reports_held limits held before after named WriteFault text t = t
reports_held limits held before after named Usage text t = t
reports_held limits held before after named TooLarge text (inl t) = inl (judges_held limits held named TooLarge text t)
reports_held limits held before after named TooLarge text (inr t) = inr t

pub says_held : (limits : Limits) (words : List (List ℕ)) (held : List ℕ → Option (List ℕ)) (before after : List ℕ → ℕ) (status : Status) (text : List ℕ)
    → Says limits words held before after status text → SaysHeld limits words held before after status text
says_held limits words held before after status text (inl (named, request, t)) = inl (named, request, reports_held limits held before after named status text t)
says_held limits words held before after status text (inr u) = inr u

pub complete : (limits : Limits) (words : List (List ℕ)) (held : List ℕ → Option (List ℕ)) (before after : List ℕ → ℕ) (status : Status) (text : List ℕ) (named : NamedRequest)
    → IsRequest words named → AreHeld limits held named → NoneRose before after named → SaysHeld limits words held before after status text → IsAnswered (Ok status)
complete limits words held before after status text named request are_held none says = search rules

-- nothing is to be written with the status of a write fault
pub never : (limits : Limits) (words : List (List ℕ)) (held : List ℕ → Option (List ℕ)) (before after : List ℕ → ℕ) (text : List ℕ) → Says limits words held before after WriteFault text → ⊥
never limits words held before after text (inl (named, request, says)) = says
never limits words held before after text (inr (same, none, is)) = no_usage same
