-- What is said of the files that words name, from what is said of each.
use Rattle.std.proofs.Common.{◌≡◌, ℕ, ◌<◌, ◌≤◌, List, length, Option, Some, None, Result, Ok, Err, sym, subst}
use Rattle.std.specs.Prelude.{IfOk, IfSome}
use Rattle.ql_base.specs.declared.no_memory.NoMemory.{NoMemory}
use Rattle.ql_ports.specs.Faults.{Rose}
use Rattle.ql_ports.specs.declared.whole.ReadWhy.{ReadWhy}
use Rattle.ql_ports.specs.declared.whole.ReadWhy.TheVariants.{Failed, TooLong}
use Rattle.ql_baseline.specs.Comparison.{BaselineSays}
use Rattle.ql_explain.specs.Outcomes.{IsInquiryFile, Means, SaysIn, SaysInquiryOf, ReportsInquiry, most_bytes}
use Rattle.ql_reply.specs.declared.ended.Answered.{Answered}
use Rattle.ql_reply.specs.Read.{IsRead}
use Rattle.ql_reply.specs.Unread.{IsUnread}
use Rattle.ql_reply.proofs.Replies.{answer_unread, no_usage, rose_before}
use Rattle.ql_explain.specs.Words.{Inquiry, Explained, Compared}
use Rattle.ql_explain.specs.declared.request.Form.{Form}
use Rattle.ql_explain.specs.declared.request.Form.TheVariants.{Text, Json}
use Rattle.ql_reply.specs.declared.status.Status.{Status}
use Rattle.ql_reply.specs.declared.status.Status.TheVariants.{Done, No, Bad, ReadFault, WriteFault, Usage, TooLarge}

-- yes, no, or a bad file
abbrev IsAnswered : Status → Type 0
IsAnswered Done = Unit {0}
IsAnswered No = Unit {0}
IsAnswered Bad = Unit {0}
IsAnswered _ = ⊥

source_answered : (form : Form) (bytes : List ℕ) (status : Status) (text : List ℕ) → SaysIn form bytes status text → IsAnswered status
source_answered form bytes Done text says = tt
source_answered form bytes No text says = tt
source_answered form bytes Bad text says = tt
source_answered Text bytes ReadFault text says = absurd says
source_answered Json bytes ReadFault text says = absurd says
source_answered Text bytes WriteFault text says = absurd says
source_answered Json bytes WriteFault text says = absurd says
source_answered Text bytes Usage text says = absurd says
source_answered Json bytes Usage text says = absurd says
source_answered Text bytes TooLarge text says = absurd says
source_answered Json bytes TooLarge text says = absurd says

pair_answered : (source baseline : List ℕ) (status : Status) (text : List ℕ) → BaselineSays source baseline status text → IsAnswered status
pair_answered source baseline Done text says = tt
pair_answered source baseline No text says = tt
pair_answered source baseline Bad text says = tt
pair_answered source baseline ReadFault text says = absurd says
pair_answered source baseline WriteFault text says = absurd says
pair_answered source baseline Usage text says = absurd says
pair_answered source baseline TooLarge text says = absurd says

module _ (held : List ℕ → Option (List ℕ)) (before after : List ℕ → ℕ) (call : Inquiry) where
  of_answer : (status : Status) (text : List ℕ) → IsAnswered status → Means held call status text → ReportsInquiry held before after call status text
  of_answer Done text answered means = means
  of_answer No text answered means = means
  of_answer Bad text answered means = means
  of_answer ReadFault text answered means = absurd answered
  of_answer WriteFault text answered means = absurd answered
  of_answer Usage text answered means = absurd answered
  of_answer TooLarge text answered means = absurd answered

  one_answer : (Says : Status → List ℕ → Type 0) → ((status : Status) (text : List ℕ) → Says status text → IsAnswered status)
      → ((status : Status) (text : List ℕ) → Says status text → Means held call status text)
      → (status : Status) (text : List ℕ) → Says status text → ReportsInquiry held before after call status text
  one_answer Says answered means status text says = of_answer status text (answered status text says) (means status text says)

  -- a file couldn't be read whole
  pub one_unread : (name : List ℕ) → IsInquiryFile call name → (error : ReadWhy) (said : Result Answered NoMemory) → IfOk said (λ x. IsUnread error name x.reply.status x.reply.text.items)
      → (error ≡ Failed → Rose (before name) (after name)) → (error ≡ TooLong → IfSome (held name) (λ bytes. 1048576 < length bytes))
      → IfOk said (λ x. ReportsInquiry held before after call x.reply.status x.reply.text.items)
  one_unread name of error said is f l =
      answer_unread (λ x. x.reply.status) (λ x. x.reply.text.items) (ReportsInquiry held before after call) name error said is (λ text e says. (name, of, f e, says)) (λ text e says. (name, of, l e, says))

module _ (held : List ℕ → Option (List ℕ)) (before after : List ℕ → ℕ) where
  -- a source was read
  pub source_said : (form : Form) (name bytes source : List ℕ) → source ≡ bytes → IfSome (held name) (λ whole. bytes ≡ whole) → length bytes ≤ most_bytes
      → (status : Status) (text : List ℕ) → SaysIn form source status text → ReportsInquiry held before after (Explained form name) status text
  source_said form name bytes source e same short status text is =
      one_answer held before after (Explained form name) (SaysIn form source) (source_answered form source)
      (λ a text says. record { bytes = bytes; are_held = same; short = short; is_so = subst (λ b. SaysIn form b a text) e says }) status text is

  -- a stored answer and a source were read
  pub pair_said : (file name baseline bytes source : List ℕ) → source ≡ bytes → IfSome (held file) (λ whole. baseline ≡ whole) → length baseline ≤ most_bytes → IfSome (held name) (λ whole. bytes ≡ whole) → length bytes ≤ most_bytes
      → (status : Status) (text : List ℕ) → BaselineSays source baseline status text → ReportsInquiry held before after (Compared file name) status text
  pair_said file name baseline bytes source e stored long same short status text is =
      one_answer held before after (Compared file name) (BaselineSays source baseline) (pair_answered source baseline)
      (λ a text says. record {
        bytes = baseline;
        are_held = stored;
        short = long;
        is_so = record { bytes = bytes; are_held = same; short = short; is_so = subst (λ s. BaselineSays s baseline a text) e says };
      }) status text is

-- what is said after a file was read is said of both
module _ (held later : List ℕ → Option (List ℕ)) (before between after : List ℕ → ℕ) (file name : List ℕ) (same : (n : List ℕ) → later n ≡ held n) (less : (n : List ℕ) → before n ≤ between n) where
  means_sooner : (a : Status) (text : List ℕ) → Means later (Compared file name) a text → Means held (Compared file name) a text
  means_sooner a text is = subst (λ (h : Option (List ℕ)). IsRead most_bytes h (λ baseline. IsRead most_bytes (held name) (λ source. BaselineSays source baseline a text))) (same file)
      (subst (λ (h : Option (List ℕ)). IsRead most_bytes (later file) (λ baseline. IsRead most_bytes h (λ source. BaselineSays source baseline a text))) (same name) is)

  sooner : (status : Status) (text : List ℕ) → ReportsInquiry later between after (Compared file name) status text → ReportsInquiry held before after (Compared file name) status text
  sooner Done text is = means_sooner Done text is
  sooner No text is = means_sooner No text is
  sooner Bad text is = means_sooner Bad text is
  sooner ReadFault text is = (is.0, is.1, rose_before (before is.0) (between is.0) (after is.0) (less is.0) is.2, is.3)
  sooner WriteFault text is = absurd is
  sooner Usage text is = absurd is
  sooner TooLarge text is = (is.0, is.1, subst (λ (h : Option (List ℕ)). IfSome h (λ bytes. 1048576 < length bytes)) (same is.0) is.2, is.3)

  pub said_sooner : (said : Result Answered NoMemory) → IfOk said (λ x. ReportsInquiry later between after (Compared file name) x.reply.status x.reply.text.items)
      → IfOk said (λ x. ReportsInquiry held before after (Compared file name) x.reply.status x.reply.text.items)
  said_sooner (Ok x) is = sooner x.reply.status x.reply.text.items is
  said_sooner (Err e) is = tt

-- what the shelf tells is the same later
pub still_whole : (was is : Option (List ℕ)) (bytes : List ℕ) → is ≡ was → IfSome was (λ whole. bytes ≡ whole) → IfSome is (λ whole. bytes ≡ whole)
still_whole was is bytes same whole = subst (λ (h : Option (List ℕ)). IfSome h (λ w. bytes ≡ w)) (sym same) whole

-- nothing is to be written with the status of a write fault
pub never : (held : List ℕ → Option (List ℕ)) (before after : List ℕ → ℕ) (call : Option Inquiry) (text : List ℕ) → SaysInquiryOf held before after call WriteFault text → ⊥
never held before after None text says = no_usage says.0
never held before after (Some call) text says = says
