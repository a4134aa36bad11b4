-- What follows of a reply, case by case.
use Rattle.std.proofs.Common.{◌≡◌, inl, inr, ℕ, ◌≤◌, List, ◌++◌, Option, Result, Ok, Err, codes, arith, refl, subst, sym}
use Rattle.std.specs.Prelude.{IfOk, OnOk}
use Rattle.ql_base.specs.declared.no_memory.NoMemory.{NoMemory}
use Rattle.ql_ports.specs.Faults.{Rose}
use Rattle.ql_ports.specs.Written.{appended}
use Rattle.ql_ports.specs.declared.whole.ReadWhy.{ReadWhy}
use Rattle.ql_ports.specs.declared.whole.ReadWhy.TheVariants.{Failed, TooLong, NoMemory as NoReadMemory}
use Rattle.ql_reply.specs.declared.reply.Reply.{Reply}
use Rattle.ql_reply.specs.Unread.{IsUnread}
use Rattle.ql_reply.specs.Wrote.{IsWritten, Wrote}
use Rattle.ql_reply.specs.declared.status.Status.{Status}
use Rattle.ql_reply.specs.declared.status.Status.TheVariants.{Done, No, Bad, ReadFault, WriteFault, Usage, TooLarge}

module _ (May : Status → List ℕ → Type 0) (was is : Option (List ℕ)) (before after : ℕ) where
  -- where a whole text was appended, this is what was written
  whole : (status : Status) (text : List ℕ) → (May WriteFault text → ⊥) → May status text → is ≡ appended was text → Wrote May was is before after status
  whole Done text none may same = (text, may, same)
  whole No text none may same = (text, may, same)
  whole Bad text none may same = (text, may, same)
  whole ReadFault text none may same = (text, may, same)
  whole WriteFault text none may same = absurd (none may)
  whole Usage text none may same = (text, may, same)
  whole TooLarge text none may same = (text, may, same)

  -- where a reply was written that may be, this is what was written
  pub wrote : (status ended : Status) (text : List ℕ) → (May WriteFault text → ⊥) → May status text → IsWritten status text was is before after ended → Wrote May was is before after ended
  wrote status ended text none may (inl (same, all)) = subst (Wrote May was is before after) (sym same) (whole status text none may all)
  wrote status ended text none may (inr (fault, rose, prefix)) = subst (Wrote May was is before after) (sym fault) (rose, status, text, may, prefix)

-- what was written for a reply of which this is so, was written for one of which anything is so that follows
pub weaker : (P Q : Status → List ℕ → Type 0) (was is : Option (List ℕ)) (before after : ℕ) (ended : Status)
    → ((status : Status) (text : List ℕ) → P status text → Q status text) → Wrote P was is before after ended → Wrote Q was is before after ended
weaker P Q was is before after Done all (text, may, same) = (text, all Done text may, same)
weaker P Q was is before after No all (text, may, same) = (text, all No text may, same)
weaker P Q was is before after Bad all (text, may, same) = (text, all Bad text may, same)
weaker P Q was is before after ReadFault all (text, may, same) = (text, all ReadFault text may, same)
weaker P Q was is before after WriteFault all (rose, status, text, may, prefix) = (rose, status, text, all status text may, prefix)
weaker P Q was is before after Usage all (text, may, same) = (text, all Usage text may, same)
weaker P Q was is before after TooLarge all (text, may, same) = (text, all TooLarge text may, same)

-- where the sink didn't fail, the call ended as was asked
pub ended_so : (status ended : Status) (text : List ℕ) (was is : Option (List ℕ)) (before after : ℕ) → IsWritten status text was is before after ended → (Rose before after → ⊥) → ended ≡ status
ended_so status ended text was is before after (inl (same, all)) none = same
ended_so status ended text was is before after (inr (fault, rose, prefix)) none = absurd (none rose)

-- a count that rose later rose
pub rose_before : (a b c : ℕ) → a ≤ b → Rose b c → Rose a c
rose_before a b c le (inl less) = inl (omega (arith, le, less))
rose_before a b c le (inr is) = inr is

-- what is written for words that ask for nothing has not the status of a write fault
abbrev IsWriteFault : Status → Type 0
IsWriteFault WriteFault = Unit {0}
IsWriteFault _ = ⊥

pub no_usage : WriteFault ≡ Usage → ⊥
no_usage same = subst IsWriteFault same tt

-- a file couldn't be read: the shelf failed, or it has too many bytes
pub of_unread : (P : Status → List ℕ → Type 0) (name : List ℕ) (error : ReadWhy) (status : Status) (text : List ℕ) → IsUnread error name status text
    → (error ≡ Failed → text ≡ codes "read fault " ++ name ++ codes "\n" → P ReadFault text)
    → (error ≡ TooLong → text ≡ codes "too large " ++ name ++ codes "\n" → P TooLarge text) → P status text
of_unread P name Failed Done text is failed long = absurd is
of_unread P name Failed No text is failed long = absurd is
of_unread P name Failed Bad text is failed long = absurd is
of_unread P name Failed ReadFault text is failed long = failed refl is
of_unread P name Failed WriteFault text is failed long = absurd is
of_unread P name Failed Usage text is failed long = absurd is
of_unread P name Failed TooLarge text is failed long = absurd is
of_unread P name TooLong Done text is failed long = absurd is
of_unread P name TooLong No text is failed long = absurd is
of_unread P name TooLong Bad text is failed long = absurd is
of_unread P name TooLong ReadFault text is failed long = absurd is
of_unread P name TooLong WriteFault text is failed long = absurd is
of_unread P name TooLong Usage text is failed long = absurd is
of_unread P name TooLong TooLarge text is failed long = long refl is
of_unread P name NoReadMemory Done text is failed long = absurd is
of_unread P name NoReadMemory No text is failed long = absurd is
of_unread P name NoReadMemory Bad text is failed long = absurd is
of_unread P name NoReadMemory ReadFault text is failed long = absurd is
of_unread P name NoReadMemory WriteFault text is failed long = absurd is
of_unread P name NoReadMemory Usage text is failed long = absurd is
of_unread P name NoReadMemory TooLarge text is failed long = absurd is

-- and so of an answer, which out of memory isn't there
pub answer_unread : {X : Type 0} (status_in : X → Status) (text_in : X → List ℕ) (P : Status → List ℕ → Type 0) (name : List ℕ) (error : ReadWhy) (answer : Result X NoMemory)
    → IfOk answer (λ x. IsUnread error name (status_in x) (text_in x))
    → ((text : List ℕ) → error ≡ Failed → text ≡ codes "read fault " ++ name ++ codes "\n" → P ReadFault text)
    → ((text : List ℕ) → error ≡ TooLong → text ≡ codes "too large " ++ name ++ codes "\n" → P TooLarge text)
    → IfOk answer (λ x. P (status_in x) (text_in x))
answer_unread status_in text_in P name error (Ok x) is failed long = of_unread P name error (status_in x) (text_in x) is (failed (text_in x)) (long (text_in x))
answer_unread status_in text_in P name error (Err e) is failed long = tt

module _ (P : Status → List ℕ → Type 0) (Q : List ℕ → Type 0) (status : Status) where
  -- what is so of a text with a status is so of a reply that has both
  pub replied : (answer : Result Reply NoMemory) → ((text : List ℕ) → Q text → P status text)
      → IfOk answer (λ r. r.status ≡ status) → IfOk answer (λ r. Q r.text.items) → IfOk answer (λ r. P r.status r.text.items)
  replied (Ok r) may same is = subst (λ s. P s r.text.items) (sym same) (may r.text.items is)
  replied (Err e) may same is = tt

  -- and where something is known once there is a reply
  pub replied_once : (K : Type 0) (answer : Result Reply NoMemory) → ((text : List ℕ) → K → Q text → P status text)
      → IfOk answer (λ r. r.status ≡ status) → IfOk answer (λ r. Q r.text.items) → OnOk answer K → IfOk answer (λ r. P r.status r.text.items)
  replied_once K (Ok r) may same is known = subst (λ s. P s r.text.items) (sym same) (may r.text.items known is)
  replied_once K (Err e) may same is known = tt
