-- What is said of a request, from what is said of its files.
use Rattle.std.proofs.Common.{◌≡◌, ℕ, ◌≤◌, ◌<◌, List, length, Option, Result, Ok, Err, subst}
use Rattle.std.specs.Prelude.{IfOk, IfSome}
use Rattle.std.specs.Global.{Vec}
use Rattle.ql_base.specs.declared.no_memory.NoMemory.{NoMemory}
use Rattle.ql_ports.specs.Faults.{Rose}
use Rattle.ql_ports.specs.declared.whole.ReadWhy.{ReadWhy}
use Rattle.ql_ports.specs.declared.whole.ReadWhy.TheVariants.{Failed, TooLong}
use Rattle.ql_draw.specs.Outcomes.{IsPictureAnswer, IsPictureFile, ReportsPicture, limit_of}
use Rattle.ql_reply.specs.Unread.{IsUnread}
use Rattle.ql_reply.proofs.Replies.{answer_unread, rose_before}
use Rattle.ql_draw.specs.Words.{PictureAsked}
use Rattle.ql_reply.specs.declared.reply.Reply.{Reply}
use Rattle.ql_reply.specs.declared.status.Status.{Status}
use Rattle.ql_reply.specs.declared.status.Status.TheVariants.{Done, No, Bad, ReadFault, WriteFault, Usage, TooLarge}

module _ (held : List ℕ → Option (List ℕ)) (before after : List ℕ → ℕ) (a : PictureAsked) where
  of_answer : (status : Status) (text : List ℕ) → IsPictureAnswer status text → ReportsPicture held before after a status text
  of_answer Done text is = is
  of_answer No text is = absurd is
  of_answer Bad text is = is
  of_answer ReadFault text is = absurd is
  of_answer WriteFault text is = absurd is
  of_answer Usage text is = absurd is
  of_answer TooLarge text is = absurd is

  -- the files were read
  pub one_answer : (answer : Result Reply NoMemory) → IfOk answer (λ x. IsPictureAnswer x.status x.text.items) → IfOk answer (λ x. ReportsPicture held before after a x.status x.text.items)
  one_answer (Ok x) is = of_answer x.status x.text.items is
  one_answer (Err e) is = tt

  -- a file couldn't be read whole
  pub one_unread : (name : List ℕ) (limit : ℕ) → IsPictureFile a name → limit_of a name limit → (error : ReadWhy) (answer : Result Reply NoMemory)
      → IfOk answer (λ x. IsUnread error name x.status x.text.items)
      → (error ≡ Failed → Rose (before name) (after name)) → (error ≡ TooLong → IfSome (held name) (λ bytes. limit < length bytes))
      → IfOk answer (λ x. ReportsPicture held before after a x.status x.text.items)
  one_unread name limit of most error answer is f l =
      answer_unread (λ x. x.status) (λ x. x.text.items) (ReportsPicture held before after a) name error answer is (λ text e says. (name, of, f e, says)) (λ text e says. (name, limit, most, l e, says))

-- what is said after a file was read is said of both
sooner : (held later : List ℕ → Option (List ℕ)) (before between after : List ℕ → ℕ) (a : PictureAsked) → ((n : List ℕ) → later n ≡ held n) → ((n : List ℕ) → before n ≤ between n)
    → (status : Status) (text : List ℕ) → ReportsPicture later between after a status text → ReportsPicture held before after a status text
sooner held later before between after a same less Done text is = is
sooner held later before between after a same less No text is = absurd is
sooner held later before between after a same less Bad text is = is
sooner held later before between after a same less ReadFault text is = (is.0, is.1, rose_before (before is.0) (between is.0) (after is.0) (less is.0) is.2, is.3)
sooner held later before between after a same less WriteFault text is = absurd is
sooner held later before between after a same less Usage text is = absurd is
sooner held later before between after a same less TooLarge text is = (is.0, is.1, is.2, subst (λ (h : Option (List ℕ)). IfSome h (λ bytes. is.1 < length bytes)) (same is.0) is.3, is.4)

pub said_sooner : (held later : List ℕ → Option (List ℕ)) (before between after : List ℕ → ℕ) (a : PictureAsked) (answer : Result Reply NoMemory)
    → ((n : List ℕ) → later n ≡ held n) → ((n : List ℕ) → before n ≤ between n)
    → IfOk answer (λ x. ReportsPicture later between after a x.status x.text.items) → IfOk answer (λ x. ReportsPicture held before after a x.status x.text.items)
said_sooner held later before between after a (Ok x) same less is = sooner held later before between after a same less x.status x.text.items is
said_sooner held later before between after a (Err e) same less is = tt
