-- What is said of the bytes that were read is what is reported of the request.
use Rattle.std.proofs.Common.{◌≡◌, inl, inr, ℕ, ◌≤◌, ◌<◌, List, length, Option, Some, Result, subst}
use Rattle.std.specs.Prelude.{IfSome, IfOk}
use Rattle.ql_base.specs.declared.no_memory.NoMemory.{NoMemory}
use Rattle.ql_ports.specs.Faults.{Rose}
use Rattle.ql_ports.specs.declared.whole.ReadWhy.{ReadWhy}
use Rattle.ql_ports.specs.declared.whole.ReadWhy.TheVariants.{Failed, TooLong}
use Rattle.ql_app.specs.declared.outcome.Limits.{Limits}
use Rattle.ql_reply.specs.declared.status.Status.{Status}
use Rattle.ql_reply.specs.declared.status.Status.TheVariants.{Done, No, Bad, ReadFault, WriteFault, Usage, TooLarge}
use Rattle.ql_app.specs.declared.words.Command.{Command}
use Rattle.ql_app.specs.declared.words.Command.TheVariants.{Holds, Proof, Classify, ClassifyWhy, Prove, Gen, Soak}
use Rattle.ql_app.specs.declared.words.PairCommand.{PairCommand}
use Rattle.ql_app.specs.declared.words.PairCommand.TheVariants.{Check, Verify, Run, Slim, Restart}
use Rattle.ql_app.specs.Words.{OneFile, TwoFiles}
use Rattle.ql_app.specs.Outcome.{CommandSays, PairSays, RequestSays, second_limit}
use Rattle.ql_reply.specs.declared.ended.Answered.{Answered}
use Rattle.ql_reply.specs.Read.{IsRead}
use Rattle.ql_reply.specs.Unread.{IsUnread}
use Rattle.ql_reply.proofs.Replies.{answer_unread}

-- what is said of the bytes that were read is said of those that the shelf holds, where it reports them
pub of_held : (limit : ℕ) (held : Option (List ℕ)) (P : List ℕ → Type 0) (whole : List ℕ) → held ≡ Some whole → IsRead limit held P → (length whole ≤ limit) × P whole
of_held limit held P whole held_so is_read =
    let same : is_read.bytes ≡ whole = subst (λ (h : Option (List ℕ)). IfSome h (λ w. is_read.bytes ≡ w)) held_so is_read.are_held in
    subst (λ (bytes : List ℕ). (length bytes ≤ limit) × P bytes) same (is_read.short, is_read.is_so)

read : (limit : ℕ) (bytes : List ℕ) (held : Option (List ℕ)) (P : List ℕ → Type 0) → IfSome held (λ whole. bytes ≡ whole) → length bytes ≤ limit → P bytes → IsRead limit held P
read limit bytes held P same short p = record { bytes = bytes; are_held = same; short = short; is_so = p }

module _ (limits : Limits) (held : List ℕ → Option (List ℕ)) (before after : List ℕ → ℕ) where
  -- the answer of a command on one file
  pub one : (command : Command) (name bytes : List ℕ) (status : Status) (text : List ℕ)
      → IfSome (held name) (λ whole. bytes ≡ whole) → length bytes ≤ limits.file → CommandSays command bytes status text → RequestSays limits held before after (OneFile command name) status text
  one command name bytes Done text same short says = read limits.file bytes (held name) (λ b. CommandSays command b Done text) same short says
  one command name bytes No text same short says = read limits.file bytes (held name) (λ b. CommandSays command b No text) same short says
  one command name bytes Bad text same short says = read limits.file bytes (held name) (λ b. CommandSays command b Bad text) same short says
  one Holds name bytes ReadFault text same short says = absurd says
  one Proof name bytes ReadFault text same short says = absurd says
  one Classify name bytes ReadFault text same short says = absurd says
  one ClassifyWhy name bytes ReadFault text same short says = absurd says
  one Prove name bytes ReadFault text same short says = absurd says
  one (Gen number events) name bytes ReadFault text same short says = absurd says
  one (Soak number) name bytes ReadFault text same short says = absurd says
  one Holds name bytes WriteFault text same short says = absurd says
  one Proof name bytes WriteFault text same short says = absurd says
  one Classify name bytes WriteFault text same short says = absurd says
  one ClassifyWhy name bytes WriteFault text same short says = absurd says
  one Prove name bytes WriteFault text same short says = absurd says
  one (Gen number events) name bytes WriteFault text same short says = absurd says
  one (Soak number) name bytes WriteFault text same short says = absurd says
  one Holds name bytes Usage text same short says = absurd says
  one Proof name bytes Usage text same short says = absurd says
  one Classify name bytes Usage text same short says = absurd says
  one ClassifyWhy name bytes Usage text same short says = absurd says
  one Prove name bytes Usage text same short says = absurd says
  one (Gen number events) name bytes Usage text same short says = absurd says
  one (Soak number) name bytes Usage text same short says = absurd says
  one command name bytes TooLarge text same short says = inl (read limits.file bytes (held name) (λ b. CommandSays command b TooLarge text) same short says)

  both : (command : PairCommand) (name other bytes more : List ℕ) (status : Status) (text : List ℕ)
      → IfSome (held name) (λ whole. bytes ≡ whole) → length bytes ≤ limits.file → IfSome (held other) (λ whole. more ≡ whole) → length more ≤ second_limit limits command
      → PairSays command bytes more status text → IsRead limits.file (held name) (λ b. IsRead (second_limit limits command) (held other) (λ m. PairSays command b m status text))
  both command name other bytes more status text same short also few says =
      read limits.file bytes (held name) (λ b. IsRead (second_limit limits command) (held other) (λ m. PairSays command b m status text)) same short
      (read (second_limit limits command) more (held other) (λ m. PairSays command bytes m status text) also few says)

  -- and on two
  pub two : (command : PairCommand) (name other bytes more : List ℕ) (status : Status) (text : List ℕ)
      → IfSome (held name) (λ whole. bytes ≡ whole) → length bytes ≤ limits.file → IfSome (held other) (λ whole. more ≡ whole) → length more ≤ second_limit limits command
      → PairSays command bytes more status text → RequestSays limits held before after (TwoFiles command name other) status text
  two command name other bytes more Done text same short also few says = both command name other bytes more Done text same short also few says
  two command name other bytes more No text same short also few says = both command name other bytes more No text same short also few says
  two command name other bytes more Bad text same short also few says = both command name other bytes more Bad text same short also few says
  two Check name other bytes more ReadFault text same short also few says = absurd says
  two Check name other bytes more WriteFault text same short also few says = absurd says
  two Check name other bytes more Usage text same short also few says = absurd says
  two Verify name other bytes more ReadFault text same short also few says = absurd says
  two Verify name other bytes more WriteFault text same short also few says = absurd says
  two Verify name other bytes more Usage text same short also few says = absurd says
  two (Run form) name other bytes more ReadFault text same short also few says = absurd says
  two (Run form) name other bytes more WriteFault text same short also few says = absurd says
  two (Run form) name other bytes more Usage text same short also few says = absurd says
  two Slim name other bytes more ReadFault text same short also few says = absurd says
  two Slim name other bytes more WriteFault text same short also few says = absurd says
  two Slim name other bytes more Usage text same short also few says = absurd says
  two (Restart replica cut) name other bytes more ReadFault text same short also few says = absurd says
  two (Restart replica cut) name other bytes more WriteFault text same short also few says = absurd says
  two (Restart replica cut) name other bytes more Usage text same short also few says = absurd says
  two command name other bytes more TooLarge text same short also few says = inl (both command name other bytes more TooLarge text same short also few says)

  -- a file that couldn't be read whole
  pub one_unread : (command : Command) (name : List ℕ) (error : ReadWhy) (answer : Result Answered NoMemory) → IfOk answer (λ a. IsUnread error name a.reply.status a.reply.text.items)
      → (error ≡ Failed → Rose (before name) (after name)) → (error ≡ TooLong → IfSome (held name) (λ bytes. limits.file < length bytes))
      → IfOk answer (λ a. RequestSays limits held before after (OneFile command name) a.reply.status a.reply.text.items)
  one_unread command name error answer is f l =
      answer_unread (λ a. a.reply.status) (λ a. a.reply.text.items) (RequestSays limits held before after (OneFile command name)) name error answer is (λ text e says. (f e, says)) (λ text e says. inr (l e, says))
