-- The messages as the machine has them, and how they change with those that are kept.
use Rattle.std.proofs.Common.{◌≡◌, ℕ, zero, suc, ◌<◌, ◌≤◌, ◌-◌, get_or, List, length, Option, Some, None, is_some, true, slice_get, sym, ap, ◌∙◌, arith}
use Rattle.std.specs.Option.{option_copied, option_map}
use Rattle.std.specs.Borrow.{Bor}
use Rattle.std.proofs.lemmas.Bool.{false≢true}
use Rattle.std.proofs.Math.ListN.{set}
use Rattle.std.proofs.lemmas.List.{length-map, map-set}
use Rattle.std.proofs.lemmas.Option.{same_Some, slice_get-get_or, slice_get-map, slice_get_within}
use Rattle.ql_machine.specs.declared.message.Message.{Message}
use Rattle.ql_machine.specs.State.{message_at}
use Rattle.ql_machine.specs.Changes.{IsInFlight, recounted}
use Rattle.ql_net.specs.declared.sent.Sent.{Sent}
use Rattle.ql_net.specs.Network.{IsFound, message_in, messages_in}

-- the message with a number is what is kept at the index below it
pub message-is : (all : List Sent) (m : ℕ) → 1 ≤ m → message_at (messages_in all) m ≡ option_map message_in (slice_get all (m - 1))
message-is all zero first = absurd (omega (arith, first))
message-is all (suc k) first = (let same : suc k - 1 ≡ k = omega arith in rw same (slice_get-map message_in all k))

-- a number with a message is one of those that were sent
pub message-there : (all : List Sent) (m : ℕ) (message : Message) → message_at (messages_in all) m ≡ Some message → (1 ≤ m) × (m - 1 < length all)
message-there all zero message at = absurd (let never : None ≡ Some message = at in cc)
message-there all (suc k) message at =
    let inside = slice_get_within (messages_in all) k message at in
    let count = length-map all message_in in
    (omega arith, omega (arith, inside, count))

-- what is kept for a message
pub message-kept : (all : List Sent) (m : ℕ) (message : Message) (sent : Sent) → message_at (messages_in all) m ≡ Some message → sent ≡ get_or all (m - 1) sent → message ≡ message_in sent
message-kept all m message sent at is =
    let there = message-there all m message at in
    sym (same_Some (message_in sent) message (ap (λ (s : Sent). Some (message_in s)) is ∙ sym (ap (option_map message_in) (slice_get-get_or all (m - 1) sent there.1)) ∙ sym (message-is all m there.0) ∙ at))

pub kept-message : (all : List Sent) (m : ℕ) (sent : Sent) → 1 ≤ m → m - 1 < length all → sent ≡ get_or all (m - 1) sent → message_at (messages_in all) m ≡ Some (message_in sent)
kept-message all m sent first inside is =
    message-is all m first ∙ ap (option_map message_in) (slice_get-get_or all (m - 1) sent inside) ∙ sym (ap (λ (s : Sent). Some (message_in s)) is)

-- a message with another number of copies
pub message-recounted : (all : List Sent) (m n : ℕ) (message : Message) (sent : Sent) → message_at (messages_in all) m ≡ Some message → sent ≡ get_or all (m - 1) sent
    → messages_in (set all (m - 1) (record sent { copies = n })) ≡ recounted (messages_in all) m message n
message-recounted all m n message sent at is =
    map-set message_in all (m - 1) (record sent { copies = n })
    ∙ ap (λ (kept : Message). set (messages_in all) (m - 1) (record kept { copies = n })) (sym (message-kept all m message sent at is))

-- a message that was found is in flight
pub found-kept : (messages : List Message) (m : ℕ) (found : Option (Bor Sent)) → IsFound messages m (option_map message_in (option_copied found)) → is_some found ≡ true
    → (message : Message) × IsInFlight messages m message
found-kept messages m None found some = absurd (false≢true some)
found-kept messages m (Some sent) found some = (message_in sent.now, found)
