-- Messages go to replicas that there are.
use Rattle.std.proofs.Common.{◌≡◌, ℕ, zero, suc, ◌<◌, ◌≤◌, ◌-◌, nat_eq, cond, Bool, true, false, List, [], ◌∷◌, ◌++◌, Some, subst, arith}
use Rattle.std.proofs.lemmas.Bool.{false≢true}
use Rattle.std.proofs.lemmas.List.Elements.{All-append, All-cons, All-get_or, All-nil, All-set}
use Rattle.std.proofs.lemmas.Option.{get_or_from_slice_get, slice_get_within}
use Rattle.ql_base.specs.declared.ids.ReplicaId.{ReplicaId}
use Rattle.ql_machine.specs.declared.message.Message.{Message}
use Rattle.ql_machine.specs.State.{message_at}
use Rattle.ql_machine.specs.Changes.{message_of, package_to_others, recounted, to_others}
use Rattle.ql_store.specs.State.{GoWithin}

pub goes-within : (n : ℕ) (messages : List Message) (m : ℕ) (message : Message) → GoWithin n messages → message_at messages m ≡ Some message → message.receiver.0 < n
goes-within n messages zero message within is = absurd (false≢true (cc))
goes-within n messages (suc k) message within is =
    subst (λ (one : Message). one.receiver.0 < n) (get_or_from_slice_get messages k message message is)
    (All-get_or (λ (one : Message). one.receiver.0 < n) messages k message (slice_get_within messages k message is) within)

pub within-recounted : (n : ℕ) (messages : List Message) (m : ℕ) (message : Message) (copies : ℕ) → GoWithin n messages → message_at messages m ≡ Some message
    → GoWithin n (recounted messages m message copies)
within-recounted n messages m message copies within is =
    All-set (λ (one : Message). one.receiver.0 < n) messages (m - 1) (record message { copies = copies }) (goes-within n messages m message within is) within

pub within-more : (n : ℕ) (messages more : List Message) → GoWithin n messages → GoWithin n more → GoWithin n (messages ++ more)
within-more n messages more old new = All-append (λ (one : Message). one.receiver.0 < n) messages more old new

pub within-one : (n : ℕ) (sender receiver : ReplicaId) (ids : List ℕ) → receiver.0 < n → GoWithin n (message_of sender receiver ids ∷ [])
within-one n sender receiver ids less = All-cons (λ (one : Message). one.receiver.0 < n) (message_of sender receiver ids) [] less (All-nil (λ (one : Message). one.receiver.0 < n))

pub within-others : (n k : ℕ) (sender : ReplicaId) (ids : List ℕ) → k ≤ n → GoWithin n (to_others k sender ids)
within-others n zero sender ids most = All-nil (λ (one : Message). one.receiver.0 < n)
within-others n (suc k) sender ids most = within-more n (to_others k sender ids) _ (within-others n k sender ids (omega (arith, most))) (by (nat_eq k sender.0))
  where
    by : (itself : Bool) → GoWithin n (cond itself [] (message_of sender (record { 0 = k }) ids ∷ []))
    by true = All-nil (λ (one : Message). one.receiver.0 < n)
    by false = within-one n sender (record { 0 = k }) ids (omega (arith, most))

pub within-package : (n k : ℕ) (sender : ReplicaId) (ids : List ℕ) → k ≤ n → GoWithin n (package_to_others k sender ids)
within-package n k sender [] most = All-nil (λ (one : Message). one.receiver.0 < n)
within-package n k sender (a ∷ ids) most = within-others n k sender (a ∷ ids) most
