-- How much there is of each thing after so many events.
use Rattle.std.proofs.Common.{◌≡◌, ◌∷◌, ◌++◌, [], ◌+◌, ◌-◌, ◌*◌, ◌≤◌, ℕ, zero, suc, Bool, true, false, cond, nat_eq, List, All, Some, length, arith, length-append, length-set}
use Rattle.std.proofs.lemmas.Bool.{false≢true}
use Rattle.std.proofs.lemmas.List.Elements.{All-append, All-cons, All-get_or, All-nil, All-set}
use Rattle.std.proofs.lemmas.Option.{get_or_from_slice_get, slice_get_within}
use Rattle.std.proofs.Common.{subst}
use Rattle.ql_base.specs.declared.ids.ReplicaId.{ReplicaId}
use Rattle.ql_exec.specs.declared.effect.Effect.{Effect}
use Rattle.ql_exec.specs.Execution.{next_id}
use Rattle.ql_machine.specs.declared.event.Event.{Event}
use Rattle.ql_machine.specs.declared.message.Message.{Message}
use Rattle.ql_machine.specs.declared.reply.Reply.{Reply}
use Rattle.ql_machine.specs.State.{Machine, empty, message_at, replicas}
use Rattle.ql_machine.specs.Rules.{Call, Rules}
use Rattle.ql_machine.specs.Changes.{effect_made, message_of, package_to_others, recounted, to_others}
use Rattle.ql_machine.specs.Calls.{IsCall, blocked, held, makes, makes_own, makes_strong, unavailable, undeclared, unused}
use Rattle.ql_machine.specs.Deliveries.{IsDelivery, again, applies, cut, gone, waits}
use Rattle.ql_machine.specs.Steps.{IsStep, absent, already_open, begins, calls, commits, delivers, heals, joins_bare, joins_copy, loses, none_open, none_to_lose, none_to_repeat, repeats, resends, splits}

-- after so many events at 16 replicas at most
pub record IsSmall (events : ℕ) (s : Machine) : Type 0 where
  pub effects : length s.effects ≤ events
  pub messages : length s.messages ≤ 16 * events
  pub begun : s.begun ≤ events
  pub copies : All (λ message. message.copies ≤ suc events) s.messages

-- messages have so many copies at most
abbrev HaveCopies : ℕ → List Message → Type 0
HaveCopies n messages = All (λ message. message.copies ≤ n) messages

pub copies-of : (n : ℕ) (messages : List Message) (m : ℕ) (message : Message) → HaveCopies n messages → message_at messages m ≡ Some message → message.copies ≤ n
copies-of n messages zero message all is = absurd (false≢true (cc))
copies-of n messages (suc k) message all is =
    subst (λ (one : Message). one.copies ≤ n) (get_or_from_slice_get messages k message message is)
    (All-get_or (λ (one : Message). one.copies ≤ n) messages k message (slice_get_within messages k message is) all)

copies-more : (n : ℕ) (messages : List Message) → HaveCopies n messages → HaveCopies (suc n) messages
copies-more n messages all = λ k d inside. (let few = all k d inside in omega (arith, few))

copies-others : (n k : ℕ) (sender : ReplicaId) (ids : List ℕ) → HaveCopies (suc n) (to_others k sender ids)
copies-others n zero sender ids = All-nil (λ (one : Message). one.copies ≤ suc n)
copies-others n (suc k) sender ids = All-append (λ (one : Message). one.copies ≤ suc n) (to_others k sender ids) _ (copies-others n k sender ids) (by (nat_eq k sender.0))
  where
    by : (itself : Bool) → HaveCopies (suc n) (cond itself [] (message_of sender (record { 0 = k }) ids ∷ []))
    by true = All-nil (λ (one : Message). one.copies ≤ suc n)
    by false = All-cons (λ (one : Message). one.copies ≤ suc n) (message_of sender (record { 0 = k }) ids) [] (omega arith) (All-nil (λ (one : Message). one.copies ≤ suc n))

length-others : (k : ℕ) (sender : ReplicaId) (ids : List ℕ) → length (to_others k sender ids) ≤ k
length-others zero sender ids = omega arith
length-others (suc k) sender ids = by (length-others k sender ids) (nat_eq k sender.0)
  where
    by : length (to_others k sender ids) ≤ k → (itself : Bool) → length (to_others k sender ids ++ cond itself [] (message_of sender (record { 0 = k }) ids ∷ [])) ≤ suc k
    by fewer true = let long = length-append (to_others k sender ids) [] in omega (arith, long, fewer)
    by fewer false = let long = length-append (to_others k sender ids) (message_of sender (record { 0 = k }) ids ∷ []) in omega (arith, long, fewer)

copies-package : (n k : ℕ) (sender : ReplicaId) (ids : List ℕ) → HaveCopies (suc n) (package_to_others k sender ids)
copies-package n k sender [] = All-nil (λ (one : Message). one.copies ≤ suc n)
copies-package n k sender (a ∷ ids) = copies-others n k sender (a ∷ ids)

length-package : (k : ℕ) (sender : ReplicaId) (ids : List ℕ) → length (package_to_others k sender ids) ≤ k
length-package k sender [] = omega arith
length-package k sender (a ∷ ids) = length-others k sender (a ∷ ids)

module _ (k : ℕ) (s : Machine) (small : IsSmall k s) (few : replicas s ≤ 16) where
  later : IsSmall (suc k) s
  later = record {
    effects = (let less = small.effects in omega (arith, less));
    messages = (let less = small.messages in omega (arith, less));
    begun = (let less = small.begun in omega (arith, less));
    copies = copies-more (suc k) s.messages small.copies;
  }

  -- of one message there is another number of copies
  counted : (m : ℕ) (message : Message) (copies : ℕ) → message_at s.messages m ≡ Some message → copies ≤ suc message.copies
      → (length (recounted s.messages m message copies) ≤ 16 * suc k) × HaveCopies (suc (suc k)) (recounted s.messages m message copies)
  counted m message copies is most =
      let old = copies-of (suc k) s.messages m message small.copies is in
      let same = length-set s.messages (m - 1) (record message { copies = copies }) in
      let less = small.messages in (
        omega (arith, same, less),
        All-set (λ (one : Message). one.copies ≤ suc (suc k)) s.messages (m - 1) (record message { copies = copies }) (omega (arith, old, most)) (copies-more (suc k) s.messages small.copies),
      )

  -- there are more messages
  sent : (more : List Message) → length more ≤ 16 → HaveCopies (suc (suc k)) more → (length (s.messages ++ more) ≤ 16 * suc k) × HaveCopies (suc (suc k)) (s.messages ++ more)
  sent more most all =
      let long = length-append s.messages more in
      let less = small.messages in (
        omega (arith, long, less, most),
        All-append (λ (one : Message). one.copies ≤ suc (suc k)) s.messages more (copies-more (suc k) s.messages small.copies) all,
      )

  pushed : (e : Effect) → length (s.effects ++ e ∷ []) ≤ suc k
  pushed e = let long = length-append s.effects (e ∷ []) in let less = small.effects in omega (arith, long, less)

  small-delivery : (m : ℕ) (t : Machine) (r : Reply) → IsDelivery s m t r → IsSmall (suc k) t
  small-delivery m _ _ (gone none) = later
  small-delivery m _ _ (cut message is apart) = later
  small-delivery m _ _ (again message is passes known) =
      let now = counted m message (message.copies - 1) is.0 (omega arith) in
      record { effects = later.effects; messages = now.0; begun = later.begun; copies = now.1 }
  small-delivery m _ _ (waits message a new least) =
      let now = counted m message (message.copies - 1) new.in_flight.0 (omega arith) in
      record { effects = later.effects; messages = now.0; begun = later.begun; copies = now.1 }
  small-delivery m _ _ (applies message ids new all are) =
      let now = counted m message (message.copies - 1) new.in_flight.0 (omega arith) in
      record { effects = later.effects; messages = now.0; begun = later.begun; copies = now.1 }

  small-call : (rules : Rules) (c : Call) (t : Machine) (r : Reply) → IsCall rules s c t r → IsSmall (suc k) t
  small-call rules c _ _ (undeclared _ _ _) = later
  small-call rules c _ _ (unused _ _ _ _) = later
  small-call rules c _ _ (unavailable _ _ _ _) = later
  small-call rules c _ _ (held _ _ _ _ _) = later
  small-call rules c _ _ (blocked _ _ _) = later
  small-call rules c _ _ (makes seen may none plain) =
      let ids = (next_id s.effects).0 ∷ [] in
      let count = length-others (replicas s) c.replica ids in
      let now = sent (to_others (replicas s) c.replica ids) (omega (arith, count, few)) (copies-others (suc k) (replicas s) c.replica ids) in
      record { effects = pushed (effect_made rules s c seen); messages = now.0; begun = later.begun; copies = now.1 }
  small-call rules c _ _ (makes_strong seen done may none strong are) = record { effects = pushed (effect_made rules s c seen); messages = later.messages; begun = later.begun; copies = later.copies }
  small-call rules c _ _ (makes_own t seen may is) = record { effects = pushed (effect_made rules s c seen); messages = later.messages; begun = later.begun; copies = later.copies }

  pub small-step : (rules : Rules) (event : Event) (t : Machine) (r : Reply) → IsStep rules s event t r → IsSmall (suc k) t
  small-step rules _ _ _ (calls session replica object op args after r is) = small-call rules _ after r is
  small-step rules _ _ _ (already_open session replica decl objects t is) = later
  small-step rules _ _ _ (begins session replica decl objects snapshot none less are) = record {
    effects = later.effects;
    messages = later.messages;
    begun = (let old = small.begun in omega (arith, old));
    copies = later.copies;
  }
  small-step rules _ _ _ (none_open session replica none) = later
  small-step rules _ _ _ (commits session replica t own is are) =
      let count = length-package (replicas s) replica own in
      let now = sent (package_to_others (replicas s) replica own) (omega (arith, count, few)) (copies-package (suc k) (replicas s) replica own) in
      record { effects = later.effects; messages = now.0; begun = later.begun; copies = now.1 }
  small-step rules _ _ _ (delivers m after r is) = small-delivery m.0 after r is
  small-step rules _ _ _ (none_to_repeat m is) = later
  small-step rules _ _ _ (repeats m message is) =
      let now = counted m.0 message (message.copies + 1) is.0 (omega arith) in
      record { effects = later.effects; messages = now.0; begun = later.begun; copies = now.1 }
  small-step rules _ _ _ (none_to_lose m is) = later
  small-step rules _ _ _ (loses m message is) =
      let now = counted m.0 message (message.copies - 1) is.0 (omega arith) in
      record { effects = later.effects; messages = now.0; begun = later.begun; copies = now.1 }
  small-step rules _ _ _ (absent a sender receiver unknown) = later
  small-step rules _ _ _ (resends a sender receiver ids has are) =
      let now = sent (message_of sender receiver ids ∷ []) (omega arith)
      (All-cons (λ (one : Message). one.copies ≤ suc (suc k)) (message_of sender receiver ids) [] (omega arith) (All-nil (λ (one : Message). one.copies ≤ suc (suc k)))) in
      record { effects = later.effects; messages = now.0; begun = later.begun; copies = now.1 }
  small-step rules _ _ _ (splits groups) = record { effects = later.effects; messages = later.messages; begun = later.begun; copies = later.copies }
  small-step rules _ _ _ heals = record { effects = later.effects; messages = later.messages; begun = later.begun; copies = later.copies }
  small-step rules _ _ _ (joins_copy near less) = record { effects = later.effects; messages = later.messages; begun = later.begun; copies = later.copies }
  small-step rules _ _ _ (joins_bare near ids less are) = record { effects = later.effects; messages = later.messages; begun = later.begun; copies = later.copies }

pub small-empty : (n : ℕ) → IsSmall 0 (empty n)
small-empty n = record { effects = omega arith; messages = omega arith; begun = omega arith; copies = All-nil (λ (one : Message). one.copies ≤ 1) }
