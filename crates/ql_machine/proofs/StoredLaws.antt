-- What was committed stays so and needs no more; so the closed part of committed effects stays. And what was received and
-- sent: it is committed, in whole transactions, and spread.
use Rattle.std.proofs.Common.{◌≡◌, ℕ, suc, ◌<◌, ◌⊎◌, true, ◌||◌, List, [], ◌∷◌, ◌++◌, Some, sym, subst, ◌∙◌, inl, inr, arith}
use Rattle.std.proofs.lemmas.Bool.{false_from_ne_true, or_cases, or_left, or_right}
use Rattle.ql_base.specs.IdLists.{IsAscending, has_id}
use Rattle.ql_base.specs.declared.ids.SessId.{SessId}
use Rattle.ql_exec.specs.declared.effect.Effect.{Effect}
use Rattle.ql_exec.specs.Relations.{sametxn}
use Rattle.ql_holder.specs.Closed.{Closed, Has}
use Rattle.ql_holder.specs.Needs.{JoinsNone}
use Rattle.ql_holder.proofs.ClosedLaws.{closed-along, closed-larger}
use Rattle.ql_holder.proofs.Packages.{package-grown}
use Rattle.ql_machine.specs.declared.message.Message.{Message}
use Rattle.ql_machine.specs.declared.open_txn.OpenTxn.{OpenTxn}
use Rattle.ql_machine.specs.State.{NeedsNow, message_at, open_of, received_at}
use Rattle.ql_machine.specs.Rules.{Promises}
use Rattle.ql_machine.specs.Changes.{is_sent, member_of, received_by, received_by_all, recounted, without}
use Rattle.ql_machine.specs.Kept.{AreDone, AreWholeTxns, EachCarries, IsDone, IsOpen, IsParcel, IsSpread, IsStored, IsWhole, TxnsKept}
use Rattle.ql_machine.proofs.Lists.{all-ascending, all-cases, all-kept, all-new, done-kept, each-append, each-more, each-recounted, open-cases, received-ascending, received-cases, received-kept, received-new}
use Rattle.ql_machine.proofs.Pushed.{done-longer, done-within, needs-shorter, sametxn-within, unsplit}
use Rattle.ql_machine.proofs.Made.{IsMade}
use Rattle.ql_machine.proofs.SoundLaws.{committed-begin, needs-begin, needs-commit}

-- ---- committed effects

pub record Stays (x : List Effect) (o : List OpenTxn) (y : List Effect) (p : List OpenTxn) : Type 0 where
  pub done : (a : ℕ) → IsDone x o a → IsDone y p a
  pub needs : (a b : ℕ) → IsDone x o a → NeedsNow y p a b → NeedsNow x o a b

pub stays-push : (promises : Promises) (x : List Effect) (o : List OpenTxn) (begun : ℕ) (e : Effect) → TxnsKept x o begun → IsMade promises x o e → Stays x o (x ++ e ∷ []) o
stays-push promises x o begun e txns made = record {
  done = λ a is. done-longer x o (e ∷ []) a is;
  needs = λ a b is need. needs-shorter x o begun txns e made.joined made.grown a b is need;
}

pub stays-begin : (x : List Effect) (o : List OpenTxn) (begun : ℕ) → TxnsKept x o begun → (t : OpenTxn) → t.run.0 ≡ suc begun → Stays x o x (o ++ t ∷ [])
stays-begin x o begun txns t new = record {
  done = λ a is. committed-begin x o begun txns t new a ∙ is;
  needs = λ a b is need. needs-begin x o begun txns t new a b need;
}

pub stays-commit : (x : List Effect) (o : List OpenTxn) (begun : ℕ) → TxnsKept x o begun → (session : SessId) → Stays x o x (without o session)
stays-commit x o begun txns session = record {
  done = λ a is. done-kept x o session a is;
  needs = λ a b is need. needs-commit x o begun txns session a b is need;
}

-- the closed part of committed effects stays, and grows with its set
pub closed-stays : (x y : List Effect) (o p : List OpenTxn) → Stays x o y p → (set larger : ℕ → Type 0) → ((a : ℕ) → set a → IsDone x o a) → ((a : ℕ) → set a → larger a)
    → (a : ℕ) → Closed (NeedsNow x o) set a → Closed (NeedsNow y p) larger a
closed-stays x y o p stays set larger done within a closed =
    closed-larger (NeedsNow y p) set larger within a
    (closed-along (NeedsNow x o) (NeedsNow y p) set (λ b c is need. stays.needs b c (done b is) need) a closed)

-- ---- what is stored is committed

pub stored-stays : (x y : List Effect) (o p : List OpenTxn) (received : List (List ℕ)) (messages : List Message) → Stays x o y p → ((session : SessId) (t : OpenTxn) → IsOpen p session t → IsOpen o session t)
    → IsStored x o received messages → IsStored y p received messages
stored-stays x y o p received messages stays opens stored = record {
  held = λ r a has. stays.done a (stored.held r a has);
  carried = each-more (AreDone x o) (AreDone y p) (λ ids done a has. stays.done a (done a has)) messages stored.carried;
  snapshot = λ session t is a has. stays.done a (stored.snapshot session t (opens session t is) a has);
  snapshot_closed = λ session t is a b has need.
      stored.snapshot_closed session t (opens session t is) a b has (stays.needs a b (stored.snapshot session t (opens session t is) a has) need);
}

pub stored-begin : (x : List Effect) (o : List OpenTxn) (t : OpenTxn) (received : List (List ℕ)) (messages : List Message) → Stays x o x (o ++ t ∷ [])
    → AreDone x o t.snapshot → ((a b : ℕ) → Has t.snapshot a → NeedsNow x o a b → Has t.snapshot b) → IsStored x o received messages → IsStored x (o ++ t ∷ []) received messages
stored-begin x o t received messages stays done closed stored = record {
  held = λ r a has. stays.done a (stored.held r a has);
  carried = each-more (AreDone x o) (AreDone x (o ++ t ∷ [])) (λ ids are a has. stays.done a (are a has)) messages stored.carried;
  snapshot = λ session u is a has. elim (open-cases o t u session is) [
    | inl old ↦ stays.done a (stored.snapshot session u old a has)
    | inr new ↦ stays.done a (done a (subst (λ (v : OpenTxn). Has v.snapshot a) (sym new.1) has))
  ];
  snapshot_closed = λ session u is a b has need. elim (open-cases o t u session is) [
    | inl old ↦ stored.snapshot_closed session u old a b has (stays.needs a b (stored.snapshot session u old a has) need)
    | inr new ↦
        let has_t : Has t.snapshot a = subst (λ (v : OpenTxn). Has v.snapshot a) (sym new.1) has in
        subst (λ (v : OpenTxn). Has v.snapshot b) new.1 (closed a b has_t (stays.needs a b (done a has_t) need))
  ];
}

module _ (x : List Effect) (o : List OpenTxn) (received : List (List ℕ)) (messages : List Message) where
  pub stored-receives : IsStored x o received messages → (r : ℕ) (ids : List ℕ) → AreDone x o ids → IsStored x o (received_by received r ids) messages
  stored-receives stored r ids done = record {
    held = λ q a has. elim (received-cases received r ids q a has) [
      | inl old ↦ stored.held q a old
      | inr new ↦ done a new.2
    ];
    carried = stored.carried;
    snapshot = stored.snapshot;
    snapshot_closed = stored.snapshot_closed;
  }

  pub stored-receives-all : IsStored x o received messages → (ids : List ℕ) → AreDone x o ids → IsStored x o (received_by_all received ids) messages
  stored-receives-all stored ids done = record {
    held = λ q a has. elim (all-cases received ids q a has) [
      | inl old ↦ stored.held q a old
      | inr new ↦ done a new.1
    ];
    carried = stored.carried;
    snapshot = stored.snapshot;
    snapshot_closed = stored.snapshot_closed;
  }

  pub stored-sends : IsStored x o received messages → (more : List Message) → EachCarries (AreDone x o) more → IsStored x o received (messages ++ more)
  stored-sends stored more done = record {
    held = stored.held;
    carried = each-append (AreDone x o) messages more stored.carried done;
    snapshot = stored.snapshot;
    snapshot_closed = stored.snapshot_closed;
  }

  pub stored-recounts : IsStored x o received messages → (m : ℕ) (message : Message) (n : ℕ) → message_at messages m ≡ Some message → IsStored x o received (recounted messages m message n)
  stored-recounts stored m message n is = record {
    held = stored.held;
    carried = each-recounted (AreDone x o) messages m message n stored.carried is;
    snapshot = stored.snapshot;
    snapshot_closed = stored.snapshot_closed;
  }

-- ---- in whole transactions

each-two : (one two three : List ℕ → Type 0) → ((ids : List ℕ) → one ids → two ids → three ids) → (messages : List Message) → EachCarries one messages → EachCarries two messages → EachCarries three messages
each-two one two three gives [] first second = tt
each-two one two three gives (message ∷ messages) first second = (gives message.carried first.0 second.0, each-two one two three gives messages first.1 second.1)

-- no transaction of a committed effect goes on
pub joins-none : (x : List Effect) (o : List OpenTxn) (begun : ℕ) → TxnsKept x o begun → (e : Effect) → e.member ≡ member_of (open_of o e.session) → (ids : List ℕ) → AreDone x o ids → JoinsNone x (e ∷ []) ids
joins-none x o begun txns e joined ids done a b has past = false_from_ne_true (sametxn (x ++ e ∷ []) a b) (λ same.
    let within = sametxn-within x a b (done-within x o a (done a has)) (unsplit x o begun txns e joined a b (done a has) same) in
    omega (arith, within, past))

pub whole-push : (promises : Promises) (x : List Effect) (o : List OpenTxn) (begun : ℕ) (e : Effect) (received : List (List ℕ)) (messages : List Message) → TxnsKept x o begun → IsMade promises x o e
    → IsStored x o received messages → IsWhole x received messages → IsWhole (x ++ e ∷ []) received messages
whole-push promises x o begun e received messages txns made stored whole = record {
  ascending = whole.ascending;
  held = λ r a b has same. whole.held r a b has (unsplit x o begun txns e made.joined a b (stored.held r a has) same);
  carried =
      each-two (AreDone x o) (IsParcel x) (IsParcel (x ++ e ∷ []))
      (λ ids done parcel. record { ascending = parcel.ascending; package_of = package-grown x (e ∷ []) ids parcel.package_of (joins-none x o begun txns e made.joined ids done) })
      messages stored.carried whole.carried;
}

module _ (x : List Effect) (received : List (List ℕ)) (messages : List Message) where
  pub whole-receives : IsWhole x received messages → (r : ℕ) (ids : List ℕ) → IsAscending ids → AreWholeTxns x ids → IsWhole x (received_by received r ids) messages
  whole-receives whole r ids ascend are = record {
    ascending = received-ascending received r ids ascend whole.ascending;
    held = λ q a b has same. elim (received-cases received r ids q a has) [
      | inl old ↦ received-kept received r ids q b (whole.held q a b old same)
      | inr new ↦ subst (λ (k : ℕ). Has (received_at (received_by received r ids) k) b) (sym new.0) (received-new received r ids b new.1 (are a b new.2 same))
    ];
    carried = whole.carried;
  }

  pub whole-receives-all : IsWhole x received messages → (ids : List ℕ) → IsAscending ids → AreWholeTxns x ids → IsWhole x (received_by_all received ids) messages
  whole-receives-all whole ids ascend are = record {
    ascending = all-ascending received ids ascend;
    held = λ q a b has same. elim (all-cases received ids q a has) [
      | inl old ↦ all-kept received ids q b (whole.held q a b old same)
      | inr new ↦ all-new received ids q b new.0 (are a b new.1 same)
    ];
    carried = whole.carried;
  }

  pub whole-sends : IsWhole x received messages → (more : List Message) → EachCarries (IsParcel x) more → IsWhole x received (messages ++ more)
  whole-sends whole more are = record { ascending = whole.ascending; held = whole.held; carried = each-append (IsParcel x) messages more whole.carried are }

  pub whole-recounts : IsWhole x received messages → (m : ℕ) (message : Message) (n : ℕ) → message_at messages m ≡ Some message → IsWhole x received (recounted messages m message n)
  whole-recounts whole m message n is = record { ascending = whole.ascending; held = whole.held; carried = each-recounted (IsParcel x) messages m message n whole.carried is }

-- ---- spread over the replicas

pub spread-to : (x y : List Effect) (o p : List OpenTxn) (received others : List (List ℕ)) (messages more : List Message) (start : ℕ) → IsSpread x o received messages start
    → ((r a : ℕ) → Has (received_at received r) a → Has (received_at others r) a) → ((r a : ℕ) → is_sent messages r a ≡ true → is_sent more r a ≡ true)
    → ((r a : ℕ) → r < start → IsDone y p a → IsDone x o a ⊎ ((has_id (received_at others r) a || is_sent more r a) ≡ true))
    → IsSpread y p others more start
spread-to x y o p received others messages more start spread holds sends new r a less done = elim (new r a less done) [
  | inl old ↦ elim (or_cases (has_id (received_at received r) a) (is_sent messages r a) (spread r a less old)) [
    | inl has ↦ or_left (has_id (received_at others r) a) (is_sent more r a) (holds r a has)
    | inr sent ↦ or_right (has_id (received_at others r) a) (is_sent more r a) (sends r a sent)
  ]
  | inr there ↦ there
]
