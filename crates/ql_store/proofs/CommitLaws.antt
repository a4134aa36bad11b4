-- A transaction that is committed.
use Rattle.std.proofs.Common.{◌≡◌, ◌<◌, ◌≤◌, ◌∷◌, ◌++◌, [], ℕ, zero, suc, true, false, List, Some, length, get_or, set, map, ap, sym, subst, ◌∙◌, refl, arith}
use Rattle.std.proofs.lemmas.Bool.{false≢true, false_from_ne_true}
use Rattle.std.proofs.lemmas.List.{append-nil, get_or-map, set-get_or}
use Rattle.std.specs.Cmp.{both_ways as same_bools}
use Rattle.ql_base.specs.IdLists.{IsAscending, has_id, union_of}
use Rattle.ql_base.proofs.IdLemmas.{union_of-nothing}
use Rattle.ql_base.specs.declared.ids.ReplicaId.{ReplicaId}
use Rattle.ql_base.specs.declared.ids.SessId.{SessId}
use Rattle.ql_exec.specs.declared.effect.Effect.{Effect}
use Rattle.ql_exec.specs.Relations.{inside, sametxn}
use Rattle.ql_exec.proofs.Finding.{effect_at-within}
use Rattle.ql_holder.specs.Closed.{Has}
use Rattle.ql_holder.specs.Needs.{IsPackage}
use Rattle.ql_machine.specs.declared.event.Event.TheVariants as event
use Rattle.ql_machine.specs.declared.message.Message.{Message}
use Rattle.ql_machine.specs.declared.open_txn.OpenTxn.{OpenTxn}
use Rattle.ql_machine.specs.declared.reply.Reply.TheVariants as reply
use Rattle.ql_machine.specs.Changes.{package_to_others, received_by}
use Rattle.ql_machine.specs.Rules.{Promises, Rules}
use Rattle.ql_machine.specs.Sets.{AreThose}
use Rattle.ql_machine.specs.State.{Machine, open_of, received_at}
use Rattle.ql_machine.specs.Steps.{IsStep, after_commit, commits}
use Rattle.ql_machine.specs.Kept.{Keeps}
use Rattle.ql_machine.proofs.Lists.{without-cases}
use Rattle.ql_machine.proofs.Pushed.{inside-found, undone}
use Rattle.ql_machine.proofs.TxnLaws.{inside-along, together}
use Rattle.ql_net.specs.Network.{Network}
use Rattle.ql_shim.specs.Changed.{IsFinished}
use Rattle.ql_shim.specs.Transactions.{Transactions, open_txns}
use Rattle.ql_store.specs.State.{AreKnown, machine_of}
use Rattle.ql_store.proofs.BeginLaws.{known-same}

-- the effects of a transaction are a package, where there are any
pub own-package : (x : List Effect) (run : ℕ) (own : List ℕ) → AreThose (λ a. inside x run a ≡ true) own → (a : ℕ) → Has own a → IsPackage x own
own-package x run own are a has =
    let in_it = are.only a has in
    record {
      member = a;
      first = by a in_it;
      last = (let found = inside-found x run a in_it in effect_at-within x a found.0 found.1);
      all = λ b. same_bools (has_id own b) (sametxn x a b) (λ member. together x run a b in_it (are.only b member)) (λ same. are.all b (inside-along x run a b in_it same));
    }
  where
    by : (b : ℕ) → inside x run b ≡ true → 1 ≤ b
    by zero is = absurd (false≢true is)
    by (suc b) is = omega arith

-- no replica has received one of them
pub own-absent : (promises : Promises) (n : ℕ) (s : Machine) (session : SessId) (t : OpenTxn) (own : List ℕ) (r : ℕ) → Keeps promises n s → open_of s.open_txns session ≡ Some t
    → AreThose (λ a. inside s.effects t.run.0 a ≡ true) own → (a : ℕ) → Has own a → has_id (received_at s.received r) a ≡ false
own-absent promises n s session t own r keeps now are a has =
    false_from_ne_true (has_id (received_at s.received r) a)
    (λ held. undone s.effects s.open_txns s.begun keeps.sound.txns session t now a (are.only a has) (keeps.stored.held r a held))

no-length : (ids : List ℕ) → length ids ≡ 0 → ids ≡ []
no-length [] none = refl
no-length (a ∷ ids) none = absurd (omega (arith, none))

-- where nothing is received, nothing changes
pub none-received : {A : Type 0} (received : A → List ℕ) (holders : List A) (r : ℕ) (own : List ℕ) → r < length holders → ((d : A) → IsAscending (received (get_or holders r d))) → length own ≡ 0
    → map received holders ≡ received_by (map received holders) r own
none-received received [] r own inside ascend none = absurd (omega (arith, inside))
none-received received (h ∷ holders) r own inside ascend none =
    let lists = map received (h ∷ holders) in
    let at : received_at lists r ≡ received (get_or (h ∷ holders) r h) = get_or-map received (h ∷ holders) r h [] inside in
    let same : union_of (received_at lists r) own ≡ received_at lists r =
    ap (union_of (received_at lists r)) (no-length own none) ∙ union_of-nothing (received_at lists r) (subst IsAscending (sym at) (ascend h)) in
    sym (ap (λ (ids : List ℕ). set lists r ids) same ∙ set-get_or lists r [])

pub none-sent : (net : Network) (r : ReplicaId) (own : List ℕ) → length own ≡ 0
    → net ≡ record net { messages = net.messages ++ package_to_others (length net.groups) r own }
none-sent net r own none =
    let nothing : net.messages ++ package_to_others (length net.groups) r own ≡ net.messages =
    ap (λ (ids : List ℕ). net.messages ++ package_to_others (length net.groups) r ids) (no-length own none) ∙ append-nil net.messages in
    ap (λ (messages : List Message). let k : Network = record net { messages = messages } in k) (sym nothing)

pub step-commits : (rules : Rules) (x : List Effect) (received lists : List (List ℕ)) (net later : Network) (before after : Transactions) (session : SessId) (replica : ReplicaId) (t : OpenTxn) (own : List ℕ)
    → open_of (open_txns before) session ≡ Some t → AreThose (λ a. inside x t.run.0 a ≡ true) own → length net.groups ≡ length received → lists ≡ received_by received replica.0 own
    → later ≡ record net { messages = net.messages ++ package_to_others (length net.groups) replica own } → IsFinished before after session
    → IsStep rules (machine_of x received net before) (event.Commit session replica) (machine_of x lists later after) (reply.Committed own)
step-commits rules x received lists net later before after session replica t own now are grouped got sent finished =
    let s = machine_of x received net before in
    let network : later ≡ record net { messages = net.messages ++ package_to_others (length received) replica own } =
    sent ∙ ap (λ (n : ℕ). let k : Network = record net { messages = net.messages ++ package_to_others n replica own } in k) grouped in
    let same : after_commit s session replica own ≡ machine_of x lists later after =
    λ i. (record { effects = x; received = sym got i; groups = (sym network i).groups; messages = (sym network i).messages; open_txns = sym finished.open_now i; begun = sym finished.begun i }) in
    subst (λ (k : Machine). IsStep rules s (event.Commit session replica) k (reply.Committed own)) same (commits session replica t own now are)

pub known-finished : (x : List Effect) (before after : Transactions) (session : SessId) → IsFinished before after session → AreKnown x before → AreKnown x after
known-finished x before after session finished known other u is =
    let old = without-cases (open_txns before) session other u (subst (λ (o : List OpenTxn). open_of o other ≡ Some u) finished.open_now is) in
    known-same x u before after other (finished.others other old.0) (known other u old.1)
