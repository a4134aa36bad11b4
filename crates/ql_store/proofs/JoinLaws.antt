-- A replica joins.
use Rattle.std.proofs.Common.{◌≡◌, ◌∷◌, ◌++◌, [], ◌<◌, ℕ, Bool, true, false, List, Some, length, map, nat_eq, refl, ap, sym, subst, ◌∙◌, inl, inr}
use Rattle.std.specs.Prelude.{All, Result, Ok, Err, IfOk, OnOk, OnErr}
use Rattle.std.proofs.lemmas.List.{map-append}
use Rattle.std.proofs.lemmas.List.Elements.{All-push}
use Rattle.std.proofs.lemmas.Bool.{eqb-true, false≢true, or_cases}
use Rattle.std.proofs.lemmas.Option.{same_Some}
use Rattle.ql_base.specs.declared.ids.OpId.{OpId}
use Rattle.ql_base.specs.declared.no_memory.NoMemory.{NoMemory}
use Rattle.ql_base.specs.declared.ids.ReplicaId.{ReplicaId}
use Rattle.ql_exec.specs.declared.effect.Effect.{Effect}
use Rattle.ql_exec.specs.declared.effect.Member.{Member}
use Rattle.ql_exec.specs.declared.effect.Member.TheVariants.{Alone, Inside}
use Rattle.ql_exec.specs.Effects.{both, effect_at, one}
use Rattle.ql_exec.specs.Relations.{same_run}
use Rattle.ql_exec.proofs.Finding.{both-found, effect_at-within}
use Rattle.ql_levels.specs.declared.level.Level.{Level}
use Rattle.ql_levels.specs.Lists.{LevelLists}
use Rattle.ql_levels.specs.declared.level.Level.TheVariants.{Eventual, Causal, Wide, Strong}
use Rattle.ql_holder.specs.Closed.{Has}
use Rattle.ql_holder.specs.Needs.{AreWhole, IsNeeded}
use Rattle.ql_holder.proofs.ClosedLaws.{closed-member}
use Rattle.ql_holder.proofs.NeedsLaws.{at-first}
use Rattle.ql_machine.specs.declared.event.Event.TheVariants as event
use Rattle.ql_machine.specs.declared.reply.Reply.{Reply}
use Rattle.ql_machine.specs.declared.reply.Reply.TheVariants as reply
use Rattle.ql_machine.specs.Changes.{after_join}
use Rattle.ql_machine.specs.Rules.{Rules}
use Rattle.ql_machine.specs.Sets.{AreThose}
use Rattle.ql_machine.specs.State.{Machine, NeedsNow, group_at, received_at, replicas}
use Rattle.ql_machine.specs.Steps.{IsOfStrong, IsStep, IsUnderStrong, joins_bare, joins_copy}
use Rattle.ql_machine.specs.Kept.{IsDone, Keeps}
use Rattle.ql_machine.proofs.Alone.{reaches-same}
use Rattle.ql_machine.proofs.Pushed.{one-found}
use Rattle.ql_net.specs.Network.{Network}
use Rattle.ql_shim.specs.Transactions.{Transactions}
use Rattle.ql_store.specs.Joining.{AreAlone, IsNeededByStrong, is_strong}
use Rattle.ql_session.specs.declared.note.Note.{Note}
use Rattle.ql_store.specs.Levels.{promises_of}
use Rattle.ql_store.specs.State.{IsKept, machine_of}
use Rattle.ql_store.proofs.KeptLaws.{both-failed, kept-either, machine-same, some_rules}
use Rattle.ql_store.proofs.StrongLaws.{strong-ok}
use Rattle.ql_store.proofs.CommittedLaws.{ArePassing}

-- ---- strong effects

strong-level : (level : Level) → is_strong level ≡ true → level ≡ Strong
strong-level Eventual is = absurd (false≢true is)
strong-level Causal is = absurd (false≢true is)
strong-level Wide is = absurd (false≢true is)
strong-level Strong is = refl

-- those that pass the test are of strong operations
pub passing-strong : (level : OpId → Level) (x : List Effect) (ids : List ℕ) → ArePassing x (λ e. is_strong (level e.op)) ids → AreThose (IsOfStrong level x) ids
passing-strong level x ids those = record {
  ascending = those.ascending;
  all = λ a is. those.all a (passes a is.0 is.1 is.2);
  only = λ a has.
      let found = one-found (λ (e : Effect). is_strong (level e.op)) (effect_at x a) (those.only a has) in
      (found.0, found.1, strong-level (level found.0.op) found.2);
}
  where
    passes : (a : ℕ) (e : Effect) → effect_at x a ≡ Some e → level e.op ≡ Strong → one (λ (e : Effect). is_strong (level e.op)) (effect_at x a) ≡ true
    passes a e at is = ap (one (λ (f : Effect). is_strong (level f.op))) at ∙ ap is_strong is

apart : (m : Member) → same_run Alone m ≡ true → ⊥
apart Alone is = false≢true is
apart (Inside run decl) is = false≢true is

-- effects outside any transaction are whole transactions
pub strong-whole : (level : OpId → Level) (x : List Effect) (ids : List ℕ) → AreAlone level x → AreThose (IsOfStrong level x) ids → AreWhole x ids
strong-whole level x ids alone those = record {
  there = λ a has. (let is = those.only a has in (at-first x a is.0 is.1, effect_at-within x a is.0 is.1));
  whole = λ a b has same. elim (or_cases (nat_eq a b) (both (λ f g. same_run f.member g.member) (effect_at x a) (effect_at x b)) same) [
    | inl one ↦ subst (Has ids) (eqb-true a b one) has
    | inr run ↦
        let is = those.only a has in
        let found = both-found (λ f g. same_run f.member g.member) (effect_at x a) (effect_at x b) run in
        let its : found.0 ≡ is.0 = same_Some found.0 is.0 (sym found.2 ∙ is.1) in
        let member : found.0.member ≡ Alone = ap (λ (e : Effect). e.member) its ∙ alone a is.0 is.1 is.2 in
        absurd (apart found.1.member (subst (λ (m : Member). same_run m found.1.member ≡ true) member found.4))
  ];
}

-- what these need
pub needed-by-strong : (level : OpId → Level) (x : List Effect) (strong ids : List ℕ) → AreThose (IsOfStrong level x) strong → AreThose (IsNeeded x strong) ids → AreThose (IsNeededByStrong level x) ids
needed-by-strong level x strong ids are those = record {
  ascending = those.ascending;
  all = λ b is. those.all b (is.0, are.all is.0 is.1, is.2);
  only = λ b has. (let is = those.only b has in (is.0, are.only is.0 is.1, is.2));
}

-- committed effects need the same with every transaction taken as committed
pub under-strong : (rules : Rules) (start : ℕ) (s : Machine) → Keeps rules.promises start s → (near : ReplicaId) → near.0 < replicas s
    → (ids : List ℕ) → AreThose (IsNeededByStrong rules.level s.effects) ids → AreThose (IsUnderStrong rules s) ids
under-strong rules start s keeps near inside ids those = record {
  ascending = those.ascending;
  all = λ b is. those.all b (is.0, is.1, (reaches-same rules.promises start s keeps is.0 b (done is.0 is.1)).0 is.2);
  only = λ b has. (let is = those.only b has in (is.0, is.1, (reaches-same rules.promises start s keeps is.0 b (done is.0 is.1)).1 is.2));
}
  where
    done : (a : ℕ) → IsOfStrong rules.level s.effects a → IsDone s.effects s.open_txns a
    done a is =
        keeps.stored.held near.0 a
        (closed-member (NeedsNow s.effects s.open_txns) (Has (received_at s.received near.0)) a (keeps.strong.applied a is.0 (is.1, is.2) near.0 inside))

-- ---- steps

module _ (rules : Rules) (x : List Effect) (received lists : List (List ℕ)) (net later : Network) (shim : Transactions) (near : ReplicaId)
    (grouped : length net.groups ≡ length received) (inside : near.0 < length received)
    (group : later ≡ record net { groups = net.groups ++ group_at net.groups near.0 ∷ [] }) (r : Reply) (number : r ≡ reply.Joined (record { 0 = length net.groups })) where
  after-is : (ids : List ℕ) → lists ≡ received ++ ids ∷ [] → after_join (machine_of x received net shim) near ids ≡ machine_of x lists later shim
  after-is ids got = λ i. machine_of x (sym got i) (sym group i) shim

  reply-is : reply.Joined (record { 0 = length received }) ≡ r
  reply-is = ap (λ (n : ℕ). reply.Joined (record { 0 = n })) (sym grouped) ∙ sym number

  pub step-copies : lists ≡ received ++ received_at received near.0 ∷ [] → IsStep rules (machine_of x received net shim) (event.Join near true) (machine_of x lists later shim) r
  step-copies got =
      let s = machine_of x received net shim in
      subst (IsStep rules s (event.Join near true) (machine_of x lists later shim)) reply-is
      (subst (λ (t : Machine). IsStep rules s (event.Join near true) t (reply.Joined (record { 0 = length received }))) (after-is (received_at received near.0) got) (joins_copy near inside))

  pub step-bare : (ids : List ℕ) → lists ≡ received ++ ids ∷ [] → AreThose (IsUnderStrong rules (machine_of x received net shim)) ids
      → IsStep rules (machine_of x received net shim) (event.Join near false) (machine_of x lists later shim) r
  step-bare ids got are =
      let s = machine_of x received net shim in
      subst (IsStep rules s (event.Join near false) (machine_of x lists later shim)) reply-is
      (subst (λ (t : Machine). IsStep rules s (event.Join near false) t (reply.Joined (record { 0 = length received }))) (after-is ids got) (joins_bare near ids inside are))

-- ---- what a store keeps, and its reply

-- what is so before and after is so
so-either : {A : Type 0} (P : A → Type 0) (r : Result Reply NoMemory) (old new now : A) → OnOk r (now ≡ new) → OnErr r (now ≡ old) → P old → P new → P now
so-either P (Ok k) old new now is same before after = subst P (sym is) after
so-either P (Err k) old new now is same before after = subst P (sym same) before

module _ {A : Type 0} (got : A → List ℕ) (levels : LevelLists) (x : List Effect) (notes : List Note) (shim : Transactions) (holders more : List A) (joining : A) (net later : Network)
    (r : Result Reply NoMemory) (number : IfOk r (λ k. k ≡ reply.Joined (record { 0 = length net.groups }))) (pushed : OnOk r (more ≡ holders ++ joining ∷ [])) where
  -- each holder has what it received before the event
  pub fits-joined : (fits : A → Type 0) → OnErr r (more ≡ holders) → All fits holders → fits joining → All fits more
  fits-joined fits same old new = so-either (All fits) r holders (holders ++ joining ∷ []) more pushed same old (All-push fits holders joining old new)

  module _ (near : ReplicaId) (copy : Bool) (group : OnOk r (later ≡ record net { groups = net.groups ++ group_at net.groups near.0 ∷ [] })) where
    -- the reply, where the new holder is at the end of the list
    pub joined-ok : (P : Reply → Type 0)
        → ((k : Reply) → k ≡ reply.Joined (record { 0 = length net.groups }) → map got more ≡ map got holders ++ got joining ∷ [] → later ≡ record net { groups = net.groups ++ group_at net.groups near.0 ∷ [] } → P k)
        → IfOk r P
    joined-ok P makes =
        strong-ok r (λ k. k ≡ reply.Joined (record { 0 = length net.groups })) P (more ≡ holders ++ joining ∷ []) (later ≡ record net { groups = net.groups ++ group_at net.groups near.0 ∷ [] }) number pushed group
        (λ k n is g. makes k n (ap (map got) is ∙ map-append got holders (joining ∷ [])) g)

    pub kept-joined : OnErr r (more ≡ holders) → OnErr r (later ≡ net) → IsKept levels (machine_of x (map got holders) net shim) notes shim → near.0 < length (map got holders) → length (map got holders) < 16
        → IfOk r (λ k. IsStep (some_rules (promises_of levels)) (machine_of x (map got holders) net shim) (event.Join near copy) (machine_of x (map got more) later shim) k)
        → IsKept levels (machine_of x (map got more) later shim) notes shim
    kept-joined same same_net kept inside few steps =
        let rules = some_rules (promises_of levels) in
        let s = machine_of x (map got holders) net shim in
        let t = machine_of x (map got more) later shim in
        kept-either levels s t notes notes shim shim (event.Join near copy) r (λ k. IsStep rules s (event.Join near copy) t k) kept steps
        (both-failed r (more ≡ holders) (later ≡ net) (t ≡ s) same same_net (λ m n. machine-same x (map got holders) (map got more) net later shim (ap (map got) m) n))
        (λ k is. (rules, refl, is)) (inside, few) kept.noted kept.known
