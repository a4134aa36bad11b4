-- What every effect of a schedule's run is: of a call of the schedule, and in no transaction or in a begun one.
use Rattle.std.proofs.Common.{◌≡◌, ℕ, suc, ◌+◌, ◌<◌, ◌≤◌, List, [], ◌∷◌, ◌++◌, Option, Some, None, length, length-append, slice_get, refl, sym, subst, arith, inl, inr}
use Rattle.std.specs.Option.{option_map}
use Rattle.ql_base.specs.declared.ids.SessId.{SessId}
use Rattle.ql_base.specs.declared.ids.TypeId.{TypeId}
use Rattle.ql_exec.specs.declared.effect.Effect.{Effect}
use Rattle.ql_exec.specs.declared.effect.Member.{Member}
use Rattle.ql_exec.specs.declared.effect.Member.TheVariants.{Alone, Inside}
use Rattle.ql_exec.specs.Effects.{effect_at}
use Rattle.ql_exec.proofs.Finding.{cases_pushed}
use Rattle.ql_lang.specs.declared.program.Program.{Program}
use Rattle.ql_machine.specs.declared.event.Event.{Event}
use Rattle.ql_machine.specs.declared.open_txn.OpenTxn.{OpenTxn}
use Rattle.ql_machine.specs.declared.reply.Reply.{Reply}
use Rattle.ql_machine.specs.State.{Machine, empty, open_of}
use Rattle.ql_machine.specs.Rules.{Call as Asked, Rules}
use Rattle.ql_machine.specs.Changes.{effect_made, member_of}
use Rattle.ql_machine.specs.Calls.{IsCall, blocked, held, makes, makes_own, makes_strong, unavailable, undeclared, unused}
use Rattle.ql_machine.specs.Deliveries.{IsDelivery, again, applies, cut, gone, waits}
use Rattle.ql_machine.specs.Steps.{IsStep, absent, already_open, begins, begun_txn, calls, commits, delivers, heals, joins_bare, joins_copy, loses, none_open, none_to_lose, none_to_repeat, repeats, resends, splits}
use Rattle.ql_machine.specs.Runs.{IsRun, Leads, replicas_after, step, stop}
use Rattle.ql_machine.proofs.Keeping.{nothing-there}
use Rattle.ql_machine.proofs.Lists.{open-cases, without-cases}
use Rattle.ql_schedule.specs.Guarantees.{AreFit, FitsCall, FitsEvent}
use Rattle.ql_typing.specs.Operations.{all_ops, op_kinds}

module _ (p : Program) (objects : ℕ) (kinds : List TypeId) where
  -- in no transaction, or in one of those begun
  abbrev pub IsMember : ℕ → Member → Type 0
  IsMember begun Alone = Unit {0}
  IsMember begun (Inside run decl) = (1 ≤ run.0) × (run.0 ≤ begun) × (decl.0 < length p.txns)

  pub record IsMade (begun : ℕ) (e : Effect) : Type 0 where
    pub object : e.object.0 < objects
    pub op : e.op.0 < length (all_ops p.types)
    pub type : option_map (λ (t : TypeId). t.0) (slice_get kinds e.object.0) ≡ slice_get (op_kinds p.types) e.op.0
    pub session : e.session.0 < 256
    pub member : IsMember begun e.member

  -- after so many events
  pub record Keeps (n : ℕ) (x : List Effect) (open_txns : List OpenTxn) (begun : ℕ) : Type 0 where
    pub few : length x ≤ n
    pub few_begun : begun ≤ n
    pub open_ones : (session : SessId) (t : OpenTxn) → open_of open_txns session ≡ Some t → IsMember begun (Inside t.run t.decl)
    pub made : (a : ℕ) (e : Effect) → effect_at x a ≡ Some e → IsMade begun e

  abbrev KeepsIn : ℕ → Machine → Type 0
  KeepsIn n s = Keeps n s.effects s.open_txns s.begun

  later : (n : ℕ) (x : List Effect) (open_txns : List OpenTxn) (begun : ℕ) → Keeps n x open_txns begun → Keeps (suc n) x open_txns begun
  later n x open_txns begun k =
      let few = k.few in
      let few_begun = k.few_begun in
      record { few = omega (arith, few); few_begun = omega (arith, few_begun); open_ones = k.open_ones; made = k.made }

  -- ---- an effect more

  member-now : (begun : ℕ) (now : Option OpenTxn) → ((t : OpenTxn) → now ≡ Some t → IsMember begun (Inside t.run t.decl)) → IsMember begun (member_of now)
  member-now begun None h = tt
  member-now begun (Some t) h = h t refl

  effect-made : (rules : Rules) (n replicas : ℕ) (s : Machine) (c : Asked) (seen : List ℕ) → KeepsIn n s → FitsCall p replicas objects kinds c.session c.replica c.object c.op c.args
      → Keeps (suc n) (s.effects ++ effect_made rules s c seen ∷ []) s.open_txns s.begun
  effect-made rules n replicas s c seen k fits =
      let e = effect_made rules s c seen in
      let long = length-append s.effects (e ∷ []) in
      let few = k.few in
      let few_begun = k.few_begun in
      let new : IsMade s.begun e = record {
        object = fits.is_object;
        op = fits.is_op;
        type = fits.type;
        session = fits.caller.is_session;
        member = member-now s.begun (open_of s.open_txns c.session) (k.open_ones c.session);
      } in
      record {
        few = omega (arith, few, long);
        few_begun = omega (arith, few_begun);
        open_ones = k.open_ones;
        made = λ a f at. elim (cases_pushed s.effects e f a at) [
          | inl old ↦ k.made a f old.1
          | inr last ↦ subst (IsMade s.begun) (sym last.1) new
        ];
      }

  keeps-call : (rules : Rules) (n replicas : ℕ) (s : Machine) (c : Asked) (after : Machine) (r : Reply) → IsCall rules s c after r → FitsCall p replicas objects kinds c.session c.replica c.object c.op c.args → KeepsIn n s → KeepsIn (suc n) after
  keeps-call rules n replicas s c _ _ (undeclared t is lacks) fits k = later n s.effects s.open_txns s.begun k
  keeps-call rules n replicas s c _ _ (unused t is declares unlisted) fits k = later n s.effects s.open_txns s.begun k
  keeps-call rules n replicas s c _ _ (unavailable q allowed level least) fits k = later n s.effects s.open_txns s.begun k
  keeps-call rules n replicas s c _ _ (held session allowed level connected least) fits k = later n s.effects s.open_txns s.begun k
  keeps-call rules n replicas s c _ _ (blocked a may least) fits k = later n s.effects s.open_txns s.begun k
  keeps-call rules n replicas s c _ _ (makes seen may none weak) fits k = effect-made rules n replicas s c seen k fits
  keeps-call rules n replicas s c _ _ (makes_strong seen ids may none level are) fits k = effect-made rules n replicas s c seen k fits
  keeps-call rules n replicas s c _ _ (makes_own t seen may is) fits k = effect-made rules n replicas s c seen k fits

  keeps-delivery : (n : ℕ) (s : Machine) (m : ℕ) (after : Machine) (r : Reply) → IsDelivery s m after r → KeepsIn n s → KeepsIn (suc n) after
  keeps-delivery n s m _ _ (gone none) k = later n s.effects s.open_txns s.begun k
  keeps-delivery n s m _ _ (cut message is apart) k = later n s.effects s.open_txns s.begun k
  keeps-delivery n s m _ _ (again message is passes known) k = later n s.effects s.open_txns s.begun k
  keeps-delivery n s m _ _ (waits message a new least) k = later n s.effects s.open_txns s.begun k
  keeps-delivery n s m _ _ (applies message ids new allow are) k = later n s.effects s.open_txns s.begun k

  -- ---- a transaction more

  member-later : (begun : ℕ) (m : Member) → IsMember begun m → IsMember (suc begun) m
  member-later begun Alone h = tt
  member-later begun (Inside run decl) h = let high = h.1 in (h.0, omega (arith, high), h.2)

  made-later : (begun : ℕ) (e : Effect) → IsMade begun e → IsMade (suc begun) e
  made-later begun e is = record { object = is.object; op = is.op; type = is.type; session = is.session; member = member-later begun e.member is.member }

  keeps-step : (rules : Rules) (n replicas : ℕ) (s : Machine) (e : Event) (after : Machine) (r : Reply) → IsStep rules s e after r → FitsEvent p replicas objects kinds e → KeepsIn n s → KeepsIn (suc n) after
  keeps-step rules n replicas s _ _ _ (calls session replica object op args after r is) fits k = keeps-call rules n replicas s _ after r is fits k
  keeps-step rules n replicas s _ _ _ (already_open session replica decl ids t is) fits k = later n s.effects s.open_txns s.begun k
  keeps-step rules n replicas s _ _ _ (begins session replica decl ids snapshot none less are) fits k =
      let few = k.few in
      let few_begun = k.few_begun in
      record {
        few = omega (arith, few);
        few_begun = omega (arith, few_begun);
        open_ones = λ other t is. elim (open-cases s.open_txns (begun_txn s session decl ids snapshot) t other is) [
          | inl old ↦ member-later s.begun (Inside t.run t.decl) (k.open_ones other t old)
          | inr new ↦ subst (λ (u : OpenTxn). IsMember (suc s.begun) (Inside u.run u.decl)) new.1 (omega arith, omega arith, fits.1)
        ];
        made = λ a e at. made-later s.begun e (k.made a e at);
      }
  keeps-step rules n replicas s _ _ _ (none_open session replica none) fits k = later n s.effects s.open_txns s.begun k
  keeps-step rules n replicas s _ _ _ (commits session replica t own is are) fits k =
      let few = k.few in
      let few_begun = k.few_begun in
      record {
        few = omega (arith, few);
        few_begun = omega (arith, few_begun);
        open_ones = λ other u still. k.open_ones other u (without-cases s.open_txns session other u still).1;
        made = k.made;
      }
  keeps-step rules n replicas s _ _ _ (delivers m after r is) fits k = keeps-delivery n s m.0 after r is k
  keeps-step rules n replicas s _ _ _ (none_to_repeat m is) fits k = later n s.effects s.open_txns s.begun k
  keeps-step rules n replicas s _ _ _ (repeats m message is) fits k = later n s.effects s.open_txns s.begun k
  keeps-step rules n replicas s _ _ _ (none_to_lose m is) fits k = later n s.effects s.open_txns s.begun k
  keeps-step rules n replicas s _ _ _ (loses m message is) fits k = later n s.effects s.open_txns s.begun k
  keeps-step rules n replicas s _ _ _ (absent a sender receiver lacks) fits k = later n s.effects s.open_txns s.begun k
  keeps-step rules n replicas s _ _ _ (resends a sender receiver ids has are) fits k = later n s.effects s.open_txns s.begun k
  keeps-step rules n replicas s _ _ _ (splits groups) fits k = later n s.effects s.open_txns s.begun k
  keeps-step rules n replicas s _ _ _ heals fits k = later n s.effects s.open_txns s.begun k
  keeps-step rules n replicas s _ _ _ (joins_copy near less) fits k = later n s.effects s.open_txns s.begun k
  keeps-step rules n replicas s _ _ _ (joins_bare near ids less are) fits k = later n s.effects s.open_txns s.begun k

  keeps-leads : (rules : Rules) (n m replicas : ℕ) (s : Machine) (events : List Event) (replies : List Reply) (last : Machine) → Leads rules s events replies last → m ≡ n + length events
      → AreFit p objects kinds replicas events → KeepsIn n s → KeepsIn m last
  keeps-leads rules n m replicas _ _ _ _ (stop s) is fit k = let same : n ≡ m = omega (arith, is) in subst (λ (j : ℕ). KeepsIn j s) same k
  keeps-leads rules n m replicas _ _ _ _ (step s e next r events replies last now more) is fit k =
      keeps-leads rules (suc n) m (replicas_after replicas e) next events replies last more (omega (arith, is)) fit.1 (keeps-step rules n replicas s e next r now fit.0 k)

  nothing-yet : (n : ℕ) → KeepsIn 0 (empty n)
  nothing-yet n = record {
    few = omega arith;
    few_begun = omega arith;
    open_ones = λ session t is. (let never : None ≡ Some t = is in absurd cc);
    made = λ a e at. absurd (nothing-there a e at);
  }

  pub run-keeps : (rules : Rules) (n : ℕ) (events : List Event) (replies : List Reply) (last : Machine) → IsRun rules n events replies last
      → AreFit p objects kinds n events → Keeps (length events) last.effects last.open_txns last.begun
  run-keeps rules n events replies last run fit = keeps-leads rules 0 (length events) n (empty n) events replies last run (omega arith) fit (nothing-yet n)
