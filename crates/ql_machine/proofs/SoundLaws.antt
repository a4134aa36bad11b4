-- The first part: the execution, what is seen with what is seen, and open transactions. And history: what is committed
-- needs committed effects alone.
use Rattle.std.proofs.Common.{◌≡◌, ℕ, suc, ◌≤◌, ◌⊎◌, not, true, nat_eq, List, [], ◌∷◌, ◌++◌, length, Option, Some, None, refl, ap, sym, subst, ◌∙◌, inl, inr, arith}
use Rattle.std.proofs.lemmas.Option.{same_Some}
use Rattle.std.proofs.lemmas.Bool.{and_parts, both_ways, cases_Bool, eq-eqb, eqb-true, false≢true, or_cases}
use Rattle.ql_base.specs.declared.ids.OpId.{OpId}
use Rattle.ql_base.specs.declared.ids.SessId.{SessId}
use Rattle.ql_exec.specs.declared.effect.Effect.{Effect}
use Rattle.ql_exec.specs.declared.effect.Member.{Member}
use Rattle.ql_exec.specs.declared.effect.Member.TheVariants.{Alone, Inside}
use Rattle.ql_exec.specs.Effects.{effect_at, both, in_run}
use Rattle.ql_exec.specs.Execution.{is_declared_as}
use Rattle.ql_exec.specs.Relations.{hb, so, vis, sameobj, soo, same_run, inside}
use Rattle.ql_exec.proofs.Finding.{both-found, cases_pushed, effect_at-append, effect_at-last, effect_at-within, in_run-along, so_parts}
use Rattle.ql_levels.specs.declared.level.Level.{Level}
use Rattle.ql_holder.proofs.NeedsLaws.{step-before}
use Rattle.ql_machine.specs.declared.open_txn.OpenTxn.{OpenTxn}
use Rattle.ql_machine.specs.State.{NeedsNow, committed, is_done, open_of}
use Rattle.ql_machine.specs.Rules.{Promises}
use Rattle.ql_machine.specs.Changes.{member_of, without}
use Rattle.ql_machine.specs.Kept.{History, IsDone, IsNumbered, IsOpen, IsOwn, IsSound, TxnsKept}
use Rattle.ql_machine.proofs.Lists.{committed-begun, done-kept, done-own, open-cases, without-cases, without-other}
use Rattle.ql_machine.proofs.Pushed.{both-shorter, done-cases, done-closed, done-found, done-from, done-longer, inside-cases, inside-found, inside-from, inside-longer, member-open, needs-shorter, not_done, object-found, same_session, seen-found, so-cases, step-cases, vis-cases, vis-longer, vis-new}
use Rattle.ql_machine.proofs.Made.{IsBeside, IsMade}
use Rattle.ql_machine.proofs.Past.{hb-less, hb-shorter, past-new}

-- ---- a call

module _ (promises : Promises) (x : List Effect) (o : List OpenTxn) (begun : ℕ) (e : Effect) (sound : IsSound promises.level x o begun) (made : IsMade promises x o e) where
  -- the new effect is in the transaction that its session has open
  new-inside : (t : OpenTxn) → IsOpen o e.session t → in_run t.run.0 e.member ≡ true
  new-inside t now = ap (in_run t.run.0) (made.joined ∙ ap member_of now) ∙ eq-eqb t.run.0 t.run.0 refl

  txns-push : TxnsKept (x ++ e ∷ []) o begun
  txns-push = record {
    numbered = λ a f at. elim (cases_pushed x e f a at) [
      | inl old ↦ sound.txns.numbered a f old.1
      | inr new ↦ subst (λ (g : Effect). IsNumbered begun g.member) (sym new.1) (subst (IsNumbered begun) (sym made.joined) (number (open_of o e.session) refl))
    ];
    open_numbered = sound.txns.open_numbered;
    distinct = sound.txns.distinct;
    own = λ session t is_open a f at is. elim (cases_pushed x e f a at) [
      | inl old ↦ sound.txns.own session t is_open a f old.1 is
      | inr new ↦ subst (IsOwn session t) (sym new.1) (owns session t is_open (subst (λ (g : Effect). in_run t.run.0 g.member ≡ true) new.1 is))
    ];
    last = λ session t is_open a b is later. elim (so-cases x e a b later) [
      | inl old ↦
          let order = so_parts x a b old in
          let within = effect_at-within x a order.first order.first_at in
          inside-longer x (e ∷ []) t.run.0 b (sound.txns.last session t is_open a b (earlier t.run.0 a within is) old)
      | inr new ↦
          let within = effect_at-within x a new.1 new.2 in
          let inside_x = earlier t.run.0 a within is in
          let found = inside-found x t.run.0 a inside_x in
          let own = sound.txns.own session t is_open a found.0 found.1 found.2 in
          let same : found.0 ≡ new.1 = same_Some found.0 new.1 (sym found.1 ∙ new.2) in
          let session_is : e.session ≡ session = same_session e.session session (sym new.3 ∙ ap (λ (g : Effect). g.session.0) (sym same) ∙ own.in_session) in
          inside-from (x ++ e ∷ []) t.run.0 b e (ap (effect_at (x ++ e ∷ [])) new.0 ∙ effect_at-last x e) (new-inside t (ap (open_of o) session_is ∙ is_open))
    ];
  }
    where
      number : (r : Option OpenTxn) → open_of o e.session ≡ r → IsNumbered begun (member_of r)
      number None is = tt
      number (Some t) is = sound.txns.open_numbered e.session t is

      owns : (session : SessId) (t : OpenTxn) → IsOpen o session t → in_run t.run.0 e.member ≡ true → IsOwn session t e
      owns session t is_open is =
          let now = member-open o e.session t.run.0 e.member made.joined is in
          let same = sound.txns.distinct e.session session now.0 t now.1 is_open now.2 in
          let one : now.0 ≡ t = same_Some now.0 t (sym now.1 ∙ ap (open_of o) (same_session e.session session same) ∙ is_open) in
          record {
            in_session = same;
            under_name = ap (is_declared_as t.decl) now.3 ∙ eq-eqb now.0.decl.0 t.decl.0 (ap (λ (u : OpenTxn). u.decl.0) one);
            declared_object = (made.if_open t (ap (open_of o) (same_session e.session session same) ∙ is_open)).declared;
          }

      earlier : (run a : ℕ) → a ≤ length x → inside (x ++ e ∷ []) run a ≡ true → inside x run a ≡ true
      earlier run a within is = elim (inside-cases x e run a is) [
        | inl old ↦ old
        | inr new ↦ absurd (let last = new.0 in omega (arith, within, last))
      ]

  pub sound-push : IsSound promises.level (x ++ e ∷ []) o begun
  sound-push = record {
    execution = made.grown;
    closed = λ a b c seen step. elim (vis-cases x e made.grown b c seen) [
      | inl old ↦ elim (step-cases x e made.grown a b step) [
        | inl step_x ↦ vis-longer x (e ∷ []) a c (sound.closed a b c old step_x)
        | inr new ↦ absurd (let found = seen-found x b c old in let within = effect_at-within x b found.0 found.2 in let last = new.0 in omega (arith, within, last))
      ]
      | inr new ↦ elim (step-cases x e made.grown a b step) [
        | inl step_x ↦ vis-new x e made.grown a c new.0 (made.closed a b new.1 step_x)
        | inr more ↦ absurd (let less = ((made.grown.sees (suc (length x)) e (effect_at-last x e)).0 b new.1).0 in let last = more.0 in omega (arith, less, last))
      ]
    ];
    causal = λ a c f at level step. elim (cases_pushed x e f c at) [
      | inl old ↦ elim (step-cases x e made.grown a c step) [
        | inl step_x ↦ vis-longer x (e ∷ []) a c (sound.causal a c f old.1 level step_x)
        | inr new ↦ absurd (let within = old.0 in let last = new.0 in omega (arith, within, last))
      ]
      | inr new ↦ elim (step-cases x e made.grown a c step) [
        | inl step_x ↦ absurd (let within = (step-before x sound.execution c a step_x).2 in let last = new.0 in omega (arith, within, last))
        | inr more ↦ elim (more.1) [
          | inl seen ↦ vis-new x e made.grown a c new.0 seen
          | inr before ↦
              vis-new x e made.grown a c new.0
              (made.causal (ap (λ (g : Effect). promises.level g.op) (sym new.1) ∙ level) a before.effect before.at before.in_session before.on_object)
        ]
      ]
    ];
    wide = λ a c f at level before on. elim (cases_pushed x e f c at) [
      | inl old ↦
          let before_x = hb-shorter x e made.grown a c old.0 before in
          let less = hb-less x sound.execution a c before_x in
          let within = old.0 in
          vis-longer x (e ∷ []) a c
          (sound.wide a c f old.1 level before_x (both-shorter x (e ∷ []) (λ g h. nat_eq g.object.0 h.object.0) a c (omega (arith, less, within)) old.0 on))
      | inr new ↦
          vis-new x e made.grown a c new.0
          (made.wide (ap (λ (g : Effect). promises.level g.op) (sym new.1) ∙ level) a (beside a c new.0 before on) (past-new x e made.grown a c new.0 before))
    ];
    txns = txns-push;
  }
    where
      -- what happened before the new effect on its object is of the execution before it
      beside : (a c : ℕ) → c ≡ suc (length x) → hb (x ++ e ∷ []) a c ≡ true → sameobj (x ++ e ∷ []) a c ≡ true → IsBeside x e a
      beside a c new before on =
          let found = object-found (x ++ e ∷ []) a c on in
          let less = hb-less (x ++ e ∷ []) made.grown a c before in
          let last : found.1 ≡ e = same_Some found.1 e (sym found.3 ∙ ap (effect_at (x ++ e ∷ [])) new ∙ effect_at-last x e) in
          record {
            effect = found.0;
            at = sym (effect_at-append x (e ∷ []) a (omega (arith, less, new))) ∙ found.2;
            on_object = found.4 ∙ ap (λ (g : Effect). g.object.0) last;
          }

  module _ (history : History x o) where
    pub done-new : is_done (open_of o e.session) e.member ≡ true → open_of o e.session ≡ None
    done-new done = by (open_of o e.session) refl
      where
        by : (r : Option OpenTxn) → open_of o e.session ≡ r → r ≡ None
        by None is = refl
        by (Some t) is = absurd (not_done t e.member (new-inside t is) (subst (λ (r : Option OpenTxn). is_done r e.member ≡ true) is done))

    -- what the new effect needs, where it is committed
    needs-new : open_of o e.session ≡ None → (a b : ℕ) → a ≡ suc (length x) → IsDone (x ++ e ∷ []) o a → NeedsNow (x ++ e ∷ []) o a b → IsDone (x ++ e ∷ []) o b
    needs-new none a b new done (inl step) = elim (step-cases x e made.grown b a step) [
      | inl old ↦ absurd (let within = (step-before x sound.execution a b old).2 in omega (arith, within, new))
      | inr more ↦ elim (more.1) [
        | inl seen ↦ elim (made.known b seen) [
          | inl is ↦ done-longer x o (e ∷ []) b is
          | inr own ↦ absurd (let never : None ≡ Some own.0 = sym none ∙ own.1 in cc)
        ]
        | inr before ↦
            done-longer x o (e ∷ []) b
            (done-closed x o b before.effect before.at (ap (open_of o) (same_session before.effect.session e.session before.in_session) ∙ none))
      ]
    ]
    needs-new none a b new done (inr txn) = elim (or_cases (nat_eq a b) (both (λ f g. same_run f.member g.member) (effect_at (x ++ e ∷ []) a) (effect_at (x ++ e ∷ []) b)) txn.1) [
      | inl same ↦ subst (IsDone (x ++ e ∷ []) o) (eqb-true a b same) done
      | inr run ↦
          let found = both-found (λ f g. same_run f.member g.member) (effect_at (x ++ e ∷ []) a) (effect_at (x ++ e ∷ []) b) run in
          let is_e : found.0 ≡ e = same_Some found.0 e (sym found.2 ∙ ap (effect_at (x ++ e ∷ [])) new ∙ effect_at-last x e) in
          let alone : found.0.member ≡ Alone = ap (λ (g : Effect). g.member) is_e ∙ made.joined ∙ ap member_of none in
          absurd (apart found.1.member (subst (λ (m : Member). same_run m found.1.member ≡ true) alone found.4))
    ]
      where
        apart : (m : Member) → same_run Alone m ≡ true → ⊥
        apart Alone is = false≢true is
        apart (Inside run decl) is = false≢true is

    pub history-push : History (x ++ e ∷ []) o
    history-push = record {
      done = λ a b done needs. elim (done-cases x o e a done) [
        | inl old ↦ done-longer x o (e ∷ []) b (history.done a b old (needs-shorter x o begun sound.txns e made.joined made.grown a b old needs))
        | inr new ↦ needs-new (done-new new.1) a b new.0 done needs
      ];
      own = λ session t is_open a b is seen. elim (inside-cases x e t.run.0 a is) [
        | inl old ↦ elim (vis-cases x e made.grown b a seen) [
          | inl seen_x ↦ longer t.run.0 b (history.own session t is_open a b old seen_x)
          | inr new ↦ absurd (let found = inside-found x t.run.0 a old in let within = effect_at-within x a found.0 found.1 in let last = new.0 in omega (arith, within, last))
        ]
        | inr new ↦ elim (vis-cases x e made.grown b a seen) [
          | inl seen_x ↦ absurd (let found = seen-found x b a seen_x in let within = effect_at-within x a found.1 found.3 in let last = new.0 in omega (arith, within, last))
          | inr more ↦ elim (made.known b more.1) [
            | inl done ↦ inl (done-longer x o (e ∷ []) b done)
            | inr own ↦
                let now = member-open o e.session t.run.0 e.member made.joined new.1 in
                let same : own.0 ≡ now.0 = same_Some own.0 now.0 (sym own.1 ∙ now.1) in
                let run : own.0.run.0 ≡ t.run.0 = ap (λ (u : OpenTxn). u.run.0) same ∙ now.2 in
                inr (inside-longer x (e ∷ []) t.run.0 b (subst (λ (n : ℕ). inside x n b ≡ true) run own.2))
          ]
        ]
      ];
    }
      where
        longer : (run b : ℕ) → IsDone x o b ⊎ (inside x run b ≡ true) → IsDone (x ++ e ∷ []) o b ⊎ (inside (x ++ e ∷ []) run b ≡ true)
        longer run b (inl done) = inl (done-longer x o (e ∷ []) b done)
        longer run b (inr own) = inr (inside-longer x (e ∷ []) run b own)

-- ---- a begin

module _ (x : List Effect) (o : List OpenTxn) (begun : ℕ) (txns : TxnsKept x o begun) (t : OpenTxn) (new : t.run.0 ≡ suc begun) where
  -- no effect is of a transaction that begins
  pub none-own : (a : ℕ) (e : Effect) → effect_at x a ≡ Some e → in_run t.run.0 e.member ≡ true → ⊥
  none-own a e at is = by e.member (txns.numbered a e at) is
    where
      by : (m : Member) → IsNumbered begun m → in_run t.run.0 m ≡ true → ⊥
      by Alone low is = false≢true is
      by (Inside run decl) low is = let same = eqb-true run.0 t.run.0 is in omega (arith, same, low, new)

  pub committed-begin : (a : ℕ) → committed x (o ++ t ∷ []) a ≡ committed x o a
  committed-begin a = committed-begun x o t begun (omega (arith, new)) txns.numbered a

  pub txns-begin : TxnsKept x (o ++ t ∷ []) (suc begun)
  txns-begin = record {
    numbered = λ a e at. higher e.member (txns.numbered a e at);
    open_numbered = λ session u is. elim (open-cases o t u session is) [
      | inl old ↦ let low = txns.open_numbered session u old in omega (arith, low)
      | inr more ↦ let same : t.run.0 ≡ u.run.0 = ap (λ (v : OpenTxn). v.run.0) more.1 in omega (arith, same, new)
    ];
    distinct = λ session other u v one two same. elim (open-cases o t u session one) [
      | inl old ↦ elim (open-cases o t v other two) [
        | inl old_too ↦ txns.distinct session other u v old old_too same
        | inr more ↦ absurd (let low = txns.open_numbered session u old in let is_t : t.run.0 ≡ v.run.0 = ap (λ (w : OpenTxn). w.run.0) more.1 in omega (arith, low, is_t, same, new))
      ]
      | inr more ↦ elim (open-cases o t v other two) [
        | inl old ↦ absurd (let low = txns.open_numbered other v old in let is_t : t.run.0 ≡ u.run.0 = ap (λ (w : OpenTxn). w.run.0) more.1 in omega (arith, low, is_t, same, new))
        | inr too ↦ sym more.0 ∙ too.0
      ]
    ];
    own = λ session u is a e at in_it. elim (open-cases o t u session is) [
      | inl old ↦ txns.own session u old a e at in_it
      | inr more ↦ absurd (none-own a e at (subst (λ (v : OpenTxn). in_run v.run.0 e.member ≡ true) (sym more.1) in_it))
    ];
    last = λ session u is a b in_it later. elim (open-cases o t u session is) [
      | inl old ↦ txns.last session u old a b in_it later
      | inr more ↦
          let found = inside-found x u.run.0 a in_it in
          absurd (none-own a found.0 found.1 (subst (λ (v : OpenTxn). in_run v.run.0 found.0.member ≡ true) (sym more.1) found.2))
    ];
  }
    where
      higher : (m : Member) → IsNumbered begun m → IsNumbered (suc begun) m
      higher Alone low = tt
      higher (Inside run decl) low = omega (arith, low)

  pub sound-begin : (level : OpId → Level) → IsSound level x o begun → IsSound level x (o ++ t ∷ []) (suc begun)
  sound-begin level sound = record { execution = sound.execution; closed = sound.closed; causal = sound.causal; wide = sound.wide; txns = txns-begin }

  pub needs-begin : (a b : ℕ) → NeedsNow x (o ++ t ∷ []) a b → NeedsNow x o a b
  needs-begin a b (inl step) = inl step
  needs-begin a b (inr txn) = inr (sym (committed-begin a) ∙ txn.0, txn.1)

  pub history-begin : History x o → History x (o ++ t ∷ [])
  history-begin history = record {
    done = λ a b done needs. committed-begin b ∙ history.done a b (sym (committed-begin a) ∙ done) (needs-begin a b needs);
    own = λ session u is a b in_it seen. elim (open-cases o t u session is) [
      | inl old ↦ still u b (history.own session u old a b in_it seen)
      | inr more ↦
          let found = inside-found x u.run.0 a in_it in
          absurd (none-own a found.0 found.1 (subst (λ (v : OpenTxn). in_run v.run.0 found.0.member ≡ true) (sym more.1) found.2))
    ];
  }
    where
      still : (u : OpenTxn) (b : ℕ) → IsDone x o b ⊎ (inside x u.run.0 b ≡ true) → IsDone x (o ++ t ∷ []) b ⊎ (inside x u.run.0 b ≡ true)
      still u b (inl done) = inl (committed-begin b ∙ done)
      still u b (inr own) = inr own

-- ---- a commit

module _ (x : List Effect) (o : List OpenTxn) (begun : ℕ) (txns : TxnsKept x o begun) (session : SessId) where
  pub txns-commit : TxnsKept x (without o session) begun
  txns-commit = record {
    numbered = txns.numbered;
    open_numbered = λ other u is. txns.open_numbered other u (without-cases o session other u is).1;
    distinct = λ other another u v one two same. txns.distinct other another u v (without-cases o session other u one).1 (without-cases o session another v two).1 same;
    own = λ other u is. txns.own other u (without-cases o session other u is).1;
    last = λ other u is. txns.last other u (without-cases o session other u is).1;
  }

  pub sound-commit : (level : OpId → Level) → IsSound level x o begun → IsSound level x (without o session) begun
  sound-commit level sound = record { execution = sound.execution; closed = sound.closed; causal = sound.causal; wide = sound.wide; txns = txns-commit }

  -- an effect that is committed now and wasn't before is of the session's open transaction
  pub newly-done : (a : ℕ) → IsDone x (without o session) a → IsDone x o a ⊎ ((t : OpenTxn) × IsOpen o session t × (inside x t.run.0 a ≡ true))
  newly-done a done =
      let found = done-found x (without o session) a done in
      elim (cases_Bool (nat_eq found.0.session.0 session.0)) [
        | inl same ↦ by found.0 found.1 (ap (open_of o) (same_session found.0.session session (eqb-true found.0.session.0 session.0 same))) (open_of o session) refl found.0.member refl
        | inr apart ↦
            inl (done-from x o a found.0 found.1
            (ap (λ (r : Option OpenTxn). is_done r found.0.member)
            (sym (without-other o session found.0.session (λ same. both_ways (nat_eq found.0.session.0 session.0) apart (eq-eqb found.0.session.0 session.0 same)))) ∙ found.2))
      ]
    where
      by : (f : Effect) → effect_at x a ≡ Some f → open_of o f.session ≡ open_of o session → (r : Option OpenTxn) → open_of o session ≡ r → (m : Member) → f.member ≡ m
          → IsDone x o a ⊎ ((t : OpenTxn) × IsOpen o session t × (inside x t.run.0 a ≡ true))
      by f at same None now m is = inl (done-closed x o a f at (same ∙ now))
      by f at same (Some t) now Alone is = inl (done-from x o a f at (ap (λ (r : Option OpenTxn). is_done r f.member) (same ∙ now) ∙ ap (is_done (Some t)) is))
      by f at same (Some t) now (Inside run decl) is = elim (cases_Bool (nat_eq t.run.0 run.0)) [
        | inl its ↦ inr (t, now, inside-from x t.run.0 a f at (ap (in_run t.run.0) is ∙ eq-eqb run.0 t.run.0 (sym (eqb-true t.run.0 run.0 its))))
        | inr other ↦ inl (done-from x o a f at (ap (λ (r : Option OpenTxn). is_done r f.member) (same ∙ now) ∙ ap (is_done (Some t)) is ∙ ap not other))
      ]

  pub inside-done : (t : OpenTxn) → IsOpen o session t → (b : ℕ) → inside x t.run.0 b ≡ true → IsDone x (without o session) b
  inside-done t is b in_it =
      let found = inside-found x t.run.0 b in_it in
      done-own x o session b found.0 found.1 (txns.own session t is b found.0 found.1 found.2).in_session

  -- a committed effect needs what it needed
  pub needs-commit : (a b : ℕ) → IsDone x o a → NeedsNow x (without o session) a b → NeedsNow x o a b
  needs-commit a b done (inl step) = inl step
  needs-commit a b done (inr txn) = inr (done, txn.1)

  own-needs : History x o → (t : OpenTxn) → IsOpen o session t → (a b : ℕ) → inside x t.run.0 a ≡ true → IsDone x (without o session) a → NeedsNow x (without o session) a b
      → IsDone x (without o session) b
  own-needs history t is a b in_it done (inl step) = elim (or_cases (soo x b a) (vis x b a) step) [
    | inl ordered ↦
        let order = so_parts x b a (and_parts (so x b a) (sameobj x b a) ordered).0 in
        let found = inside-found x t.run.0 a in_it in
        let same : found.0 ≡ order.second = same_Some found.0 order.second (sym found.1 ∙ order.second_at) in
        done-own x o session b order.first order.first_at
        (order.one_session ∙ ap (λ (g : Effect). g.session.0) (sym same) ∙ (txns.own session t is a found.0 found.1 found.2).in_session)
    | inr seen ↦ elim (history.own session t is a b in_it seen) [
      | inl old ↦ done-kept x o session b old
      | inr own ↦ inside-done t is b own
    ]
  ]
  own-needs history t is a b in_it done (inr txn) = elim (or_cases (nat_eq a b) (both (λ f g. same_run f.member g.member) (effect_at x a) (effect_at x b)) txn.1) [
    | inl same ↦ subst (IsDone x (without o session)) (eqb-true a b same) done
    | inr run ↦
        let found = both-found (λ f g. same_run f.member g.member) (effect_at x a) (effect_at x b) run in
        let first = inside-found x t.run.0 a in_it in
        let same : first.0 ≡ found.0 = same_Some first.0 found.0 (sym first.1 ∙ found.2) in
        let in_first : in_run t.run.0 found.0.member ≡ true = subst (λ (g : Effect). in_run t.run.0 g.member ≡ true) same first.2 in
        inside-done t is b (inside-from x t.run.0 b found.1 found.3 (in_run-along t.run.0 found.0.member found.1.member in_first found.4))
  ]

  pub history-commit : History x o → History x (without o session)
  history-commit history = record {
    done = λ a b done needs. elim (newly-done a done) [
      | inl old ↦ done-kept x o session b (history.done a b old (needs-commit a b old needs))
      | inr own ↦ own-needs history own.0 own.1 a b own.2 done needs
    ];
    own = λ other u is a b in_it seen. kept u b (history.own other u (without-cases o session other u is).1 a b in_it seen);
  }
    where
      kept : (u : OpenTxn) (b : ℕ) → IsDone x o b ⊎ (inside x u.run.0 b ≡ true) → IsDone x (without o session) b ⊎ (inside x u.run.0 b ≡ true)
      kept u b (inl done) = inl (done-kept x o session b done)
      kept u b (inr own) = inr own
