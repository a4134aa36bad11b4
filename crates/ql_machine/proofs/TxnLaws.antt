-- What is kept of transactions: whole, monotonic and repeatable views.
use Rattle.std.proofs.Common.{◌≡◌, ℕ, suc, ◌≤◌, ◌⊎◌, not, Bool, true, false, ◌&&◌, ◌||◌, nat_eq, nat_lt, List, [], ◌∷◌, ◌++◌, length, Option, Some, None, refl, ap, sym, subst, ◌∙◌, inl, inr, arith}
use Rattle.std.proofs.lemmas.Bool.{both_ways, cases_Bool, eq-eqb, eqb-true, false_from_ne_true, false≢true, or_cases, or_right, true_from_ne_false}
use Rattle.std.proofs.lemmas.Option.{same_Some}
use Rattle.ql_base.specs.declared.ids.DeclId.{DeclId}
use Rattle.ql_base.specs.declared.ids.ObjId.{ObjId}
use Rattle.ql_base.specs.declared.ids.SessId.{SessId}
use Rattle.ql_exec.specs.declared.effect.Effect.{Effect}
use Rattle.ql_exec.specs.declared.effect.Member.{Member}
use Rattle.ql_exec.specs.declared.effect.Member.TheVariants.{Alone, Inside}
use Rattle.ql_exec.specs.Effects.{effect_at, both, in_run}
use Rattle.ql_exec.specs.Execution.{IsOn, is_declared_as}
use Rattle.ql_exec.specs.Relations.{so, soo, vis, sameobj, sametxn, same_run, inside}
use Rattle.ql_exec.proofs.Finding.{both-found, cases_pushed, effect_at-append, effect_at-last, effect_at-within, in_run-along, same_run-of, so_parts}
use Rattle.ql_levels.specs.declared.level.TxnLevel.TheVariants.{Mav, Rr}
use Rattle.ql_levels.specs.declared.level.TxnLevel.{TxnLevel}
use Rattle.ql_holder.specs.Closed.{Has}
use Rattle.ql_holder.proofs.NeedsLaws.{sametxn-shorter}
use Rattle.ql_machine.specs.declared.message.Message.{Message}
use Rattle.ql_machine.specs.declared.open_txn.OpenTxn.{OpenTxn}
use Rattle.ql_machine.specs.State.{is_done, open_of}
use Rattle.ql_machine.specs.Rules.{Promises}
use Rattle.ql_machine.specs.Changes.{member_of, without}
use Rattle.ql_machine.specs.Kept.{History, IsDone, IsInTxn, IsOpen, IsStored, TxnsKept, TxnsSee}
use Rattle.ql_machine.proofs.Lists.{open-cases, without-cases}
use Rattle.ql_machine.proofs.Pushed.{both-shorter, done-closed, done-from, done-within, inside-cases, inside-found, inside-from, inside-longer, member-open, object-found, outside-shorter, same_session, sametxn-within, seen-found, unsplit, vis-cases, vis-longer, vis-new}
use Rattle.ql_machine.proofs.Made.{IsBeside, IsMade}
use Rattle.ql_machine.proofs.SoundLaws.{none-own}
use Rattle.ql_machine.proofs.StrongLaws.{beside}

-- ---- in one transaction, or apart

-- one effect in a begun transaction and one outside it aren't in one transaction
pub apart : (x : List Effect) (run a b : ℕ) → inside x run a ≡ true → inside x run b ≡ false → sametxn x a b ≡ false
apart x run a b in_it out = false_from_ne_true (sametxn x a b) (λ same. elim (or_cases (nat_eq a b) (both (λ f g. same_run f.member g.member) (effect_at x a) (effect_at x b)) same) [
  | inl one ↦ both_ways (inside x run b) out (subst (λ (c : ℕ). inside x run c ≡ true) (eqb-true a b one) in_it)
  | inr together ↦
      let found = both-found (λ f g. same_run f.member g.member) (effect_at x a) (effect_at x b) together in
      let first = inside-found x run a in_it in
      let is : first.0 ≡ found.0 = same_Some first.0 found.0 (sym first.1 ∙ found.2) in
      both_ways (inside x run b) out
      (inside-from x run b found.1 found.3 (in_run-along run found.0.member found.1.member (subst (λ (f : Effect). in_run run f.member ≡ true) is first.2) found.4))
])

-- two effects inside a begun transaction are in one
pub together : (x : List Effect) (run a b : ℕ) → inside x run a ≡ true → inside x run b ≡ true → sametxn x a b ≡ true
together x run a b one two =
    let first = inside-found x run a one in
    let second = inside-found x run b two in
    elim (cases_Bool (nat_eq a b)) [
      | inl same ↦ ap (λ (c : Bool). c || both (λ f g. same_run f.member g.member) (effect_at x a) (effect_at x b)) same
      | inr other ↦
          ap (λ (c : Bool). c || both (λ f g. same_run f.member g.member) (effect_at x a) (effect_at x b)) other
          ∙ rw (first.1, second.1) (same_run-of run first.0.member second.0.member first.2 second.2)
    ]

pub inside-along : (x : List Effect) (run a b : ℕ) → inside x run a ≡ true → sametxn x a b ≡ true → inside x run b ≡ true
inside-along x run a b in_it same = true_from_ne_false (inside x run b) (λ out. both_ways (sametxn x a b) (apart x run a b in_it out) same)

-- an effect is committed, or inside its session's open transaction
pub done-or-open : (x : List Effect) (o : List OpenTxn) (a : ℕ) (f : Effect) → effect_at x a ≡ Some f → IsDone x o a ⊎ ((t : OpenTxn) × IsOpen o f.session t × (inside x t.run.0 a ≡ true))
done-or-open x o a f at = by (open_of o f.session) refl f.member refl
  where
    by : (r : Option OpenTxn) → open_of o f.session ≡ r → (m : Member) → f.member ≡ m → IsDone x o a ⊎ ((t : OpenTxn) × IsOpen o f.session t × (inside x t.run.0 a ≡ true))
    by None now m is = inl (done-closed x o a f at now)
    by (Some t) now Alone is = inl (done-from x o a f at (ap (λ (r : Option OpenTxn). is_done r f.member) now ∙ ap (is_done (Some t)) is))
    by (Some t) now (Inside run decl) is = elim (cases_Bool (nat_eq t.run.0 run.0)) [
      | inl its ↦ inr (t, now, inside-from x t.run.0 a f at (ap (in_run t.run.0) is ∙ eq-eqb run.0 t.run.0 (sym (eqb-true t.run.0 run.0 its))))
      | inr other ↦ inl (done-from x o a f at (ap (λ (r : Option OpenTxn). is_done r f.member) now ∙ ap (is_done (Some t)) is ∙ ap not other))
    ]

-- what is seen of another transaction is committed
pub others-done : (x : List Effect) (o : List OpenTxn) → History x o → (a c : ℕ) → vis x c a ≡ true → sametxn x a c ≡ false → IsDone x o c
others-done x o history a c seen other =
    let found = seen-found x c a seen in
    elim (done-or-open x o a found.1 found.3) [
      | inl done ↦ history.done a c done (inl (or_right_seen (vis x c a) seen))
      | inr own ↦ elim (history.own found.1.session own.0 own.1 a c own.2 seen) [
        | inl done ↦ done
        | inr inside_too ↦ absurd (both_ways (sametxn x a c) other (together x own.0.run.0 a c own.2 inside_too))
      ]
    ]
  where
    or_right_seen : (b : Bool) → b ≡ true → (soo x c a || b) ≡ true
    or_right_seen b is = or_right (soo x c a) b is

-- ---- a call

module _ (promises : Promises) (x : List Effect) (o : List OpenTxn) (begun : ℕ) (e : Effect) (txns : TxnsKept x o begun) (history : History x o) (made : IsMade promises x o e) where
  -- the transaction that a session has open is the new effect's session's, where the new effect is inside it
  open-own : (session : SessId) (t : OpenTxn) → IsOpen o session t → in_run t.run.0 e.member ≡ true → IsOpen o e.session t
  open-own session t is_open is =
      let now = member-open o e.session t.run.0 e.member made.joined is in
      let same = txns.distinct e.session session now.0 t now.1 is_open now.2 in
      ap (open_of o) (same_session e.session session same) ∙ is_open

  -- an effect of a committed transaction that is on the new effect's object
  beside-of : (c d : ℕ) → IsDone x o c → sametxn (x ++ e ∷ []) c d ≡ true → (b : ℕ) → b ≡ suc (length x) → sameobj (x ++ e ∷ []) d b ≡ true → (sametxn x c d ≡ true) × IsBeside x e d
  beside-of c d done same b new on =
      let same_x = unsplit x o begun txns e made.joined c d done same in
      let within = sametxn-within x c d (done-within x o c done) same_x in
      let found = object-found (x ++ e ∷ []) d b on in
      let at : effect_at x d ≡ Some found.0 = sym (effect_at-append x (e ∷ []) d within) ∙ found.2 in
      (same_x, record { effect = found.0; at = at; on_object = beside promises x o begun e txns made d b found.0 at new on })

  -- the objects of two old effects
  on-shorter : (a b : ℕ) → a ≤ length x → b ≤ length x → sameobj (x ++ e ∷ []) a b ≡ true → sameobj x a b ≡ true
  on-shorter a b one two is = both-shorter x (e ∷ []) (λ f g. nat_eq f.object.0 g.object.0) a b one two is

  whole-new : (a b c : ℕ) → vis (x ++ e ∷ []) b a ≡ true → sametxn (x ++ e ∷ []) a b ≡ false → sametxn (x ++ e ∷ []) b c ≡ true → sameobj (x ++ e ∷ []) b c ≡ true
      → ((a b c : ℕ) → vis x b a ≡ true → sametxn x a b ≡ false → sametxn x b c ≡ true → sameobj x b c ≡ true → vis x c a ≡ true) → vis (x ++ e ∷ []) c a ≡ true
  whole-new a b c seen other same on whole = elim (vis-cases x e made.grown b a seen) [
    | inl old ↦
        let found = seen-found x b a old in
        let a_in = effect_at-within x a found.1 found.3 in
        let b_in = effect_at-within x b found.0 found.2 in
        let other_x : sametxn x a b ≡ false = sym (sametxn-shorter x (e ∷ []) a b a_in b_in) ∙ other in
        let done = others-done x o history a b old other_x in
        let same_x = unsplit x o begun txns e made.joined b c done same in
        vis-longer x (e ∷ []) c a (whole a b c old other_x same_x (on-shorter b c b_in (sametxn-within x b c b_in same_x) on))
    | inr new ↦ elim (made.known b new.1) [
      | inl done ↦
          let found = object-found (x ++ e ∷ []) b c on in
          let b_in = done-within x o b done in
          let same_x = unsplit x o begun txns e made.joined b c done same in
          let c_in = sametxn-within x b c b_in same_x in
          let at : effect_at x c ≡ Some found.1 = sym (effect_at-append x (e ∷ []) c c_in) ∙ found.3 in
          let object : found.0.object.0 ≡ e.object.0 = on_e found.0 found.2 ((made.grown.sees (suc (length x)) e (effect_at-last x e)).0 b new.1).1 in
          vis-new x e made.grown c a new.0 (made.whole b c new.1 done same_x (record { effect = found.1; at = at; on_object = sym found.4 ∙ object }))
      | inr own ↦
          let its : inside (x ++ e ∷ []) own.0.run.0 a ≡ true =
          inside-from (x ++ e ∷ []) own.0.run.0 a e (ap (effect_at (x ++ e ∷ [])) new.0 ∙ effect_at-last x e)
          (ap (in_run own.0.run.0) (made.joined ∙ ap member_of own.1) ∙ eq-eqb own.0.run.0 own.0.run.0 refl) in
          absurd (both_ways (sametxn (x ++ e ∷ []) a b) other (together (x ++ e ∷ []) own.0.run.0 a b its (inside-longer x (e ∷ []) own.0.run.0 b own.2)))
    ]
  ]
    where
      on_e : (f : Effect) → effect_at (x ++ e ∷ []) b ≡ Some f → IsOn e.object (effect_at (x ++ e ∷ []) b) → f.object.0 ≡ e.object.0
      on_e f at is = ap (λ (object : ObjId). object.0) (subst (IsOn e.object) at is)

  -- an effect inside a begun transaction with the new one
  record IsNewIn (run : ℕ) (decl : DeclId) : Type 0 where
    txn : OpenTxn
    now : IsOpen o e.session txn
    its_run : txn.run.0 ≡ run
    its_decl : txn.decl.0 ≡ decl.0

  new-in : (run : ℕ) (decl : DeclId) (f : Effect) → f ≡ e → in_run run f.member ≡ true → is_declared_as decl f.member ≡ true → IsNewIn run decl
  new-in run decl f is in_it named =
      let now = member-open o e.session run e.member made.joined (subst (λ (g : Effect). in_run run g.member ≡ true) is in_it) in
      record {
        txn = now.0;
        now = now.1;
        its_run = now.2;
        its_decl = eqb-true now.0.decl.0 decl.0 (sym (ap (is_declared_as decl) now.3) ∙ subst (λ (g : Effect). is_declared_as decl g.member ≡ true) is named);
      }

  level-of : (t : OpenTxn) (decl : DeclId) (level : TxnLevel) → t.decl.0 ≡ decl.0 → promises.txn_level decl ≡ level → promises.txn_level t.decl ≡ level
  level-of t decl level same is =
      let decl_is : t.decl ≡ decl = ap (λ (n : ℕ). let d : DeclId = record { 0 = n } in d) same in
      ap promises.txn_level decl_is ∙ is

  -- what an old effect of a transaction saw outside it
  old-seen : (run a c : ℕ) → inside x run a ≡ true → vis x c a ≡ true → inside (x ++ e ∷ []) run c ≡ false → (inside x run c ≡ false) × IsDone x o c
  old-seen run a c in_it seen out =
      let found = seen-found x c a seen in
      let out_x = outside-shorter x (e ∷ []) run c (effect_at-within x c found.0 found.2) out in
      (out_x, others-done x o history a c seen (apart x run a c in_it out_x))

  -- an effect before another, or an effect of the shorter execution
  earlier : (run a : ℕ) → a ≤ length x → inside (x ++ e ∷ []) run a ≡ true → inside x run a ≡ true
  earlier run a within is = elim (inside-cases x e run a is) [
    | inl old ↦ old
    | inr new ↦ absurd (let last = new.0 in omega (arith, within, last))
  ]

  seen-by-old : (c a : ℕ) → a ≤ length x → vis (x ++ e ∷ []) c a ≡ true → vis x c a ≡ true
  seen-by-old c a within seen = elim (vis-cases x e made.grown c a seen) [
    | inl old ↦ old
    | inr new ↦ absurd (let last = new.0 in omega (arith, within, last))
  ]

  seen-by-new : (c a : ℕ) → a ≡ suc (length x) → vis (x ++ e ∷ []) c a ≡ true → Has e.seen c
  seen-by-new c a new seen = elim (vis-cases x e made.grown c a seen) [
    | inl old ↦ absurd (let found = seen-found x c a old in let within = effect_at-within x a found.1 found.3 in omega (arith, within, new))
    | inr more ↦ more.1
  ]

  module _ (see : TxnsSee promises.txn_level x o) where
    monotonic-new : (run : ℕ) (decl : DeclId) → promises.txn_level decl ≡ Mav → (a b c d : ℕ) (f : Effect) → IsInTxn (x ++ e ∷ []) b f run → is_declared_as decl f.member ≡ true
        → inside (x ++ e ∷ []) run a ≡ true → so (x ++ e ∷ []) a b ≡ true → vis (x ++ e ∷ []) c a ≡ true → inside (x ++ e ∷ []) run c ≡ false → sametxn (x ++ e ∷ []) c d ≡ true
        → sameobj (x ++ e ∷ []) d b ≡ true → vis (x ++ e ∷ []) d b ≡ true
    monotonic-new run decl level a b c d f is named in_it order seen out same on =
        let less = (so_parts (x ++ e ∷ []) a b order).less in
        elim (cases_pushed x e f b is.0) [
          | inl old ↦
              let b_in = old.0 in
              let a_in : a ≤ length x = omega (arith, less, b_in) in
              let a_inside = earlier run a a_in in_it in
              let seen_x = seen-by-old c a a_in seen in
              let known = old-seen run a c a_inside seen_x out in
              let same_x = unsplit x o begun txns e made.joined c d known.1 same in
              let d_in = sametxn-within x c d (done-within x o c known.1) same_x in
              vis-longer x (e ∷ []) d b
              (see.monotonic run decl level a b c d f (old.1, is.1) named a_inside (both-shorter x (e ∷ []) (λ g h. nat_eq g.session.0 h.session.0 && nat_lt a b) a b a_in b_in order) seen_x known.0 same_x
              (on-shorter d b d_in b_in on))
          | inr new ↦
              let last = new.0 in
              let a_in : a ≤ length x = omega (arith, less, last) in
              let a_inside = earlier run a a_in in_it in
              let seen_x = seen-by-old c a a_in seen in
              let known = old-seen run a c a_inside seen_x out in
              let beside_d = beside-of c d known.1 same b new.0 on in
              let now = new-in run decl f new.1 is.1 named in
              vis-new x e made.grown d b new.0
              ((made.if_open now.txn now.now).monotonic (level-of now.txn decl Mav now.its_decl level) a c d (subst (λ (n : ℕ). inside x n a ≡ true) (sym now.its_run) a_inside) seen_x
              (subst (λ (n : ℕ). inside x n c ≡ false) (sym now.its_run) known.0) beside_d.0 beside_d.1)
        ]

    module _ (received : List (List ℕ)) (messages : List Message) (stored : IsStored x o received messages) where
      -- what an open transaction at repeatable read took of a transaction is in its snapshot whole
      snapshot-whole : (t : OpenTxn) → IsOpen o e.session t → (c d : ℕ) → Has t.snapshot c → sametxn (x ++ e ∷ []) c d ≡ true → IsDone x o c × Has t.snapshot d
      snapshot-whole t now c d has same =
          let done = stored.snapshot e.session t now c has in
          (done, stored.snapshot_closed e.session t now c d has (inr (done, unsplit x o begun txns e made.joined c d done same)))

      -- what the transaction of the new effect saw outside it
      taken-new : (t : OpenTxn) → IsOpen o e.session t → promises.txn_level t.decl ≡ Rr → (a c : ℕ) → inside (x ++ e ∷ []) t.run.0 a ≡ true → vis (x ++ e ∷ []) c a ≡ true
          → inside (x ++ e ∷ []) t.run.0 c ≡ false → Has t.snapshot c
      taken-new t now level a c in_it seen out = elim (inside-cases x e t.run.0 a in_it) [
        | inl old ↦
            let found = inside-found x t.run.0 a old in
            let seen_x = seen-by-old c a (effect_at-within x a found.0 found.1) seen in
            see.taken e.session t now level a c old seen_x (old-seen t.run.0 a c old seen_x out).0
        | inr new ↦
            let has = seen-by-new c a new.0 seen in
            let less = ((made.grown.sees (suc (length x)) e (effect_at-last x e)).0 c has).0 in
            (made.if_open t now).taken level c has (outside-shorter x (e ∷ []) t.run.0 c (omega (arith, less)) out)
      ]

      shown-new : (t : OpenTxn) → IsOpen o e.session t → promises.txn_level t.decl ≡ Rr → (a d : ℕ) → inside (x ++ e ∷ []) t.run.0 a ≡ true → Has t.snapshot d
          → sameobj (x ++ e ∷ []) d a ≡ true → vis (x ++ e ∷ []) d a ≡ true
      shown-new t now level a d in_it has on =
          let d_in = done-within x o d (stored.snapshot e.session t now d has) in
          elim (inside-cases x e t.run.0 a in_it) [
            | inl old ↦
                let found = inside-found x t.run.0 a old in
                vis-longer x (e ∷ []) d a (see.shown e.session t now level a d old has (on-shorter d a d_in (effect_at-within x a found.0 found.1) on))
            | inr new ↦
                let found = object-found (x ++ e ∷ []) d a on in
                let at : effect_at x d ≡ Some found.0 = sym (effect_at-append x (e ∷ []) d d_in) ∙ found.2 in
                vis-new x e made.grown d a new.0
                ((made.if_open t now).shown level d has (record { effect = found.0; at = at; on_object = beside promises x o begun e txns made d a found.0 at new.0 on }))
          ]

      repeatable-new : (run : ℕ) (decl : DeclId) → promises.txn_level decl ≡ Rr → (a b c d : ℕ) (f : Effect) → IsInTxn (x ++ e ∷ []) b f run → is_declared_as decl f.member ≡ true
          → inside (x ++ e ∷ []) run a ≡ true → vis (x ++ e ∷ []) c a ≡ true → inside (x ++ e ∷ []) run c ≡ false → sametxn (x ++ e ∷ []) c d ≡ true
          → sameobj (x ++ e ∷ []) d b ≡ true → vis (x ++ e ∷ []) d b ≡ true
      repeatable-new run decl level a b c d f is named in_it seen out same on = elim (cases_pushed x e f b is.0) [
        | inl old ↦
            let b_in = old.0 in
            elim (inside-cases x e run a in_it) [
              | inl a_inside ↦
                  let found = inside-found x run a a_inside in
                  let seen_x = seen-by-old c a (effect_at-within x a found.0 found.1) seen in
                  let known = old-seen run a c a_inside seen_x out in
                  let same_x = unsplit x o begun txns e made.joined c d known.1 same in
                  let d_in = sametxn-within x c d (done-within x o c known.1) same_x in
                  vis-longer x (e ∷ []) d b (see.repeatable run decl level a b c d f (old.1, is.1) named a_inside seen_x known.0 same_x (on-shorter d b d_in b_in on))
              | inr new ↦
                  let now = member-open o e.session run e.member made.joined new.1 in
                  let t = now.0 in
                  let b_own = txns.own e.session t now.1 b f old.1 (subst (λ (n : ℕ). in_run n f.member ≡ true) (sym now.2) is.1) in
                  by t now.1 now.2 (one_name f.member run is.1 b_own.under_name named)
            ]
        | inr new ↦
            let now = new-in run decl f new.1 is.1 named in
            by now.txn now.now now.its_run now.its_decl
      ]
        where
          by : (t : OpenTxn) → IsOpen o e.session t → t.run.0 ≡ run → t.decl.0 ≡ decl.0 → vis (x ++ e ∷ []) d b ≡ true
          by t now its_run its_decl =
              let level_t = level-of t decl Rr its_decl level in
              let a_inside : inside (x ++ e ∷ []) t.run.0 a ≡ true = subst (λ (n : ℕ). inside (x ++ e ∷ []) n a ≡ true) (sym its_run) in_it in
              let c_outside : inside (x ++ e ∷ []) t.run.0 c ≡ false = subst (λ (n : ℕ). inside (x ++ e ∷ []) n c ≡ false) (sym its_run) out in
              let has = taken-new t now level_t a c a_inside seen c_outside in
              let b_inside : inside (x ++ e ∷ []) t.run.0 b ≡ true =
              inside-from (x ++ e ∷ []) t.run.0 b f is.0 (subst (λ (n : ℕ). in_run n f.member ≡ true) (sym its_run) is.1) in
              shown-new t now level_t b d b_inside (snapshot-whole t now c d has same).1 on

          one_name : (m : Member) (r : ℕ) → in_run r m ≡ true → {t : DeclId} → is_declared_as t m ≡ true → is_declared_as decl m ≡ true → t.0 ≡ decl.0
          one_name Alone r is first second = absurd (false≢true is)
          one_name (Inside q u) r is {t} first second = sym (eqb-true u.0 t.0 first) ∙ eqb-true u.0 decl.0 second

      pub txns-see-push : TxnsSee promises.txn_level (x ++ e ∷ []) o
      txns-see-push = record {
        whole = λ a b c seen other same on. whole-new a b c seen other same on see.whole;
        monotonic = monotonic-new;
        repeatable = repeatable-new;
        taken = λ session t is_open level a c in_it seen out. elim (inside-cases x e t.run.0 a in_it) [
          | inl old ↦
              let found = inside-found x t.run.0 a old in
              let seen_x = seen-by-old c a (effect_at-within x a found.0 found.1) seen in
              see.taken session t is_open level a c old seen_x (old-seen t.run.0 a c old seen_x out).0
          | inr new ↦ taken-new t (open-own session t is_open new.1) level a c in_it seen out
        ];
        shown = λ session t is_open level a d in_it has on. elim (inside-cases x e t.run.0 a in_it) [
          | inl old ↦
              let found = inside-found x t.run.0 a old in
              let d_in = done-within x o d (stored.snapshot session t is_open d has) in
              vis-longer x (e ∷ []) d a (see.shown session t is_open level a d old has (on-shorter d a d_in (effect_at-within x a found.0 found.1) on))
          | inr new ↦ shown-new t (open-own session t is_open new.1) level a d in_it has on
        ];
      }

-- ---- a begin and a commit

pub txns-see-begin : (level : DeclId → TxnLevel) (x : List Effect) (o : List OpenTxn) (begun : ℕ) → TxnsKept x o begun → (t : OpenTxn) → t.run.0 ≡ suc begun → TxnsSee level x o → TxnsSee level x (o ++ t ∷ [])
txns-see-begin level x o begun txns t new see = record {
  whole = see.whole;
  monotonic = see.monotonic;
  repeatable = see.repeatable;
  taken = λ session u is rr a c in_it. elim (open-cases o t u session is) [
    | inl old ↦ see.taken session u old rr a c in_it
    | inr more ↦ absurd (none a (subst (λ (v : OpenTxn). inside x v.run.0 a ≡ true) (sym more.1) in_it))
  ];
  shown = λ session u is rr a d in_it. elim (open-cases o t u session is) [
    | inl old ↦ see.shown session u old rr a d in_it
    | inr more ↦ absurd (none a (subst (λ (v : OpenTxn). inside x v.run.0 a ≡ true) (sym more.1) in_it))
  ];
}
  where
    none : (a : ℕ) → inside x t.run.0 a ≡ true → ⊥
    none a in_it = let found = inside-found x t.run.0 a in_it in none-own x o begun txns t new a found.0 found.1 found.2

pub txns-see-commit : (level : DeclId → TxnLevel) (x : List Effect) (o : List OpenTxn) (session : SessId) → TxnsSee level x o → TxnsSee level x (without o session)
txns-see-commit level x o session see = record {
  whole = see.whole;
  monotonic = see.monotonic;
  repeatable = see.repeatable;
  taken = λ other u is. see.taken other u (without-cases o session other u is).1;
  shown = λ other u is. see.shown other u (without-cases o session other u is).1;
}
