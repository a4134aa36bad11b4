-- What is kept of strong operations.
use Rattle.std.proofs.Common.{◌≡◌, ℕ, suc, ◌<◌, true, nat_eq, List, [], ◌∷◌, ◌++◌, length, Some, ap, sym, subst, ◌∙◌, inl, inr, arith}
use Rattle.std.proofs.lemmas.Bool.{both_ways}
use Rattle.std.proofs.lemmas.Option.{same_Some}
use Rattle.ql_base.specs.IdLists.{has_id}
use Rattle.ql_base.specs.declared.ids.OpId.{OpId}
use Rattle.ql_base.specs.declared.ids.SessId.{SessId}
use Rattle.ql_exec.specs.declared.effect.Effect.{Effect}
use Rattle.ql_exec.specs.Effects.{effect_at}
use Rattle.ql_exec.specs.Relations.{sameobj}
use Rattle.ql_exec.proofs.Finding.{cases_pushed, effect_at-append, effect_at-last}
use Rattle.ql_levels.specs.declared.level.Level.{Level}
use Rattle.ql_levels.specs.declared.level.Level.TheVariants.{Strong}
use Rattle.ql_holder.specs.Closed.{Closed, Has}
use Rattle.ql_holder.proofs.ClosedLaws.{closed-larger}
use Rattle.ql_machine.specs.declared.open_txn.OpenTxn.{OpenTxn}
use Rattle.ql_machine.specs.State.{NeedsNow, received_at}
use Rattle.ql_machine.specs.Rules.{Promises}
use Rattle.ql_machine.specs.Changes.{member_of}
use Rattle.ql_machine.specs.Kept.{AreDone, IsOpen, StrongKept, TxnsKept}
use Rattle.ql_machine.proofs.Lists.{open-cases}
use Rattle.ql_machine.proofs.Pushed.{at-longer, both-shorter, object-found, vis-longer, vis-new}
use Rattle.ql_machine.proofs.Made.{IsMade}
use Rattle.ql_machine.proofs.StoredLaws.{Stays, closed-stays, stays-push}

-- what is held by each replica is held after
abbrev pub Holds : List (List ℕ) → List (List ℕ) → Type 0
Holds received others = (r a : ℕ) → Has (received_at received r) a → Has (received_at others r) a

pub strong-receives : (level : OpId → Level) (x : List Effect) (o : List OpenTxn) (received others : List (List ℕ)) → Holds received others → length others ≡ length received
    → StrongKept level x o received → StrongKept level x o others
strong-receives level x o received others holds long kept = record {
  applied = λ a e is r less.
      closed-larger (NeedsNow x o) (Has (received_at received r)) (Has (received_at others r)) (holds r) a
      (kept.applied a e is r (omega (arith, less, long)));
  snapshot = kept.snapshot;
  alone = kept.alone;
  sees = kept.sees;
  seen = kept.seen;
}

-- at a commit
pub strong-stays : (level : OpId → Level) (x : List Effect) (o p : List OpenTxn) (received : List (List ℕ)) → Stays x o x p → ((session : SessId) (t : OpenTxn) → IsOpen p session t → IsOpen o session t)
    → ((r : ℕ) → AreDone x o (received_at received r)) → StrongKept level x o received → StrongKept level x p received
strong-stays level x o p received stays opens done kept = record {
  applied = λ a e is r less. closed-stays x x o p stays (Has (received_at received r)) (Has (received_at received r)) (done r) (λ b has. has) a (kept.applied a e is r less);
  snapshot = λ a e is session t open_t declares. kept.snapshot a e is session t (opens session t open_t) declares;
  alone = kept.alone;
  sees = kept.sees;
  seen = kept.seen;
}

-- at a begin, whose snapshot is what a replica has applied
pub strong-begin : (level : OpId → Level) (x : List Effect) (o : List OpenTxn) (t : OpenTxn) (received : List (List ℕ)) → Stays x o x (o ++ t ∷ []) → ((r : ℕ) → AreDone x o (received_at received r))
    → (r : ℕ) → r < length received → ((a : ℕ) → Closed (NeedsNow x o) (Has (received_at received r)) a → Has t.snapshot a) → StrongKept level x o received → StrongKept level x (o ++ t ∷ []) received
strong-begin level x o t received stays done r less shows kept = record {
  applied = λ a e is q in_range. closed-stays x x o (o ++ t ∷ []) stays (Has (received_at received q)) (Has (received_at received q)) (done q) (λ b has. has) a (kept.applied a e is q in_range);
  snapshot = λ a e is session u open_u declares. elim (open-cases o t u session open_u) [
    | inl old ↦ kept.snapshot a e is session u old declares
    | inr new ↦ subst (λ (v : OpenTxn). Has v.snapshot a) new.1 (shows a (kept.applied a e is r less))
  ];
  alone = kept.alone;
  sees = kept.sees;
  seen = kept.seen;
}

-- An effect more. Where it is strong, each replica has applied it then.
module _ (promises : Promises) (x : List Effect) (o : List OpenTxn) (begun : ℕ) (e : Effect) (txns : TxnsKept x o begun) (made : IsMade promises x o e) where
  pub beside : (a b : ℕ) (f : Effect) → effect_at x a ≡ Some f → b ≡ suc (length x) → sameobj (x ++ e ∷ []) a b ≡ true → f.object.0 ≡ e.object.0
  beside a b f at new same =
      let found = object-found (x ++ e ∷ []) a b same in
      let first : f ≡ found.0 = same_Some f found.0 (sym (at-longer x (e ∷ []) a f at) ∙ found.2) in
      let second : found.1 ≡ e = same_Some found.1 e (sym found.3 ∙ ap (effect_at (x ++ e ∷ [])) new ∙ effect_at-last x e) in
      ap (λ (g : Effect). g.object.0) first ∙ found.4 ∙ ap (λ (g : Effect). g.object.0) second

  pub strong-push : (received others : List (List ℕ)) → ((r : ℕ) → AreDone x o (received_at received r)) → Holds received others → length others ≡ length received
      → (promises.level e.op ≡ Strong → (r : ℕ) → r < length others → Closed (NeedsNow (x ++ e ∷ []) o) (Has (received_at others r)) (suc (length x)))
      → StrongKept promises.level x o received → StrongKept promises.level (x ++ e ∷ []) o others
  strong-push received others done holds long new kept = record {
    applied = λ a f is r less. elim (cases_pushed x e f a is.0) [
      | inl old ↦
          closed-stays x (x ++ e ∷ []) o o (stays-push promises x o begun e txns made) (Has (received_at received r)) (Has (received_at others r)) (done r) (holds r) a
          (kept.applied a f (old.1, is.1) r (omega (arith, less, long)))
      | inr more ↦
          subst (Closed (NeedsNow (x ++ e ∷ []) o) (Has (received_at others r))) (sym more.0)
          (new (ap (λ (g : Effect). promises.level g.op) (sym more.1) ∙ is.1) r less)
    ];
    snapshot = λ a f is session t open_t declares. elim (cases_pushed x e f a is.0) [
      | inl old ↦ kept.snapshot a f (old.1, is.1) session t open_t declares
      | inr more ↦
          let alone = made.if_strong (ap (λ (g : Effect). promises.level g.op) (sym more.1) ∙ is.1) in
          absurd (both_ways (has_id t.objects e.object.0) (alone.free session t open_t) (subst (λ (g : Effect). has_id t.objects g.object.0 ≡ true) more.1 declares))
    ];
    alone = λ a f is. elim (cases_pushed x e f a is.0) [
      | inl old ↦ kept.alone a f (old.1, is.1)
      | inr more ↦
          let alone = made.if_strong (ap (λ (g : Effect). promises.level g.op) (sym more.1) ∙ is.1) in
          ap (λ (g : Effect). g.member) more.1 ∙ made.joined ∙ ap member_of alone.none_open
    ];
    sees = λ a b f is less same. elim (cases_pushed x e f a is.0) [
      | inl old ↦
          let within = old.0 in
          vis-longer x (e ∷ []) b a (kept.sees a b f (old.1, is.1) less (both-shorter x (e ∷ []) (λ g h. nat_eq g.object.0 h.object.0) b a (omega (arith, less, within)) old.0 same))
      | inr more ↦
          let alone = made.if_strong (ap (λ (g : Effect). promises.level g.op) (sym more.1) ∙ is.1) in
          let found = object-found (x ++ e ∷ []) b a same in
          let last = more.0 in
          let at : effect_at x b ≡ Some found.0 = sym (effect_at-append x (e ∷ []) b (omega (arith, less, last))) ∙ found.2 in
          vis-new x e made.grown b a more.0 (alone.sees_all b (record { effect = found.0; at = at; on_object = beside b a found.0 at more.0 same }))
    ];
    seen = λ a b f is less same.
        let found = object-found (x ++ e ∷ []) a b same in
        elim (cases_pushed x e found.1 b found.3) [
          | inl old ↦
              let within = old.0 in
              let at : effect_at x a ≡ Some f = sym (effect_at-append x (e ∷ []) a (omega (arith, less, within))) ∙ is.0 in
              vis-longer x (e ∷ []) a b (kept.seen a b f (at, is.1) less (both-shorter x (e ∷ []) (λ g h. nat_eq g.object.0 h.object.0) a b (omega (arith, less, within)) old.0 same))
          | inr more ↦
              let last = more.0 in
              let at : effect_at x a ≡ Some f = sym (effect_at-append x (e ∷ []) a (omega (arith, less, last))) ∙ is.0 in
              vis-new x e made.grown a b more.0 (made.strong a f (at, is.1) (beside a b f at more.0 same))
        ];
  }
