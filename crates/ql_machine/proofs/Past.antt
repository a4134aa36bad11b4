-- Happened-before in a longer execution, and the past of a new effect.
use Rattle.std.proofs.Common.{◌≡◌, ℕ, zero, suc, ◌<◌, ◌≤◌, true, List, [], ◌∷◌, ◌++◌, length, refl, sym, subst, inl, inr, arith}
use Rattle.std.proofs.lemmas.Bool.{or_cases, or_left, or_right}
use Rattle.ql_base.specs.declared.ids.SessId.{SessId}
use Rattle.ql_exec.specs.declared.effect.Effect.{Effect}
use Rattle.ql_exec.specs.Execution.{IsExecution}
use Rattle.ql_exec.specs.Relations.{hb, hb_step, so, vis}
use Rattle.ql_exec.proofs.Chains.{leads-cases, leads-more, leads-step}
use Rattle.ql_exec.proofs.Finding.{effect_at-within, so_parts}
use Rattle.ql_formula.proofs.Closures.{leads-less}
use Rattle.ql_holder.specs.Closed.{Has}
use Rattle.ql_machine.specs.Blocking.{InPast, IsAtHand, IsOf}
use Rattle.ql_machine.proofs.Pushed.{same_session, seen-before, seen-found, so-cases, vis-cases}

-- who sees more has a larger past
pub past-wider : (x : List Effect) (session : SessId) (sees others : ℕ → Type 0) → ((a : ℕ) → sees a → others a) → (a : ℕ) → InPast x session sees a → InPast x session others a
past-wider x session sees others wider a past = (past.0, by past.1, past.2)
  where
    by : IsAtHand x session sees past.0 → IsAtHand x session others past.0
    by (inl of) = inl of
    by (inr seen) = inr (wider past.0 seen)

pub hb-less : (x : List Effect) → IsExecution x → (a b : ℕ) → hb x a b ≡ true → a < b
hb-less x law a b is = leads-less (hb_step x) forward a b is
  where
    forward : (c d : ℕ) → hb_step x c d ≡ true → c < d
    forward c d step = elim (or_cases (so x c d) (vis x c d) step) [
      | inl order ↦ (so_parts x c d order).less
      | inr seen ↦ seen-before x law c d seen
    ]

module _ (x : List Effect) (e : Effect) (law : IsExecution (x ++ e ∷ [])) where
  -- ---- between the effects that there were

  step-shorter : (a b : ℕ) → b ≤ length x → hb_step (x ++ e ∷ []) a b ≡ true → hb_step x a b ≡ true
  step-shorter a b within is = elim (or_cases (so (x ++ e ∷ []) a b) (vis (x ++ e ∷ []) a b) is) [
    | inl order ↦ elim (so-cases x e a b order) [
      | inl old ↦ or_left (so x a b) (vis x a b) old
      | inr new ↦ absurd (let last = new.0 in omega (arith, within, last))
    ]
    | inr seen ↦ elim (vis-cases x e law a b seen) [
      | inl old ↦ or_right (so x a b) (vis x a b) old
      | inr new ↦ absurd (let last = new.0 in omega (arith, within, last))
    ]
  ]

  shorter-below : (bound a b : ℕ) → b < bound → b ≤ length x → hb (x ++ e ∷ []) a b ≡ true → hb x a b ≡ true
  shorter-below zero a b less within is = absurd (omega (arith, less))
  shorter-below (suc bound) a b less within is = elim (leads-cases (hb_step (x ++ e ∷ [])) a b is) [
    | inl one ↦ leads-step (hb_step x) a b (step-shorter a b within one)
    | inr more ↦
        let below = more.1 in
        leads-more (hb_step x) a b more.0 below (shorter-below bound a more.0 (omega (arith, less, below)) (omega (arith, within, below)) more.2) (step-shorter more.0 b within more.3)
  ]

  pub hb-shorter : (a b : ℕ) → b ≤ length x → hb (x ++ e ∷ []) a b ≡ true → hb x a b ≡ true
  hb-shorter a b within is = shorter-below (suc b) a b (omega arith) within is

  -- ---- before the new effect

  at-hand : (a b : ℕ) → b ≡ suc (length x) → hb_step (x ++ e ∷ []) a b ≡ true → IsAtHand x e.session (Has e.seen) a
  at-hand a b new step = elim (or_cases (so (x ++ e ∷ []) a b) (vis (x ++ e ∷ []) a b) step) [
    | inl order ↦ elim (so-cases x e a b order) [
      | inl old ↦ absurd (let parts = so_parts x a b old in let within = effect_at-within x b parts.second parts.second_at in omega (arith, within, new))
      | inr own ↦ inl (subst (IsOf e.session) (sym own.2) (same_session own.1.session e.session own.3))
    ]
    | inr seen ↦ elim (vis-cases x e law a b seen) [
      | inl old ↦ absurd (let found = seen-found x a b old in let within = effect_at-within x b found.1 found.3 in omega (arith, within, new))
      | inr has ↦ inr has.1
    ]
  ]

  -- what happened before a new effect is in the past of its session and of what it sees
  pub past-new : (a b : ℕ) → b ≡ suc (length x) → hb (x ++ e ∷ []) a b ≡ true → InPast x e.session (Has e.seen) a
  past-new a b new is = elim (leads-cases (hb_step (x ++ e ∷ [])) a b is) [
    | inl one ↦ (a, at-hand a b new one, inl refl)
    | inr more ↦ let below = more.1 in (more.0, at-hand more.0 b new more.3, inr (hb-shorter a more.0 (omega (arith, below, new)) more.2))
  ]
