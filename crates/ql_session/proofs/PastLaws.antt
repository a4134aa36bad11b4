-- The causal past of a call, step by step from its later end.
use Rattle.std.proofs.Common.{◌≡◌, ◌⊎◌, ℕ, zero, suc, ◌<◌, ◌≤◌, Bool, true, List, length, Option, Some, None, refl, sym, subst, inl, inr, arith}
use Rattle.std.proofs.lemmas.Bool.{or_cases, or_right}
use Rattle.ql_base.specs.declared.ids.EffId.{EffId}
use Rattle.ql_base.specs.declared.ids.ObjId.{ObjId}
use Rattle.ql_base.specs.declared.ids.SessId.{SessId}
use Rattle.ql_exec.specs.declared.effect.Effect.{Effect}
use Rattle.ql_exec.specs.Effects.{effect_at}
use Rattle.ql_exec.specs.Execution.{IsExecution, IsOn}
use Rattle.ql_exec.specs.Relations.{hb, hb_step, leads, soo, so, vis}
use Rattle.ql_exec.proofs.Chains.{leads-cases, leads-step, leads-more}
use Rattle.ql_exec.proofs.Finding.{effect_at-within, so_parts}
use Rattle.ql_holder.specs.Closed.{Has}
use Rattle.ql_holder.proofs.NeedsLaws.{at-first, step-before}
use Rattle.ql_machine.specs.Blocking.{InPast}
use Rattle.ql_session.specs.Past.{IsLeastOf}

-- ---- the first step of a chain

first_below : (step : ℕ → ℕ → Bool) (bound a b : ℕ) → b < bound → leads step a b ≡ true → (d : ℕ) × (step a d ≡ true) × ((d ≡ b) ⊎ (leads step d b ≡ true))
first_below step zero a b within is = absurd (omega (arith, within))
first_below step (suc bound) a b within is = elim (leads-cases step a b is) [
  | inl one ↦ (b, one, inl refl)
  | inr more ↦
      let c = more.0 in
      let less = more.1 in
      let rest = first_below step bound a c (omega (arith, within, less)) more.2 in
      (rest.0, rest.1, inr (on rest.0 c less more.3 rest.2))
]
  where
    on : (d c : ℕ) → c < b → step c b ≡ true → (d ≡ c) ⊎ (leads step d c ≡ true) → leads step d b ≡ true
    on d c less last (inl same) = leads-step step d b (subst (λ (n : ℕ). step n b ≡ true) (sym same) last)
    on d c less last (inr chain) = leads-more step d b c less chain last

pub leads-begins : (step : ℕ → ℕ → Bool) (a b : ℕ) → leads step a b ≡ true → (d : ℕ) × (step a d ≡ true) × ((d ≡ b) ⊎ (leads step d b ≡ true))
leads-begins step a b is = first_below step (suc b) a b (omega arith) is

-- a step before a chain
before_below : (step : ℕ → ℕ → Bool) → ((a b : ℕ) → step a b ≡ true → a < b) → (bound a b c : ℕ) → c < bound → step a b ≡ true → leads step b c ≡ true → leads step a c ≡ true
before_below step forward zero a b c within first chain = absurd (omega (arith, within))
before_below step forward (suc bound) a b c within first chain = elim (leads-cases step b c chain) [
  | inl one ↦ leads-more step a c b (forward b c one) (leads-step step a b first) one
  | inr more ↦ let less = more.1 in leads-more step a c more.0 less (before_below step forward bound a b more.0 (omega (arith, within, less)) first more.2) more.3
]

pub step-leads : (step : ℕ → ℕ → Bool) → ((a b : ℕ) → step a b ≡ true → a < b) → (a b c : ℕ) → step a b ≡ true → leads step b c ≡ true → leads step a c ≡ true
step-leads step forward a b c first chain = before_below step forward (suc c) a b c (omega arith) first chain

-- ---- happened-before

pub hb-forward : (x : List Effect) → IsExecution x → (a b : ℕ) → hb_step x a b ≡ true → (a < b) × (b ≤ length x)
hb-forward x law a b is = elim (or_cases (so x a b) (vis x a b) is) [
  | inl order ↦ (let parts = so_parts x a b order in (parts.less, within b parts.second parts.second_at))
  | inr seen ↦ (let before = step-before x law b a (or_right (soo x a b) (vis x a b) seen) in (before.1, before.2))
]
  where
    within : (c : ℕ) (e : Effect) → effect_at x c ≡ Some e → c ≤ length x
    within c e at = effect_at-within x c e at

-- what happened a step before one of the past is of the past
pub past-step : (x : List Effect) (session : SessId) (view : List ℕ) → IsExecution x → (a b : ℕ) → hb_step x a b ≡ true → InPast x session (Has view) b → InPast x session (Has view) a
past-step x session view law a b step past = (past.0, past.1, inr (chain past.2))
  where
    chain : (b ≡ past.0) ⊎ (hb x b past.0 ≡ true) → hb x a past.0 ≡ true
    chain (inl same) = leads-step (hb_step x) a past.0 (subst (λ (n : ℕ). hb_step x a n ≡ true) same step)
    chain (inr rest) = step-leads (hb_step x) (λ c d is. (hb-forward x law c d is).0) a b past.0 step rest

-- ---- on an object

pub on-there : (x : List Effect) (o : ObjId) (a : ℕ) → IsOn o (effect_at x a) → (1 ≤ a) × (a ≤ length x)
on-there x o a on = by (effect_at x a) refl on
  where
    by : (found : Option Effect) → effect_at x a ≡ found → IsOn o found → (1 ≤ a) × (a ≤ length x)
    by None at on = absurd on
    by (Some e) at on = (at-first x a e at, effect_at-within x a e at)

pub least-same : {P Q : ℕ → Type 0} (r : Option EffId) → ((a : ℕ) → P a → Q a) → ((a : ℕ) → Q a → P a) → IsLeastOf P r → IsLeastOf Q r
least-same None there back is = λ a holds. is a (back a holds)
least-same (Some e) there back is = record { fits = there e.0 is.fits; least = λ b holds. is.least b (back b holds) }
