-- Needs in an execution, and in a longer one.
use Rattle.std.proofs.Common.{◌≡◌, ◌↔◌, ℕ, zero, suc, ◌<◌, ◌≤◌, Bool, true, ◌&&◌, nat_eq, nat_lt, List, ◌++◌, length, Some, None, refl, sym, ◌∙◌, inl, inr, arith}
use Rattle.std.proofs.lemmas.Bool.{or_cases, or_left, or_right, and_parts, and_from, both_ways, cases_lt}
use Rattle.ql_base.specs.IdLists.{has_id}
use Rattle.ql_exec.specs.declared.effect.Effect.{Effect}
use Rattle.ql_exec.specs.Effects.{effect_at, both}
use Rattle.ql_exec.specs.Execution.{IsExecution}
use Rattle.ql_exec.specs.Relations.{so, vis, sameobj, soo, hbo_step, sametxn, same_run}
use Rattle.ql_exec.proofs.Finding.{effect_at-within, effect_at-append, both-found, so_parts}
use Rattle.ql_holder.specs.Closed.{Closed, Has}
use Rattle.ql_holder.specs.Needs.{Needs, AreThere, JoinsNone}
use Rattle.ql_holder.proofs.ClosedLaws.{reached-more, closed-along}

-- ---- one step on an object

pub at-first : (x : List Effect) (a : ℕ) (e : Effect) → effect_at x a ≡ Some e → 1 ≤ a
at-first x zero e is = absurd (let never : None ≡ Some e = is in cc)
at-first x (suc k) e is = omega arith

-- what is a step before an effect is an earlier effect
pub step-before : (x : List Effect) → IsExecution x → (a b : ℕ) → hbo_step x b a ≡ true → (1 ≤ b) × (b < a) × (a ≤ length x)
step-before x law a b is = elim (or_cases (soo x b a) (vis x b a) is) [
  | inl ordered ↦
      let order = so_parts x b a (and_parts (so x b a) (sameobj x b a) ordered).0 in
      (at-first x b order.first order.first_at, order.less, effect_at-within x a order.second order.second_at)
  | inr seen ↦
      let found = both-found (λ e f. has_id f.seen b) (effect_at x b) (effect_at x a) seen in
      (at-first x b found.0 found.2, ((law.sees a found.1 found.3).0 b found.4).0, effect_at-within x a found.1 found.3)
]

-- effects of a list are found in a longer one
at_longer : (x more : List Effect) (a : ℕ) (e : Effect) → effect_at x a ≡ Some e → effect_at (x ++ more) a ≡ Some e
at_longer x more a e is = effect_at-append x more a (effect_at-within x a e is) ∙ is

both-longer : (x more : List Effect) (related : Effect → Effect → Bool) (a b : ℕ) → both related (effect_at x a) (effect_at x b) ≡ true
    → both related (effect_at (x ++ more) a) (effect_at (x ++ more) b) ≡ true
both-longer x more related a b is =
    let found = both-found related (effect_at x a) (effect_at x b) is in
    rw (at_longer x more a found.0 found.2, at_longer x more b found.1 found.3) found.4

pub step-longer : (x more : List Effect) (a b : ℕ) → hbo_step x b a ≡ true → hbo_step (x ++ more) b a ≡ true
step-longer x more a b is = elim (or_cases (soo x b a) (vis x b a) is) [
  | inl ordered ↦
      let parts = and_parts (so x b a) (sameobj x b a) ordered in
      or_left (soo (x ++ more) b a) (vis (x ++ more) b a)
      (and_from (so (x ++ more) b a) (sameobj (x ++ more) b a)
      (both-longer x more (λ e f. nat_eq e.session.0 f.session.0 && nat_lt b a) b a parts.0)
      (both-longer x more (λ e f. nat_eq e.object.0 f.object.0) b a parts.1))
  | inr seen ↦ or_right (soo (x ++ more) b a) (vis (x ++ more) b a) (both-longer x more (λ e f. has_id f.seen b) b a seen)
]

pub sametxn-longer : (x more : List Effect) (a b : ℕ) → sametxn x a b ≡ true → sametxn (x ++ more) a b ≡ true
sametxn-longer x more a b is = elim (or_cases (nat_eq a b) (both (λ e f. same_run e.member f.member) (effect_at x a) (effect_at x b)) is) [
  | inl same ↦ or_left (nat_eq a b) (both (λ e f. same_run e.member f.member) (effect_at (x ++ more) a) (effect_at (x ++ more) b)) same
  | inr run ↦
      or_right (nat_eq a b) (both (λ e f. same_run e.member f.member) (effect_at (x ++ more) a) (effect_at (x ++ more) b))
      (both-longer x more (λ e f. same_run e.member f.member) a b run)
]

-- ---- back to the shorter list, for what is there

pub step-shorter : (x more : List Effect) (a b : ℕ) → a ≤ length x → b ≤ length x → hbo_step (x ++ more) b a ≡ hbo_step x b a
step-shorter x more a b a_there b_there = rw (effect_at-append x more a a_there, effect_at-append x more b b_there) refl

pub sametxn-shorter : (x more : List Effect) (a b : ℕ) → a ≤ length x → b ≤ length x → sametxn (x ++ more) a b ≡ sametxn x a b
sametxn-shorter x more a b a_there b_there = rw (effect_at-append x more a a_there, effect_at-append x more b b_there) refl

-- ---- needs

pub needs-longer : (x more : List Effect) (a b : ℕ) → Needs x a b → Needs (x ++ more) a b
needs-longer x more a b (inl step) = inl (step-longer x more a b step)
needs-longer x more a b (inr txn) = inr (refl, sametxn-longer x more a b txn.1)

-- an effect of which no transaction goes on needs no more in a longer execution
pub needs-shorter : (x more : List Effect) (ids : List ℕ) → IsExecution (x ++ more) → AreThere x ids → JoinsNone x more ids
    → (a b : ℕ) → Has ids a → Needs (x ++ more) a b → Needs x a b
needs-shorter x more ids law there alone a b is (inl step) =
    let a_there = (there a is).1 in
    let before = step-before (x ++ more) law a b step in
    inl (sym (step-shorter x more a b a_there (let less = before.1 in omega (arith, less, a_there))) ∙ step)
needs-shorter x more ids law there alone a b is (inr txn) =
    let a_there = (there a is).1 in
    elim (cases_lt (length x) b) [
      | inl past ↦ absurd (both_ways (sametxn (x ++ more) a b) (alone a b is past) txn.1)
      | inr within ↦ inr (refl, sym (sametxn-shorter x more a b a_there within) ∙ txn.1)
    ]

-- the closed part of a set stays the same in such an execution
pub closed-grown : (x more : List Effect) (ids : List ℕ) → IsExecution (x ++ more) → AreThere x ids → JoinsNone x more ids
    → (a : ℕ) → Closed (Needs x) (Has ids) a ↔ Closed (Needs (x ++ more)) (Has ids) a
closed-grown x more ids law there alone a = (
  λ closed. closed-along (Needs x) (Needs (x ++ more)) (Has ids) (needs-shorter x more ids law there alone) a closed,
  λ closed b reached. closed b (reached-more (Needs x) (Needs (x ++ more)) (needs-longer x more) a b reached),
)
