-- The members of a transaction, gathered from an execution.
use Rattle.std.proofs.Common.{◌≡◌, ◌⊎◌, ℕ, suc, true, false, nat_eq, slice_get, take, List, [], ◌∷◌, ◌++◌, length, Option, Some, None, refl, ap, sym, subst, ◌∙◌, inl, inr, arith}
use Rattle.std.proofs.lemmas.Bool.{false≢true, or_cases, or_left, or_right, eq-eqb, eqb-true, both_ways}
use Rattle.std.proofs.lemmas.List.{length-take}
use Rattle.std.proofs.lemmas.Option.{slice_get_within, same_Some}
use Rattle.ql_base.specs.IdLists.{has_id, with_id}
use Rattle.ql_base.proofs.IdLemmas.{IsAscending-with_id}
use Rattle.ql_exec.specs.declared.effect.Effect.{Effect}
use Rattle.ql_exec.specs.declared.effect.Member.{Member}
use Rattle.ql_exec.specs.declared.effect.Member.TheVariants.{Alone, Inside}
use Rattle.ql_exec.specs.Effects.{effect_at, one, both, in_run}
use Rattle.ql_exec.specs.Relations.{inside, sametxn, same_run}
use Rattle.ql_exec.proofs.Finding.{both-found, take_one_more, cases_pushed, effect_at-append, effect_at-last, effect_at-within, in_run-along, same_run-of}
use Rattle.ql_holder.proofs.IdSets.{has_id-with}
use Rattle.ql_machine.specs.Sets.{AreThose}

-- these are the members of a transaction, in ascending order
abbrev pub AreMembers : List Effect → ℕ → List ℕ → Type 0
AreMembers x run ids = AreThose (λ a. inside x run a ≡ true) ids

inside-found : (x : List Effect) (run a : ℕ) → inside x run a ≡ true → (e : Effect) × (effect_at x a ≡ Some e) × (in_run run e.member ≡ true)
inside-found x run a is = by (effect_at x a) refl is
  where
    by : (o : Option Effect) → effect_at x a ≡ o → one (λ (e : Effect). in_run run e.member) o ≡ true → (e : Effect) × (effect_at x a ≡ Some e) × (in_run run e.member ≡ true)
    by None at is = absurd (false≢true is)
    by (Some e) at is = (e, at, is)

inside-at : (x : List Effect) (run a : ℕ) (e : Effect) → effect_at x a ≡ Some e → in_run run e.member ≡ true → inside x run a ≡ true
inside-at x run a e at is = rw at is

-- in a list with one more
inside-longer : (x : List Effect) (run a : ℕ) (e : Effect) → inside x run a ≡ true → inside (x ++ e ∷ []) run a ≡ true
inside-longer x run a e is =
    let found = inside-found x run a is in
    inside-at (x ++ e ∷ []) run a found.0 (effect_at-append x (e ∷ []) a (effect_at-within x a found.0 found.1) ∙ found.1) found.2

inside-cases : (x : List Effect) (run a : ℕ) (e : Effect) → inside (x ++ e ∷ []) run a ≡ true
    → (inside x run a ≡ true) ⊎ ((suc (length x) ≡ a) × (in_run run e.member ≡ true))
inside-cases x run a e is =
    let found = inside-found (x ++ e ∷ []) run a is in
    elim (cases_pushed x e found.0 a found.1) [
      | inl there ↦ inl (inside-at x run a found.0 there.1 found.2)
      | inr new ↦ inr (sym new.0, subst (λ (f : Effect). in_run run f.member ≡ true) new.1 found.2)
    ]

taken : (x : List Effect) (k : ℕ) (e : Effect) → slice_get x k ≡ Some e → suc (length (take k x)) ≡ suc k
taken x k e at = let within = slice_get_within x k e at in omega (arith, length-take k x, within)

-- the next effect is a member, or isn't
pub members-more : (x : List Effect) (run k : ℕ) (e : Effect) (ids : List ℕ) → slice_get x k ≡ Some e → in_run run e.member ≡ true
    → AreMembers (take k x) run ids → AreMembers (take (suc k) x) run (with_id ids (suc k))
members-more x run k e ids at is those = rw (take_one_more x k e at) (record {
  ascending = IsAscending-with_id ids (suc k) those.ascending;
  all = λ a member. has_id-with ids (suc k) a ∙ elim (inside-cases (take k x) run a e member) [
    | inl old ↦ or_right (nat_eq (suc k) a) (has_id ids a) (those.all a old)
    | inr new ↦ or_left (nat_eq (suc k) a) (has_id ids a) (eq-eqb (suc k) a (sym (taken x k e at) ∙ new.0))
  ];
  only = λ a has. elim (or_cases (nat_eq (suc k) a) (has_id ids a) (sym (has_id-with ids (suc k) a) ∙ has)) [
    | inl new ↦ inside-at (take k x ++ e ∷ []) run a e
        (subst (λ (n : ℕ). effect_at (take k x ++ e ∷ []) n ≡ Some e) (taken x k e at ∙ eqb-true (suc k) a new) (effect_at-last (take k x) e)) is
    | inr old ↦ inside-longer (take k x) run a e (those.only a old)
  ];
})

pub members-same : (x : List Effect) (run k : ℕ) (e : Effect) (ids : List ℕ) → slice_get x k ≡ Some e → in_run run e.member ≡ false
    → AreMembers (take k x) run ids → AreMembers (take (suc k) x) run ids
members-same x run k e ids at other those = rw (take_one_more x k e at) (record {
  ascending = those.ascending;
  all = λ a member. elim (inside-cases (take k x) run a e member) [
    | inl old ↦ those.all a old
    | inr new ↦ absurd (both_ways (in_run run e.member) other new.1)
  ];
  only = λ a has. inside-longer (take k x) run a e (those.only a has);
})

-- ---- all of one transaction

both-run : (x : List Effect) (id a : ℕ) (e f : Effect) → effect_at x id ≡ Some e → effect_at x a ≡ Some f → same_run e.member f.member ≡ true → sametxn x id a ≡ true
both-run x id a e f at there same = or_right (nat_eq id a) _ (rw (at, there) same)

-- an effect in a transaction: its members
pub txn-inside : (x : List Effect) (id run a : ℕ) → inside x run id ≡ true → sametxn x id a ≡ true → inside x run a ≡ true
txn-inside x id run a is same = elim (or_cases (nat_eq id a) (both (λ e f. same_run e.member f.member) (effect_at x id) (effect_at x a)) same) [
  | inl here ↦ subst (λ (n : ℕ). inside x run n ≡ true) (eqb-true id a here) is
  | inr both_of ↦
      let found = both-found (λ e f. same_run e.member f.member) (effect_at x id) (effect_at x a) both_of in
      let own = inside-found x run id is in
      let one : in_run run found.0.member ≡ true = subst (λ (e : Effect). in_run run e.member ≡ true) (same_Some own.0 found.0 (sym own.1 ∙ found.2)) own.2 in
      inside-at x run a found.1 found.3 (in_run-along run found.0.member found.1.member one found.4)
]

pub inside-txn : (x : List Effect) (id run a : ℕ) → inside x run id ≡ true → inside x run a ≡ true → sametxn x id a ≡ true
inside-txn x id run a is other =
    let own = inside-found x run id is in
    let found = inside-found x run a other in
    both-run x id a own.0 found.0 own.1 found.1 (same_run-of run own.0.member found.0.member own.2 found.2)

-- an effect outside any: itself
alone-run : (m n : Member) → m ≡ Alone → same_run m n ≡ true → ⊥
alone-run m Alone is same = false≢true same
alone-run Alone (Inside run name) is same = false≢true same
alone-run (Inside other decl) (Inside run name) is same = let never : Inside other decl ≡ Alone = is in cc

pub txn-alone : (x : List Effect) (id a : ℕ) (e : Effect) → effect_at x id ≡ Some e → e.member ≡ Alone → sametxn x id a ≡ true → id ≡ a
txn-alone x id a e at is same = elim (or_cases (nat_eq id a) (both (λ e f. same_run e.member f.member) (effect_at x id) (effect_at x a)) same) [
  | inl here ↦ eqb-true id a here
  | inr both_of ↦
      let found = both-found (λ e f. same_run e.member f.member) (effect_at x id) (effect_at x a) both_of in
      let member : found.0.member ≡ Alone = ap (λ (f : Effect). f.member) (same_Some found.0 e (sym found.2 ∙ at)) ∙ is in
      absurd (alone-run found.0.member found.1.member member found.4)
]

pub txn-itself : (x : List Effect) (id a : ℕ) → id ≡ a → sametxn x id a ≡ true
txn-itself x id a same = or_left (nat_eq id a) _ (eq-eqb id a same)

-- those of which something holds, where the other says the same
pub those-same : (holds other : ℕ → Type 0) (ids : List ℕ) → ((a : ℕ) → holds a → other a) → ((a : ℕ) → other a → holds a) → AreThose holds ids → AreThose other ids
those-same holds other ids there back those = record {
  ascending = those.ascending;
  all = λ a is. those.all a (back a is);
  only = λ a has. there a (those.only a has);
}
