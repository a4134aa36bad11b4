-- The effects that pass a test, gathered from an execution.
use Rattle.std.proofs.Common.{◌≡◌, ◌⊎◌, ℕ, suc, Bool, true, false, nat_eq, slice_get, take, List, [], ◌∷◌, ◌++◌, length, Some, sym, subst, ◌∙◌, inl, inr, arith}
use Rattle.std.proofs.lemmas.Bool.{or_cases, or_left, or_right, eq-eqb, eqb-true, both_ways}
use Rattle.std.proofs.lemmas.List.{length-take}
use Rattle.std.proofs.lemmas.Option.{slice_get_within}
use Rattle.ql_base.specs.IdLists.{has_id, with_id}
use Rattle.ql_base.proofs.IdLemmas.{IsAscending-with_id}
use Rattle.ql_exec.specs.declared.effect.Effect.{Effect}
use Rattle.ql_exec.specs.Effects.{effect_at, one}
use Rattle.ql_exec.proofs.Finding.{take_one_more, cases_pushed, effect_at-last}
use Rattle.ql_holder.proofs.IdSets.{has_id-with}
use Rattle.ql_machine.specs.Sets.{AreThose}
use Rattle.ql_machine.proofs.Pushed.{one-found, one-longer}

-- the effects that pass, in ascending order
abbrev pub ArePassing : List Effect → (Effect → Bool) → List ℕ → Type 0
ArePassing x test ids = AreThose (λ a. one test (effect_at x a) ≡ true) ids

passing-at : (x : List Effect) (test : Effect → Bool) (a : ℕ) (e : Effect) → effect_at x a ≡ Some e → test e ≡ true → one test (effect_at x a) ≡ true
passing-at x test a e at is = rw at is

passing-cases : (x : List Effect) (test : Effect → Bool) (a : ℕ) (e : Effect) → one test (effect_at (x ++ e ∷ []) a) ≡ true
    → (one test (effect_at x a) ≡ true) ⊎ ((suc (length x) ≡ a) × (test e ≡ true))
passing-cases x test a e is =
    let found = one-found test (effect_at (x ++ e ∷ []) a) is in
    elim (cases_pushed x e found.0 a found.1) [
      | inl there ↦ inl (passing-at x test a found.0 there.1 found.2)
      | inr new ↦ inr (sym new.0, subst (λ (f : Effect). test f ≡ true) new.1 found.2)
    ]

taken : (x : List Effect) (k : ℕ) (e : Effect) → slice_get x k ≡ Some e → suc (length (take k x)) ≡ suc k
taken x k e at = let within = slice_get_within x k e at in omega (arith, length-take k x, within)

-- the next effect passes, or doesn't
pub passing-more : (x : List Effect) (test : Effect → Bool) (k : ℕ) (e : Effect) (ids : List ℕ) → slice_get x k ≡ Some e → test e ≡ true
    → ArePassing (take k x) test ids → ArePassing (take (suc k) x) test (with_id ids (suc k))
passing-more x test k e ids at is those = rw (take_one_more x k e at) (record {
  ascending = IsAscending-with_id ids (suc k) those.ascending;
  all = λ a passes. has_id-with ids (suc k) a ∙ elim (passing-cases (take k x) test a e passes) [
    | inl old ↦ or_right (nat_eq (suc k) a) (has_id ids a) (those.all a old)
    | inr new ↦ or_left (nat_eq (suc k) a) (has_id ids a) (eq-eqb (suc k) a (sym (taken x k e at) ∙ new.0))
  ];
  only = λ a has. elim (or_cases (nat_eq (suc k) a) (has_id ids a) (sym (has_id-with ids (suc k) a) ∙ has)) [
    | inl new ↦ passing-at (take k x ++ e ∷ []) test a e
        (subst (λ (n : ℕ). effect_at (take k x ++ e ∷ []) n ≡ Some e) (taken x k e at ∙ eqb-true (suc k) a new) (effect_at-last (take k x) e)) is
    | inr old ↦ one-longer (take k x) (e ∷ []) test a (those.only a old)
  ];
})

pub passing-same : (x : List Effect) (test : Effect → Bool) (k : ℕ) (e : Effect) (ids : List ℕ) → slice_get x k ≡ Some e → test e ≡ false
    → ArePassing (take k x) test ids → ArePassing (take (suc k) x) test ids
passing-same x test k e ids at other those = rw (take_one_more x k e at) (record {
  ascending = those.ascending;
  all = λ a passes. elim (passing-cases (take k x) test a e passes) [
    | inl old ↦ those.all a old
    | inr new ↦ absurd (both_ways (test e) other new.1)
  ];
  only = λ a has. one-longer (take k x) (e ∷ []) test a (those.only a has);
})
