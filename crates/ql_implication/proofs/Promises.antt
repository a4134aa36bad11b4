-- Each level's formula gives those of the levels below it, in every execution.
use Rattle.std.proofs.Common.{◌≡◌, ℕ, Bool, true, false, not, ◌&&◌, ◌||◌, nat_eq, inl, inr, List, [], ◌∷◌, refl, sym, subst, ◌∙◌, eqb-true}
use Rattle.std.proofs.lemmas.Bool.{and_from, and_parts, both_ways, or_cases}
use Rattle.ql_exec.specs.declared.effect.Effect.{Effect}
use Rattle.ql_exec.specs.Execution.{IsExecution}
use Rattle.ql_exec.specs.Relations.{hb, hbo, inside, sameobj, sametxn, so, vis}
use Rattle.ql_formula.specs.Truth.{Holds, HoldsTxn}
use Rattle.ql_levels.specs.Formulas.{formula_of, txn_formula_of}
use Rattle.ql_levels.specs.declared.level.Level.TheVariants.{Causal, Eventual, Strong, Wide}
use Rattle.ql_levels.specs.declared.level.TxnLevel.TheVariants.{Mav, Rc, Rr}
use Rattle.ql_ground.specs.Relations as ground
use Rattle.ql_ground.proofs.Laws.{hb-irreflexive, hb-trans, hbo-hb, hbo-one, hbo-sameobj, hbo-trans, sameobj-sym, sameobj-trans}
use Rattle.ql_implication.proofs.Plain.{plain_all, sameobj-same, vis-same}
use Rattle.ql_implication.proofs.Chains.{hb-same, hbo-same}
use Rattle.ql_implication.proofs.Same.{execution-same}

implies : (a c : Bool) → (a ≡ true → c ≡ true) → (not a || c) ≡ true
implies true c h = h refl
implies false c h = refl

gives : (a c : Bool) → (not a || c) ≡ true → a ≡ true → c ≡ true
gives true c h e = h
gives false c h e = absurd (both_ways false refl e)

or_second : (a b : Bool) → b ≡ true → (a || b) ≡ true
or_second true b h = refl
or_second false b h = h

module _ (x : List Effect) (law : IsExecution x) where
  abbrev plain_law : ground.IsExecution (plain_all x)
  plain_law = execution-same x law

  chain : (a b c : ℕ) → hbo x a b ≡ true → hbo x b c ≡ true → hbo x a c ≡ true
  chain a b c h g = sym (hbo-same x a c) ∙ hbo-trans (plain_all x) plain_law a b c (hbo-same x a b ∙ h) (hbo-same x b c ∙ g)

  seen_before : (a b : ℕ) → vis x a b ≡ true → hbo x a b ≡ true
  seen_before a b h =
      sym (hbo-same x a b) ∙ hbo-one (plain_all x) plain_law a b (or_second (ground.soo (plain_all x) a b) (ground.vis (plain_all x) a b) (vis-same x a b ∙ h))

  -- happened-before, by way of any object
  past : (a b c : ℕ) → hb x a b ≡ true → hb x b c ≡ true → hb x a c ≡ true
  past a b c h g = sym (hb-same x a c) ∙ hb-trans (plain_all x) plain_law a b c (hb-same x a b ∙ h) (hb-same x b c ∙ g)

  in_past : (a b : ℕ) → hbo x a b ≡ true → hb x a b ≡ true
  in_past a b h = sym (hb-same x a b) ∙ hbo-hb (plain_all x) plain_law a b (hbo-same x a b ∙ h)

  no_loop : (a : ℕ) → hb x a a ≡ true → ⊥
  no_loop a h = hb-irreflexive (plain_all x) plain_law a (hb-same x a a ∙ h)

  object_before : (a b : ℕ) → hbo x a b ≡ true → sameobj x a b ≡ true
  object_before a b h = sym (sameobj-same x a b) ∙ hbo-sameobj (plain_all x) plain_law a b (hbo-same x a b ∙ h)

  object_back : (a b : ℕ) → sameobj x a b ≡ true → sameobj x b a ≡ true
  object_back a b h = sym (sameobj-same x b a) ∙ sameobj-sym (plain_all x) a b (sameobj-same x a b ∙ h)

  object_on : (a b c : ℕ) → sameobj x a b ≡ true → sameobj x b c ≡ true → sameobj x a c ≡ true
  object_on a b c h g = sym (sameobj-same x a c) ∙ sameobj-trans (plain_all x) a b c (sameobj-same x a b ∙ h) (sameobj-same x b c ∙ g)

  -- ---- operations

  seen_indeed : (a cur : ℕ) → hb x a cur ≡ true → ((vis x a cur || vis x cur a) || nat_eq a cur) ≡ true → vis x a cur ≡ true
  seen_indeed a cur h some = elim (or_cases (vis x a cur || vis x cur a) (nat_eq a cur) some) [
    | inl seen ↦ elim (or_cases (vis x a cur) (vis x cur a) seen) [
      | inl before ↦ before
      | inr after ↦ absurd (no_loop a (past a cur a h (in_past cur a (seen_before cur a after))))
    ]
    | inr same ↦ absurd (no_loop cur (subst (λ k. hb x k cur ≡ true) (eqb-true a cur same) h))
  ]

  pub strong_gives : (cur : ℕ) → Holds x (formula_of Strong) cur → Holds x (formula_of Wide) cur
  strong_gives cur h [] chosen = absurd chosen
  strong_gives cur h (a ∷ b ∷ more) chosen = absurd chosen.1
  strong_gives cur h (a ∷ []) chosen =
      implies (hb x a cur && sameobj x a cur) (vis x a cur) (λ both.
      let parts = and_parts (hb x a cur) (sameobj x a cur) both in
      seen_indeed a cur parts.0 (gives (sameobj x a cur) ((vis x a cur || vis x cur a) || nat_eq a cur) (h (a ∷ []) chosen) parts.1))

  pub wide_gives : (cur : ℕ) → Holds x (formula_of Wide) cur → Holds x (formula_of Causal) cur
  wide_gives cur h [] chosen = absurd chosen
  wide_gives cur h (a ∷ b ∷ more) chosen = absurd chosen.1
  wide_gives cur h (a ∷ []) chosen =
      implies (hbo x a cur) (vis x a cur) (λ before.
      gives (hb x a cur && sameobj x a cur) (vis x a cur) (h (a ∷ []) chosen) (and_from (hb x a cur) (sameobj x a cur) (in_past a cur before) (object_before a cur before)))

  pub causal_gives : (cur : ℕ) → Holds x (formula_of Causal) cur → Holds x (formula_of Eventual) cur
  causal_gives cur h [] chosen = absurd chosen
  causal_gives cur h (a ∷ []) chosen = absurd chosen.1
  causal_gives cur h (a ∷ b ∷ c ∷ more) chosen = absurd chosen.1.1
  causal_gives cur h (a ∷ b ∷ []) chosen =
      implies (hbo x a b && vis x b cur) (vis x a cur) (λ both.
      let parts = and_parts (hbo x a b) (vis x b cur) both in
      gives (hbo x a cur) (vis x a cur) (h (a ∷ []) (chosen.0, tt)) (chain a b cur parts.0 (seen_before b cur parts.1)))

  -- ---- transactions

  module _ (run : ℕ) where
    -- the other two aren't inside, and are in one transaction
    abbrev Apart : ℕ → ℕ → Bool
    Apart c d = (not (inside x run c) && (not (inside x run d) && true)) && (sametxn x c c && (sametxn x c d && true))

    abbrev OneIn : ℕ → ℕ → ℕ → Bool
    OneIn a b c = (inside x run a && true) && Apart b c

    abbrev TwoIn : ℕ → ℕ → ℕ → ℕ → Bool
    TwoIn a b c d = (inside x run a && (inside x run b && true)) && Apart c d

    twice : (i : Bool) → (i && true) ≡ true → (i && (i && true)) ≡ true
    twice true h = refl
    twice false h = h

    whole : (a b c : ℕ) → (not ((TwoIn a a b c && vis x b a) && sameobj x c a) || vis x c a) ≡ true → (not ((OneIn a b c && sameobj x b c) && vis x b a) || vis x c a) ≡ true
    whole a b c h = implies ((OneIn a b c && sameobj x b c) && vis x b a) (vis x c a) (λ all.
        let last = and_parts (OneIn a b c && sameobj x b c) (vis x b a) all in
        let first = and_parts (OneIn a b c) (sameobj x b c) last.0 in
        let members = and_parts (inside x run a && true) (Apart b c) first.0 in
        let two : TwoIn a a b c ≡ true = and_from (inside x run a && (inside x run a && true)) (Apart b c) (twice (inside x run a) members.0) members.1 in
        let object : sameobj x c a ≡ true = object_on c b a (object_back b c first.1) (object_before b a (seen_before b a last.1)) in
        gives ((TwoIn a a b c && vis x b a) && sameobj x c a) (vis x c a) h (and_from (TwoIn a a b c && vis x b a) (sameobj x c a) (and_from (TwoIn a a b c) (vis x b a) two last.1) object))

    monotonic : (a b c d : ℕ) → (not ((TwoIn a b c d && vis x c a) && sameobj x d b) || vis x d b) ≡ true → (not (((TwoIn a b c d && so x a b) && vis x c a) && sameobj x d b) || vis x d b) ≡ true
    monotonic a b c d h = implies (((TwoIn a b c d && so x a b) && vis x c a) && sameobj x d b) (vis x d b) (λ all.
        let last = and_parts ((TwoIn a b c d && so x a b) && vis x c a) (sameobj x d b) all in
        let mid = and_parts (TwoIn a b c d && so x a b) (vis x c a) last.0 in
        let first = and_parts (TwoIn a b c d) (so x a b) mid.0 in
        gives ((TwoIn a b c d && vis x c a) && sameobj x d b) (vis x d b) h (and_from (TwoIn a b c d && vis x c a) (sameobj x d b) (and_from (TwoIn a b c d) (vis x c a) first.0 mid.1) last.1))

    pub repeatable_gives : HoldsTxn x (txn_formula_of Rr) run → HoldsTxn x (txn_formula_of Mav) run
    repeatable_gives h [] chosen = absurd chosen
    repeatable_gives h (a ∷ []) chosen = absurd chosen.1
    repeatable_gives h (a ∷ b ∷ []) chosen = absurd chosen.1.1
    repeatable_gives h (a ∷ b ∷ c ∷ []) chosen = absurd chosen.1.1.1
    repeatable_gives h (a ∷ b ∷ c ∷ d ∷ e ∷ more) chosen = absurd chosen.1.1.1.1
    repeatable_gives h (a ∷ b ∷ c ∷ d ∷ []) chosen =
        and_from (not ((OneIn a b c && sameobj x b c) && vis x b a) || vis x c a) (not (((TwoIn a b c d && so x a b) && vis x c a) && sameobj x d b) || vis x d b)
        (whole a b c (h (a ∷ a ∷ b ∷ c ∷ []) (chosen.0, (chosen.0, (chosen.1.0, (chosen.1.1.0, tt))))))
        (monotonic a b c d (h (a ∷ b ∷ c ∷ d ∷ []) chosen))

    pub monotonic_gives : HoldsTxn x (txn_formula_of Mav) run → HoldsTxn x (txn_formula_of Rc) run
    monotonic_gives h [] chosen = absurd chosen
    monotonic_gives h (a ∷ []) chosen = absurd chosen.1
    monotonic_gives h (a ∷ b ∷ []) chosen = absurd chosen.1.1
    monotonic_gives h (a ∷ b ∷ c ∷ d ∷ more) chosen = absurd chosen.1.1.1
    monotonic_gives h (a ∷ b ∷ c ∷ []) chosen =
        let both = and_parts (not ((OneIn a b c && sameobj x b c) && vis x b a) || vis x c a) (not (((TwoIn a b c a && so x a b) && vis x c a) && sameobj x a b) || vis x a b)
        (h (a ∷ b ∷ c ∷ a ∷ []) (chosen.0, (chosen.1.0, (chosen.1.1.0, (chosen.0, tt))))) in
        both.0
