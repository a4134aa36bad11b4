-- From what states keep to the formula of each level.
use Rattle.std.proofs.Common.{◌≡◌, ℕ, zero, suc, ◌<◌, not, Bool, true, false, ◌&&◌, ◌||◌, nat_eq, [], ◌∷◌, Some, refl, sym, inl, inr, arith}
use Rattle.std.proofs.lemmas.Bool.{and_from, and_parts, cases_order, eq-eqb, or_left, or_right}
use Rattle.ql_base.specs.declared.ids.DeclId.{DeclId}
use Rattle.ql_exec.specs.declared.effect.Effect.{Effect}
use Rattle.ql_exec.specs.Effects.{effect_at}
use Rattle.ql_exec.specs.Relations.{hb, hbo, hbo_step, inside, sameobj, sametxn, so, vis}
use Rattle.ql_formula.specs.Truth.{Holds, HoldsTxn}
use Rattle.ql_exec.proofs.Chains.{leads-cases}
use Rattle.ql_levels.specs.Formulas.{formula_of, txn_formula_of}
use Rattle.ql_levels.specs.declared.level.Level.{Level}
use Rattle.ql_levels.specs.declared.level.Level.TheVariants.{Causal, Eventual, Strong, Wide}
use Rattle.ql_levels.specs.declared.level.TxnLevel.{TxnLevel}
use Rattle.ql_levels.specs.declared.level.TxnLevel.TheVariants.{Mav, Rc, Rr}
use Rattle.ql_machine.specs.State.{Machine}
use Rattle.ql_machine.specs.Rules.{Promises}
use Rattle.ql_machine.specs.Kept.{Keeps}
use Rattle.ql_machine.specs.Promised.{IsUnderName}
use Rattle.ql_machine.proofs.Pushed.{inside-found, object-found, object-from}
use Rattle.ql_machine.proofs.TxnLaws.{apart}

implies : (a c : Bool) → (a ≡ true → c ≡ true) → (not a || c) ≡ true
implies true c h = h refl
implies false c h = refl

module _ (promises : Promises) (start : ℕ) (s : Machine) (keeps : Keeps promises start s) where
  -- ---- operations

  -- what is happened before something seen is seen
  seen_below : (bound a b c : ℕ) → b < bound → hbo s.effects a b ≡ true → vis s.effects b c ≡ true → vis s.effects a c ≡ true
  seen_below zero a b c within is seen = absurd (omega (arith, within))
  seen_below (suc bound) a b c within is seen = elim (leads-cases (hbo_step s.effects) a b is) [
    | inl one ↦ keeps.sound.closed a b c seen one
    | inr more ↦ let less = more.1 in seen_below bound a more.0 c (omega (arith, within, less)) more.2 (keeps.sound.closed more.0 b c seen more.3)
  ]

  pub eventual : (cur : ℕ) → Holds s.effects (formula_of Eventual) cur
  eventual cur [] chosen = absurd chosen
  eventual cur (a ∷ []) chosen = absurd chosen.1
  eventual cur (a ∷ b ∷ c ∷ more) chosen = absurd chosen.1.1
  eventual cur (a ∷ b ∷ []) chosen =
      implies (hbo s.effects a b && vis s.effects b cur) (vis s.effects a cur) (λ is.
      let parts = and_parts (hbo s.effects a b) (vis s.effects b cur) is in
      seen_below (suc b) a b cur (omega arith) parts.0 parts.1)

  causal : (cur : ℕ) (e : Effect) → effect_at s.effects cur ≡ Some e → promises.level e.op ≡ Causal → Holds s.effects (formula_of Causal) cur
  causal cur e at level [] chosen = absurd chosen
  causal cur e at level (a ∷ b ∷ more) chosen = absurd chosen.1
  causal cur e at level (a ∷ []) chosen = implies (hbo s.effects a cur) (vis s.effects a cur) (λ is. elim (leads-cases (hbo_step s.effects) a cur is) [
    | inl one ↦ keeps.sound.causal a cur e at level one
    | inr more ↦ seen_below (suc more.0) a more.0 cur (omega arith) more.2 (keeps.sound.causal more.0 cur e at level more.3)
  ])

  wide : (cur : ℕ) (e : Effect) → effect_at s.effects cur ≡ Some e → promises.level e.op ≡ Wide → Holds s.effects (formula_of Wide) cur
  wide cur e at level [] chosen = absurd chosen
  wide cur e at level (a ∷ b ∷ more) chosen = absurd chosen.1
  wide cur e at level (a ∷ []) chosen = implies (hb s.effects a cur && sameobj s.effects a cur) (vis s.effects a cur) (λ is.
      let parts = and_parts (hb s.effects a cur) (sameobj s.effects a cur) is in
      keeps.sound.wide a cur e at level parts.0 parts.1)

  object-back : (a b : ℕ) → sameobj s.effects a b ≡ true → sameobj s.effects b a ≡ true
  object-back a b is = let found = object-found s.effects a b is in object-from s.effects b a found.1 found.0 found.3 found.2 (sym found.4)

  strong : (cur : ℕ) (e : Effect) → effect_at s.effects cur ≡ Some e → promises.level e.op ≡ Strong → Holds s.effects (formula_of Strong) cur
  strong cur e at level [] chosen = absurd chosen
  strong cur e at level (a ∷ b ∷ more) chosen = absurd chosen.1
  strong cur e at level (a ∷ []) chosen = implies (sameobj s.effects a cur) ((vis s.effects a cur || vis s.effects cur a) || nat_eq a cur) (λ on. elim (cases_order a cur) [
    | inl same ↦ or_right (vis s.effects a cur || vis s.effects cur a) (nat_eq a cur) (eq-eqb a cur same)
    | inr (inl less) ↦ or_left _ (nat_eq a cur) (or_left (vis s.effects a cur) (vis s.effects cur a) (keeps.strong.sees cur a e (at, level) less on))
    | inr (inr more) ↦ or_left _ (nat_eq a cur) (or_right (vis s.effects a cur) (vis s.effects cur a) (keeps.strong.seen cur a e (at, level) more (object-back a cur on)))
  ])

  pub level_holds : (cur : ℕ) (e : Effect) → effect_at s.effects cur ≡ Some e → Holds s.effects (formula_of (promises.level e.op)) cur
  level_holds cur e at = by (promises.level e.op) refl
    where
      by : (level : Level) → promises.level e.op ≡ level → Holds s.effects (formula_of level) cur
      by Eventual is = eventual cur
      by Causal is = causal cur e at is
      by Wide is = wide cur e at is
      by Strong is = strong cur e at is

  -- ---- transactions

  module _ (run : ℕ) where
    -- the other two aren't inside, and are in one transaction
    abbrev Apart : ℕ → ℕ → Bool
    Apart c d = (not (inside s.effects run c) && (not (inside s.effects run d) && true)) && (sametxn s.effects c c && (sametxn s.effects c d && true))

    abbrev OneIn : ℕ → ℕ → ℕ → Bool
    OneIn a b c = (inside s.effects run a && true) && Apart b c

    abbrev TwoIn : ℕ → ℕ → ℕ → ℕ → Bool
    TwoIn a b c d = (inside s.effects run a && (inside s.effects run b && true)) && Apart c d

    apart-parts : (c d : ℕ) → Apart c d ≡ true → (inside s.effects run c ≡ false) × (sametxn s.effects c d ≡ true)
    apart-parts c d is =
        let halves = and_parts (not (inside s.effects run c) && (not (inside s.effects run d) && true)) (sametxn s.effects c c && (sametxn s.effects c d && true)) is in
        let outside = and_parts (not (inside s.effects run c)) (not (inside s.effects run d) && true) halves.0 in
        let in_one = and_parts (sametxn s.effects c c) (sametxn s.effects c d && true) halves.1 in
        let last = and_parts (sametxn s.effects c d) true in_one.1 in
        (off (inside s.effects run c) outside.0, last.0)
      where
        off : (b : Bool) → not b ≡ true → b ≡ false
        off false is = refl
        off true is = sym is

    whole : (a b c : ℕ) → (not ((OneIn a b c && sameobj s.effects b c) && vis s.effects b a) || vis s.effects c a) ≡ true
    whole a b c = implies ((OneIn a b c && sameobj s.effects b c) && vis s.effects b a) (vis s.effects c a) (λ all.
        let last = and_parts (OneIn a b c && sameobj s.effects b c) (vis s.effects b a) all in
        let first = and_parts (OneIn a b c) (sameobj s.effects b c) last.0 in
        let members = and_parts (inside s.effects run a && true) (Apart b c) first.0 in
        let in_it = and_parts (inside s.effects run a) true members.0 in
        let out = apart-parts b c members.1 in
        keeps.txns.whole a b c last.1 (apart s.effects run a b in_it.0 out.0) out.1 first.1)

    two-parts : (a b c d : ℕ) → TwoIn a b c d ≡ true → (inside s.effects run a ≡ true) × (inside s.effects run b ≡ true) × (inside s.effects run c ≡ false) × (sametxn s.effects c d ≡ true)
    two-parts a b c d is =
        let halves = and_parts (inside s.effects run a && (inside s.effects run b && true)) (Apart c d) is in
        let in_it = and_parts (inside s.effects run a) (inside s.effects run b && true) halves.0 in
        let second = and_parts (inside s.effects run b) true in_it.1 in
        let out = apart-parts c d halves.1 in
        (in_it.0, second.0, out.0, out.1)

    module _ (decl : DeclId) (named : IsUnderName s.effects run decl) where
      monotonic : promises.txn_level decl ≡ Mav → (a b c d : ℕ) → (not (((TwoIn a b c d && so s.effects a b) && vis s.effects c a) && sameobj s.effects d b) || vis s.effects d b) ≡ true
      monotonic level a b c d = implies (((TwoIn a b c d && so s.effects a b) && vis s.effects c a) && sameobj s.effects d b) (vis s.effects d b) (λ all.
          let last = and_parts ((TwoIn a b c d && so s.effects a b) && vis s.effects c a) (sameobj s.effects d b) all in
          let mid = and_parts (TwoIn a b c d && so s.effects a b) (vis s.effects c a) last.0 in
          let first = and_parts (TwoIn a b c d) (so s.effects a b) mid.0 in
          let in_it = two-parts a b c d first.0 in
          let found = inside-found s.effects run b in_it.1 in
          keeps.txns.monotonic run decl level a b c d found.0 (found.1, found.2) (named b found.0 found.1 found.2) in_it.0 first.1 mid.1 in_it.2 in_it.3 last.1)

      repeatable : promises.txn_level decl ≡ Rr → (a b c d : ℕ) → (not ((TwoIn a b c d && vis s.effects c a) && sameobj s.effects d b) || vis s.effects d b) ≡ true
      repeatable level a b c d = implies ((TwoIn a b c d && vis s.effects c a) && sameobj s.effects d b) (vis s.effects d b) (λ all.
          let last = and_parts (TwoIn a b c d && vis s.effects c a) (sameobj s.effects d b) all in
          let mid = and_parts (TwoIn a b c d) (vis s.effects c a) last.0 in
          let in_it = two-parts a b c d mid.0 in
          let found = inside-found s.effects run b in_it.1 in
          keeps.txns.repeatable run decl level a b c d found.0 (found.1, found.2) (named b found.0 found.1 found.2) in_it.0 mid.1 in_it.2 in_it.3 last.1)

      rc : HoldsTxn s.effects (txn_formula_of Rc) run
      rc [] chosen = absurd chosen
      rc (a ∷ []) chosen = absurd chosen.1
      rc (a ∷ b ∷ []) chosen = absurd chosen.1.1
      rc (a ∷ b ∷ c ∷ d ∷ more) chosen = absurd chosen.1.1.1
      rc (a ∷ b ∷ c ∷ []) chosen = whole a b c

      mav : promises.txn_level decl ≡ Mav → HoldsTxn s.effects (txn_formula_of Mav) run
      mav level [] chosen = absurd chosen
      mav level (a ∷ []) chosen = absurd chosen.1
      mav level (a ∷ b ∷ []) chosen = absurd chosen.1.1
      mav level (a ∷ b ∷ c ∷ []) chosen = absurd chosen.1.1.1
      mav level (a ∷ b ∷ c ∷ d ∷ e ∷ more) chosen = absurd chosen.1.1.1.1
      mav level (a ∷ b ∷ c ∷ d ∷ []) chosen =
          and_from (not ((OneIn a b c && sameobj s.effects b c) && vis s.effects b a) || vis s.effects c a)
          (not (((TwoIn a b c d && so s.effects a b) && vis s.effects c a) && sameobj s.effects d b) || vis s.effects d b) (whole a b c) (monotonic level a b c d)

      rr : promises.txn_level decl ≡ Rr → HoldsTxn s.effects (txn_formula_of Rr) run
      rr level [] chosen = absurd chosen
      rr level (a ∷ []) chosen = absurd chosen.1
      rr level (a ∷ b ∷ []) chosen = absurd chosen.1.1
      rr level (a ∷ b ∷ c ∷ []) chosen = absurd chosen.1.1.1
      rr level (a ∷ b ∷ c ∷ d ∷ e ∷ more) chosen = absurd chosen.1.1.1.1
      rr level (a ∷ b ∷ c ∷ d ∷ []) chosen = repeatable level a b c d

      pub txn_level_holds : HoldsTxn s.effects (txn_formula_of (promises.txn_level decl)) run
      txn_level_holds = by (promises.txn_level decl) refl
        where
          by : (level : TxnLevel) → promises.txn_level decl ≡ level → HoldsTxn s.effects (txn_formula_of level) run
          by Rc is = rc
          by Mav is = mav is
          by Rr is = rr is
