-- At whatever level an effect is, it sees what is before an effect that it sees, on one object.
use Rattle.std.proofs.Common.{◌≡◌, ℕ, true, ◌&&◌, ◌||◌, ◌==◌, inl, inr, List, [], ◌∷◌, subst}
use Rattle.std.proofs.lemmas.Bool.{and_from, eqb-true, or_cases, or_right}
use Rattle.ql_lang.specs.declared.formula.OpChoice.TheVariants.{Any}
use Rattle.ql_levels.specs.declared.level.Level.{Level}
use Rattle.ql_levels.specs.declared.level.Level.TheVariants.{Eventual, Causal, Wide, Strong}
use Rattle.ql_levels.specs.Formulas.{formula_of}
use Rattle.ql_ground.specs.Effects.{Effect}
use Rattle.ql_ground.specs.Relations.{IsExecution, hb, hbo, sameobj, soo, vis}
use Rattle.ql_ground.specs.Truth.{Holds, in_range}
use Rattle.ql_ground.proofs.Laws.{hb-irreflexive, hb-trans, hbo-hb, hbo-one, hbo-sameobj, hbo-trans}
use Rattle.ql_ground.proofs.LevelRules.{gives}

module _ (x : List Effect) (law : IsExecution x) where
  seen-before : (a b : ℕ) → vis x a b ≡ true → hbo x a b ≡ true
  seen-before a b h = hbo-one x law a b (or_right (soo x a b) (vis x a b) h)

  -- what is before an effect is seen by it, where one of the two sees the other
  seen-indeed : (a c : ℕ) → hb x a c ≡ true → ((vis x a c || vis x c a) || (a == c)) ≡ true → vis x a c ≡ true
  seen-indeed a c h some = elim (or_cases (vis x a c || vis x c a) (a == c) some) [
    | inl seen ↦ elim (or_cases (vis x a c) (vis x c a) seen) [
      | inl before ↦ before
      | inr after ↦ absurd (hb-irreflexive x law a (hb-trans x law a c a h (hbo-hb x law c a (seen-before c a after))))
    ]
    | inr same ↦ absurd (hb-irreflexive x law c (subst (λ k. hb x k c ≡ true) (eqb-true a c same) h))
  ]

  -- what is before on the object is seen, above the lowest level
  pub before-seen : (level : Level) (c : ℕ) → Holds x (formula_of level) c → (a b : ℕ) → in_range x Any a ≡ true → in_range x Any b ≡ true → hbo x a b ≡ true → vis x b c ≡ true → vis x a c ≡ true
  before-seen Eventual c holds a b p q h g = gives (hbo x a b && vis x b c) (vis x a c) (holds (a ∷ b ∷ []) (p, (q, tt))) (and_from (hbo x a b) (vis x b c) h g)
  before-seen Causal c holds a b p q h g = gives (hbo x a c) (vis x a c) (holds (a ∷ []) (p, tt)) (hbo-trans x law a b c h (seen-before b c g))
  before-seen Wide c holds a b p q h g =
      let before : hbo x a c ≡ true = hbo-trans x law a b c h (seen-before b c g) in
      gives (hb x a c && sameobj x a c) (vis x a c) (holds (a ∷ []) (p, tt)) (and_from (hb x a c) (sameobj x a c) (hbo-hb x law a c before) (hbo-sameobj x law a c before))
  before-seen Strong c holds a b p q h g =
      let before : hbo x a c ≡ true = hbo-trans x law a b c h (seen-before b c g) in
      seen-indeed a c (hbo-hb x law a c before)
      (gives (sameobj x a c) ((vis x a c || vis x c a) || (a == c)) (holds (a ∷ []) (p, tt)) (hbo-sameobj x law a c before))
