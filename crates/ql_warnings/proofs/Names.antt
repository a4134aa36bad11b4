-- What relations give of each other, in each execution.
use Rattle.std.proofs.Common.{◌≡◌, ℕ, Bool, true, false, ◌||◌, List, refl, sym, ◌∙◌}
use Rattle.std.proofs.lemmas.Bool.{and_parts}
use Rattle.ql_exec.specs.declared.effect.Effect.{Effect}
use Rattle.ql_exec.specs.Execution.{IsExecution}
use Rattle.ql_exec.specs.Relations.{hb, hbo, sameobj, so, soo, vis}
use Rattle.ql_formula.specs.Truth.{named}
use Rattle.ql_lang.specs.declared.relation.RelName.{RelName}
use Rattle.ql_lang.specs.declared.relation.RelName.TheVariants.{Vis, So, Soo, SameObj, Eq, Hb, Hbo}
use Rattle.ql_ground.specs.Relations as ground
use Rattle.ql_ground.proofs.Laws.{hb-irreflexive, hb-one, hb-trans, hbo-hb, hbo-one, hbo-sameobj, sameobj-sym}
use Rattle.ql_implication.proofs.Plain.{eq-sym, plain_all, sameobj-same, so-same, soo-same, vis-same}
use Rattle.ql_implication.proofs.Chains.{hb-same, hbo-same}
use Rattle.ql_implication.proofs.Same.{execution-same}
use Rattle.ql_warnings.specs.Names.{is_order, is_on_object, is_symmetric, is_within}

or_first : (a b : Bool) → a ≡ true → (a || b) ≡ true
or_first true b h = refl
or_first false b h = absurd (cc)

or_second : (a b : Bool) → b ≡ true → (a || b) ≡ true
or_second true b h = refl
or_second false b h = h

module _ (x : List Effect) (law : IsExecution x) where
  abbrev plain_law : ground.IsExecution (plain_all x)
  plain_law = execution-same x law

  vis_hbo : (a b : ℕ) → vis x a b ≡ true → hbo x a b ≡ true
  vis_hbo a b h = sym (hbo-same x a b) ∙ hbo-one (plain_all x) plain_law a b (or_second (ground.soo (plain_all x) a b) (ground.vis (plain_all x) a b) (vis-same x a b ∙ h))

  soo_hbo : (a b : ℕ) → soo x a b ≡ true → hbo x a b ≡ true
  soo_hbo a b h = sym (hbo-same x a b) ∙ hbo-one (plain_all x) plain_law a b (or_first (ground.soo (plain_all x) a b) (ground.vis (plain_all x) a b) (soo-same x a b ∙ h))

  so_hb : (a b : ℕ) → so x a b ≡ true → hb x a b ≡ true
  so_hb a b h = sym (hb-same x a b) ∙ hb-one (plain_all x) plain_law a b (or_first (ground.so (plain_all x) a b) (ground.vis (plain_all x) a b) (so-same x a b ∙ h))

  hbo_hb : (a b : ℕ) → hbo x a b ≡ true → hb x a b ≡ true
  hbo_hb a b h = sym (hb-same x a b) ∙ hbo-hb (plain_all x) plain_law a b (hbo-same x a b ∙ h)

  hbo_object : (a b : ℕ) → hbo x a b ≡ true → sameobj x a b ≡ true
  hbo_object a b h = sym (sameobj-same x a b) ∙ hbo-sameobj (plain_all x) plain_law a b (hbo-same x a b ∙ h)

  no_loop : (a b : ℕ) → hb x a b ≡ true → hb x b a ≡ true → ⊥
  no_loop a b h g = hb-irreflexive (plain_all x) plain_law a (hb-trans (plain_all x) plain_law a b a (hb-same x a b ∙ h) (hb-same x b a ∙ g))

  pub within_holds : (n m : RelName) (a b : ℕ) → is_within n m ≡ true → named x n a b ≡ true → named x m a b ≡ true
  within_holds Vis Vis a b e h = h
  within_holds Vis So a b e h = absurd (cc)
  within_holds Vis Soo a b e h = absurd (cc)
  within_holds Vis SameObj a b e h = hbo_object a b (vis_hbo a b h)
  within_holds Vis Eq a b e h = absurd (cc)
  within_holds Vis Hb a b e h = hbo_hb a b (vis_hbo a b h)
  within_holds Vis Hbo a b e h = vis_hbo a b h
  within_holds So Vis a b e h = absurd (cc)
  within_holds So So a b e h = h
  within_holds So Soo a b e h = absurd (cc)
  within_holds So SameObj a b e h = absurd (cc)
  within_holds So Eq a b e h = absurd (cc)
  within_holds So Hb a b e h = so_hb a b h
  within_holds So Hbo a b e h = absurd (cc)
  within_holds Soo Vis a b e h = absurd (cc)
  within_holds Soo So a b e h = (and_parts (so x a b) (sameobj x a b) h).0
  within_holds Soo Soo a b e h = h
  within_holds Soo SameObj a b e h = (and_parts (so x a b) (sameobj x a b) h).1
  within_holds Soo Eq a b e h = absurd (cc)
  within_holds Soo Hb a b e h = hbo_hb a b (soo_hbo a b h)
  within_holds Soo Hbo a b e h = soo_hbo a b h
  within_holds SameObj Vis a b e h = absurd (cc)
  within_holds SameObj So a b e h = absurd (cc)
  within_holds SameObj Soo a b e h = absurd (cc)
  within_holds SameObj SameObj a b e h = h
  within_holds SameObj Eq a b e h = absurd (cc)
  within_holds SameObj Hb a b e h = absurd (cc)
  within_holds SameObj Hbo a b e h = absurd (cc)
  within_holds Eq Vis a b e h = absurd (cc)
  within_holds Eq So a b e h = absurd (cc)
  within_holds Eq Soo a b e h = absurd (cc)
  within_holds Eq SameObj a b e h = absurd (cc)
  within_holds Eq Eq a b e h = h
  within_holds Eq Hb a b e h = absurd (cc)
  within_holds Eq Hbo a b e h = absurd (cc)
  within_holds Hb Vis a b e h = absurd (cc)
  within_holds Hb So a b e h = absurd (cc)
  within_holds Hb Soo a b e h = absurd (cc)
  within_holds Hb SameObj a b e h = absurd (cc)
  within_holds Hb Eq a b e h = absurd (cc)
  within_holds Hb Hb a b e h = h
  within_holds Hb Hbo a b e h = absurd (cc)
  within_holds Hbo Vis a b e h = absurd (cc)
  within_holds Hbo So a b e h = absurd (cc)
  within_holds Hbo Soo a b e h = absurd (cc)
  within_holds Hbo SameObj a b e h = hbo_object a b h
  within_holds Hbo Eq a b e h = absurd (cc)
  within_holds Hbo Hb a b e h = hbo_hb a b h
  within_holds Hbo Hbo a b e h = h

  order_hb : (n : RelName) (a b : ℕ) → is_order n ≡ true → named x n a b ≡ true → hb x a b ≡ true
  order_hb Vis a b e h = hbo_hb a b (vis_hbo a b h)
  order_hb So a b e h = so_hb a b h
  order_hb Soo a b e h = hbo_hb a b (soo_hbo a b h)
  order_hb Hbo a b e h = hbo_hb a b h
  order_hb Hb a b e h = h
  order_hb SameObj a b e h = absurd (cc)
  order_hb Eq a b e h = absurd (cc)

  pub no_order_back : (n m : RelName) (a b : ℕ) → is_order n ≡ true → is_order m ≡ true → named x n a b ≡ true → named x m b a ≡ true → ⊥
  no_order_back n m a b e f h g = no_loop a b (order_hb n a b e h) (order_hb m b a f g)

  pub on_object : (n : RelName) (a b : ℕ) → is_on_object n ≡ true → named x n a b ≡ true → sameobj x a b ≡ true
  on_object Vis a b e h = hbo_object a b (vis_hbo a b h)
  on_object Soo a b e h = (and_parts (so x a b) (sameobj x a b) h).1
  on_object SameObj a b e h = h
  on_object Hbo a b e h = hbo_object a b h
  on_object So a b e h = absurd (cc)
  on_object Eq a b e h = absurd (cc)
  on_object Hb a b e h = absurd (cc)

  pub turned : (n : RelName) (a b : ℕ) → is_symmetric n ≡ true → named x n a b ≡ true → named x n b a ≡ true
  turned SameObj a b e h = sym (sameobj-same x b a) ∙ sameobj-sym (plain_all x) a b (sameobj-same x a b ∙ h)
  turned Eq a b e h = eq-sym b a ∙ h
  turned Vis a b e h = absurd (cc)
  turned So a b e h = absurd (cc)
  turned Soo a b e h = absurd (cc)
  turned Hb a b e h = absurd (cc)
  turned Hbo a b e h = absurd (cc)
