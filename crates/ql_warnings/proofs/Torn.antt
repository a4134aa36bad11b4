-- No effect is both in the current transaction and outside it.
use Rattle.std.proofs.Common.{◌≡◌, ℕ, Bool, true, false, not, ◌&&◌, List, Some, slice_get, refl, subst}
use Rattle.std.specs.List.{list_all}
use Rattle.std.proofs.lemmas.List.Sums.{AllPass-from_list_all}
use Rattle.std.proofs.lemmas.Option.{get_or_from_slice_get, slice_get_within}
use Rattle.ql_lang.specs.Formulas.{InOneTxn}
use Rattle.ql_lang.specs.declared.formula.Term.{Term}
use Rattle.ql_exec.specs.declared.effect.Effect.{Effect}
use Rattle.ql_formula.specs.Truth.{place_of, statement_true, together}
use Rattle.ql_warnings.specs.Premises.{IsNeverTrue}

passes : {X : Type 0} (p : X → Bool) (xs : List X) (i : ℕ) (t : X) → list_all p xs ≡ true → slice_get xs i ≡ Some t → p t ≡ true
passes p xs i t all there = subst (λ y. p y ≡ true) (get_or_from_slice_get xs i t t there) (AllPass-from_list_all p xs all i t (slice_get_within xs i t there))

clash : (b : Bool) → b ≡ true → not b ≡ true → ⊥
clash true is other = absurd (cc)
clash false is other = absurd (cc)

never : (a b c : Bool) → (a ≡ true → b ≡ true → ⊥) → (a && (b && c)) ≡ false
never false b c apart = refl
never true false c apart = refl
never true true c apart = absurd (apart refl refl)

pub torn : (members others : List Term) → (i j : ℕ) × (t : Term) × (slice_get members i ≡ Some t) × (slice_get others j ≡ Some t) → IsNeverTrue (InOneTxn members others)
torn members others (i, j, t, is, other) x inside places cur =
    never (list_all (λ u. inside (place_of places cur u)) members) (list_all (λ u. not (inside (place_of places cur u))) others) (together x (place_of places cur) others)
    (λ inner outer. clash (inside (place_of places cur t)) (passes (λ u. inside (place_of places cur u)) members i t inner is) (passes (λ u. not (inside (place_of places cur u))) others j t outer other))
