-- A new effect outside any transaction.
use Rattle.std.proofs.Common.{◌≡◌, ◌∷◌, ◌++◌, [], ◌||◌, ℕ, zero, suc, Bool, true, false, nat_eq, List, All, Option, Some, None, length, map, ap, sym, subst, ◌∙◌, arith, refl, length-append}
use Rattle.std.proofs.lemmas.Bool.{false_from_ne_true}
use Rattle.ql_base.specs.IdLists.{has_id}
use Rattle.ql_base.specs.declared.ids.EffId.{EffId}
use Rattle.ql_exec.specs.declared.effect.Draft.{Draft}
use Rattle.ql_exec.specs.declared.effect.Effect.{Effect}
use Rattle.ql_exec.specs.declared.effect.Member.{Member}
use Rattle.ql_exec.specs.declared.effect.Member.TheVariants.{Alone, Inside}
use Rattle.ql_exec.specs.Effects.{both, effect_at}
use Rattle.ql_exec.specs.Execution.{effect_of, next_id}
use Rattle.ql_exec.specs.Relations.{same_run}
use Rattle.ql_exec.proofs.Finding.{effect_at-last}
use Rattle.ql_holder.specs.Needs.{AreThere, IsPackage}
use Rattle.ql_machine.specs.State.{received_at}

-- what holds of each holder's list and of no ids holds of each list
pub each-list : {A : Type 0} (received : A → List ℕ) (holds : List ℕ → Type 0) → holds [] → (holders : List A) → All (λ h. holds (received h)) holders
    → (r : ℕ) → holds (received_at (map received holders) r)
each-list received holds none [] all r = none
each-list received holds none (h ∷ holders) all zero = all 0 h (omega arith)
each-list received holds none (h ∷ holders) all (suc r) = each-list received holds none holders (λ k d inside. all (suc k) d (omega (arith, inside))) r

-- the next id isn't among effects that are there
pub next-absent : (x : List Effect) (ids : List ℕ) → AreThere x ids → has_id ids (next_id x).0 ≡ false
next-absent x ids there = false_from_ne_true (has_id ids (suc (length x))) (λ has. (let within = (there (suc (length x)) has).1 in omega (arith, within)))

none-beside : (m n : Member) → m ≡ Alone → same_run m n ≡ false
none-beside m Alone is = refl
none-beside m (Inside run name) is = ap (λ (k : Member). same_run k (Inside run name)) is

beside : (e : Effect) (r : Option Effect) → e.member ≡ Alone → both (λ f g. same_run f.member g.member) (Some e) r ≡ false
beside e None alone = refl
beside e (Some f) alone = none-beside e.member f.member alone

or-none : (b : Bool) → (b || false) ≡ b
or-none true = refl
or-none false = refl

-- it is a package by itself
pub package-alone : (x later : List Effect) (draft : Draft) (id : EffId) → later ≡ x ++ effect_of x draft ∷ [] → id ≡ next_id x → draft.member ≡ Alone → IsPackage later (id.0 ∷ [])
package-alone x later draft id made number alone =
    let e = effect_of x draft in
    let long = length-append x (e ∷ []) in
    let own : IsPackage (x ++ e ∷ []) ((next_id x).0 ∷ []) = record {
      member = (next_id x).0;
      first = omega arith;
      last = omega (arith, long);
      all = λ a. ap (λ (b : Bool). nat_eq (suc (length x)) a || b)
          (sym (ap (λ (r : Option Effect). both (λ f g. same_run f.member g.member) r (effect_at (x ++ e ∷ []) a)) (effect_at-last x e) ∙ beside e (effect_at (x ++ e ∷ []) a) alone));
    } in
    subst (λ (y : List Effect). IsPackage y (id.0 ∷ [])) (sym made) (subst (λ (i : EffId). IsPackage (x ++ e ∷ []) (i.0 ∷ [])) (sym number) own)
