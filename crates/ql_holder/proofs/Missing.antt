-- What a set lacks of some ids, found one after another.
use Rattle.std.proofs.Common.{◌≡◌, ℕ, ◌<◌, Bool, true, false, ◌||◌, ◌&&◌, not, nat_eq, List, length, get_or, Some, refl, ap, subst, ◌∙◌, inl, inr, arith}
use Rattle.std.proofs.lemmas.Bool.{eqb-true, cases_Bool, cases_lt}
use Rattle.ql_base.specs.IdLists.{IsAscending, has_id}
use Rattle.ql_base.proofs.IdLemmas.{get_or-rises}
use Rattle.ql_holder.specs.Closed.{Has}
use Rattle.ql_holder.specs.Missing.{IsFirstMissing}
use Rattle.ql_holder.proofs.Members.{has_id-index, index-has}

-- a set that has none of some ids lacks them all
pub missing-all : (ids set : List ℕ) (a : ℕ) → ((b : ℕ) → Has ids b → has_id set b ≡ false) → has_id ids a ≡ (has_id ids a && not (has_id set a))
missing-all ids set a none = elim (cases_Bool (has_id ids a)) [
  | inl is ↦ rw (is, none a is) refl
  | inr other ↦ rw other refl
]

-- what the set lacks of one id more
pub missing-more : (before now set : List ℕ) (taken : Bool) (id a : ℕ) → has_id before a ≡ (taken && not (has_id set a)) → has_id now a ≡ (has_id before a || (nat_eq id a && not (has_id set id)))
    → has_id now a ≡ ((nat_eq id a || taken) && not (has_id set a))
missing-more before now set taken id a old new =
    new ∙ ap (λ (b : Bool). b || (nat_eq id a && not (has_id set id))) old ∙ by_test (nat_eq id a) refl
  where
    cases_set : (s t : Bool) → ((t && not s) || not s) ≡ not s
    cases_set true true = refl
    cases_set true false = refl
    cases_set false true = refl
    cases_set false false = refl

    or_none : (b : Bool) → (b || false) ≡ b
    or_none true = refl
    or_none false = refl

    by_test : (e : Bool) → nat_eq id a ≡ e → ((taken && not (has_id set a)) || (e && not (has_id set id))) ≡ ((e || taken) && not (has_id set a))
    by_test true same =
        ap (λ (b : ℕ). (taken && not (has_id set a)) || not (has_id set b)) (eqb-true id a same) ∙ cases_set (has_id set a) taken
    by_test false other = or_none (taken && not (has_id set a))

-- the ids before the first that a set lacks
pub first-missing : (ids set : List ℕ) (k : ℕ) → IsAscending ids → k < length ids → ((j : ℕ) → j < k → Has set (get_or ids j 0)) → has_id set (get_or ids k 0) ≡ false → IsFirstMissing ids set (Some (get_or ids k 0))
first-missing ids set k ascending inside before none = (
  index-has ids k inside,
  none,
  λ a is less.
      let at = has_id-index ids a is in
      let within = at.1 in
      subst (Has set) at.2 (before at.0 (elim (cases_lt at.0 k) [
        | inl lower ↦ lower
        | inr past ↦ absurd (let rises = get_or-rises ids k at.0 ascending past within in let same = at.2 in omega (arith, rises, same, less))
      ])),
)

-- an id that isn't to be added, and one that is
pub none-more : (rest is there : Bool) → true ≡ there → rest ≡ (rest || (is && not there))
none-more true is there in_set = refl
none-more false true there in_set = ap not in_set
none-more false false there in_set = refl

pub one-more : (before now : List ℕ) (there : Bool) (id a : ℕ) → false ≡ there → has_id now a ≡ (nat_eq id a || has_id before a) → has_id now a ≡ (has_id before a || (nat_eq id a && not there))
one-more before now there id a none is =
    is ∙ swap (nat_eq id a) (has_id before a) ∙ ap (λ (t : Bool). has_id before a || (nat_eq id a && not t)) none
  where
    swap : (p q : Bool) → (p || q) ≡ (q || (p && not false))
    swap true true = refl
    swap true false = refl
    swap false true = refl
    swap false false = refl
