-- Lists of ids as sets: what stands at an index, and one id more.
use Rattle.std.proofs.Common.{◌≡◌, ℕ, zero, suc, ◌+◌, ◌<◌, Bool, true, false, ◌||◌, nat_eq, List, [], ◌∷◌, ◌++◌, length, take, get_or, refl, ap, ◌∙◌, inl, inr, arith}
use Rattle.std.proofs.lemmas.Bool.{false≢true, or_cases, or_left, or_right, eq-eqb, eqb-true}
use Rattle.ql_base.specs.IdLists.{has_id}
use Rattle.ql_holder.specs.Closed.{Has}

-- each id stands at an index, and each index has an id
pub has_id-index : (ids : List ℕ) (a : ℕ) → Has ids a → (k : ℕ) × (k < length ids) × (get_or ids k 0 ≡ a)
has_id-index [] a is = absurd (false≢true is)
has_id-index (id ∷ ids) a is = elim (or_cases (nat_eq id a) (has_id ids a) is) [
  | inl here ↦ (0, omega arith, eqb-true id a here)
  | inr later ↦ (let found = has_id-index ids a later in let inside = found.1 in (suc found.0, omega (arith, inside), found.2))
]

pub index-has : (ids : List ℕ) (k : ℕ) → k < length ids → Has ids (get_or ids k 0)
index-has [] k inside = absurd (omega arith)
index-has (id ∷ ids) zero inside = or_left (nat_eq id id) (has_id ids id) (eq-eqb id id refl)
index-has (id ∷ ids) (suc k) inside = or_right (nat_eq id (get_or ids k 0)) (has_id ids (get_or ids k 0)) (index-has ids k (omega arith))

swap : (p q r : Bool) → (p || (q || r)) ≡ (q || (p || r))
swap true true r = refl
swap true false r = refl
swap false q r = refl

-- one id more, of a prefix and at the end
pub has_id-take : (ids : List ℕ) (k a : ℕ) → k < length ids → has_id (take (k + 1) ids) a ≡ (nat_eq (get_or ids k 0) a || has_id (take k ids) a)
has_id-take [] k a inside = absurd (omega arith)
has_id-take (id ∷ ids) zero a inside = refl
has_id-take (id ∷ ids) (suc k) a inside =
    ap (λ (n : ℕ). has_id (take n (id ∷ ids)) a) more
    ∙ ap (λ (b : Bool). nat_eq id a || b) (has_id-take ids k a (omega arith))
    ∙ swap (nat_eq id a) (nat_eq (get_or ids k 0) a) (has_id (take k ids) a)
  where
    more : suc k + 1 ≡ suc (k + 1)
    more = omega arith

pub has_id-push : (ids : List ℕ) (id a : ℕ) → has_id (ids ++ id ∷ []) a ≡ (nat_eq id a || has_id ids a)
has_id-push [] id a = refl
has_id-push (other ∷ ids) id a = ap (λ (b : Bool). nat_eq other a || b) (has_id-push ids id a) ∙ swap (nat_eq other a) (nat_eq id a) (has_id ids a)

-- what stands at an index, before the end and at it
pub get_or-front : (ids : List ℕ) (id k : ℕ) → k < length ids → get_or (ids ++ id ∷ []) k 0 ≡ get_or ids k 0
get_or-front [] id k inside = absurd (omega arith)
get_or-front (other ∷ ids) id zero inside = refl
get_or-front (other ∷ ids) id (suc k) inside = get_or-front ids id k (omega arith)

pub get_or-end : (ids : List ℕ) (id k : ℕ) → k ≡ length ids → get_or (ids ++ id ∷ []) k 0 ≡ id
get_or-end [] id zero is = refl
get_or-end [] id (suc k) is = absurd (omega arith)
get_or-end (other ∷ ids) id zero is = absurd (omega arith)
get_or-end (other ∷ ids) id (suc k) is = get_or-end ids id k (omega arith)
