-- The first and the last id of an ascending list.
use Rattle.std.proofs.Common.{◌≡◌, ℕ, suc, ◌+◌, ◌-◌, ◌<◌, ◌≤◌, true, nat_eq, List, [], ◌∷◌, length, get_or, drop, ap, subst, ◌∙◌, inl, inr, arith}
use Rattle.std.proofs.lemmas.List.{get_or_default, get_or-drop}
use Rattle.ql_base.specs.IdLists.{IsAscending, has_id}
use Rattle.ql_base.proofs.IdLemmas.{get_or-rises}
use Rattle.ql_holder.proofs.Members.{has_id-index}

-- the ids of an ascending list are from its first to its last
pub between-ends : (ids : List ℕ) (a : ℕ) → IsAscending ids → has_id ids a ≡ true → (get_or ids 0 0 ≤ a) × (a ≤ get_or ids (length ids - 1) 0)
between-ends ids a ascending is =
    let place = has_id-index ids a is in
    let inside = place.1 in
    let low = get_or-rises ids 0 place.0 ascending (omega arith) inside in
    let high = get_or-rises ids place.0 (length ids - 1) ascending (omega (arith, inside)) (omega (arith, inside)) in (
      subst (λ (b : ℕ). get_or ids 0 0 ≤ b) place.2 low,
      subst (λ (b : ℕ). b ≤ get_or ids (length ids - 1) 0) place.2 high,
    )

-- they rise, whatever stands for those past the end
pub ascending-rise : (ids : List ℕ) → IsAscending ids → (i j d : ℕ) → i ≤ j → j < length ids → get_or ids i d ≤ get_or ids j d
ascending-rise ids ascending i j d order inside =
    let low = get_or_default ids i d 0 (omega (arith, order, inside)) in
    let high = get_or_default ids j d 0 inside in
    let rise = get_or-rises ids i j ascending order inside in
    omega (arith, low, high, rise)

-- an id behind an index, as one of those that are left there
pub id-behind : (ids : List ℕ) (from k : ℕ) → from ≤ k → get_or (drop from ids) (k - from) 0 ≡ get_or ids k 0
id-behind ids from k behind =
    let back : from + (k - from) ≡ k = omega (arith, behind) in
    get_or-drop from ids (k - from) 0 ∙ ap (λ (n : ℕ). get_or ids n 0) back
