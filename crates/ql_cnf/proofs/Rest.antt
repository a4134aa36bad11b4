-- The clause of the literals that are left.
use Rattle.std.proofs.Common.{◌≡◌, ℕ, suc, ◌+◌, ◌<◌, ◌≤◌, List, [], ◌∷◌, Some, None, length, get_or, drop, refl, sym, ◌∙◌, ap, add-one, drop-cons}
use Rattle.std.proofs.lemmas.List.{drop_all}
use Rattle.ql_cnf.specs.Literals.{with_literal, with_literals, clause_of}
use Rattle.ql_cnf.specs.declared.lit.Lit.{Lit}

pub rest_none : (xs c : List Lit) (i : ℕ) (d : Lit) → i < length xs → clause_of xs ≡ with_literals c (drop i xs) → with_literal (get_or xs i d) c ≡ None → None ≡ clause_of xs
rest_none xs c i d h e n =
    let next : drop i xs ≡ get_or xs i d ∷ drop (suc i) xs = drop-cons xs i d h in
    sym (e ∙ rw next (rw n refl))

pub rest_some : (xs c f : List Lit) (i : ℕ) (d : Lit) → i < length xs → clause_of xs ≡ with_literals c (drop i xs) → with_literal (get_or xs i d) c ≡ Some f → clause_of xs ≡ with_literals f (drop (i + 1) xs)
rest_some xs c f i d h e n =
    let next : drop i xs ≡ get_or xs i d ∷ drop (suc i) xs = drop-cons xs i d h in
    e ∙ rw (next, add-one) (rw n refl)

pub rest_done : (xs c r : List Lit) (i : ℕ) → length xs ≤ i → clause_of xs ≡ with_literals c (drop i xs) → r ≡ c → Some r ≡ clause_of xs
rest_done xs c r i h e same =
    let none : drop i xs ≡ [] = drop_all i xs h in
    sym (e ∙ rw none (ap Some (sym same)))
