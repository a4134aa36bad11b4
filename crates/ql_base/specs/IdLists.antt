use Rattle.std.specs.Prelude.{ℕ, ◌<◌, Bool, false, ◌||◌, cond, nat_eq, nat_lt, List, [], ◌∷◌}

-- an id is below each id of a list
abbrev pub IsBelowAll : ℕ → List ℕ → Type 0
IsBelowAll id [] = Unit {0}
IsBelowAll id (other ∷ ids) = (id < other) × IsBelowAll id ids

-- each id is below all later ones
abbrev pub IsAscending : List ℕ → Type 0
IsAscending [] = Unit {0}
IsAscending (id ∷ ids) = IsBelowAll id ids × IsAscending ids

-- whether an id is in a list
abbrev pub has_id : List ℕ → ℕ → Bool
has_id [] id = false
has_id (other ∷ ids) id = nat_eq other id || has_id ids id

-- an ascending list with an id inserted in order, unless it is already there
abbrev pub with_id : List ℕ → ℕ → List ℕ
with_id [] id = id ∷ []
with_id (other ∷ ids) id =
    cond (nat_lt id other) (id ∷ other ∷ ids) (cond (nat_lt other id) (other ∷ with_id ids id) (other ∷ ids))

-- the ids of two ascending lists
abbrev pub union_of : List ℕ → List ℕ → List ℕ
union_of [] others = others
union_of (id ∷ ids) others = with_id (union_of ids others) id
