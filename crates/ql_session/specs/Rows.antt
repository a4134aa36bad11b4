-- Lists of numbers by an index from 0. All but finitely many are empty.
use Rattle.std.specs.Prelude.{◌≡◌, ℕ, ◌-◌, List, [], ◌∷◌, ◌++◌, length, map, nat_eq, if◌then◌else◌, slice_index_or, take}
use Rattle.std.specs.Prelude.{ℕ, ◌-◌, length, List, nat_eq, Vec, slice_index_or}
use Rattle.std.specs.Global.{Global}

abbrev pub lists_of : List (Vec ℕ Global) → List (List ℕ)
lists_of rows = map (λ row. row.items) rows

abbrev pub row_at : List (List ℕ) → ℕ → List ℕ
row_at rows k = slice_index_or rows k []

abbrev pub all_but_last : List ℕ → List ℕ
all_but_last numbers = take (length numbers - 1) numbers

-- one list has a number added at its end, and the others stay
abbrev pub IsPushed : List (List ℕ) → List (List ℕ) → ℕ → ℕ → Type 0
IsPushed before after k n = (q : ℕ) → row_at after q ≡ (if nat_eq k q then row_at before q ++ n ∷ [] else row_at before q)

-- one list is without its last number, and the others stay
abbrev pub IsPopped : List (List ℕ) → List (List ℕ) → ℕ → Type 0
IsPopped before after k = (q : ℕ) → row_at after q ≡ (if nat_eq k q then all_but_last (row_at before q) else row_at before q)

-- the lists are the same
abbrev pub AreSame : List (List ℕ) → List (List ℕ) → Type 0
AreSame before after = (q : ℕ) → row_at after q ≡ row_at before q
