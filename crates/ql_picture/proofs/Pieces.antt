-- what is printed of a list is printed item by item
use Rattle.std.proofs.Common.{◌≡◌, ℕ, ◌<◌, ◌+◌, length, List, [], ◌∷◌, ◌++◌, take, get_or, ap, sym, ◌∙◌}
use Rattle.std.specs.List.{flat_map}
use Rattle.std.proofs.lemmas.List.{flat_map_more, take_more}

-- one item more of a list's prefix
pub one_more : {X : Type 0} (f : X → List ℕ) (out : List ℕ) (xs : List X) (i : ℕ) (d : X) → i < length xs
    → (out ++ flat_map f (take i xs)) ++ f (get_or xs i d) ≡ out ++ flat_map f (take (i + 1) xs)
one_more f out xs i d lt = flat_map_more f out (take i xs) (get_or xs i d) ∙ ap (λ ys. out ++ flat_map f ys) (sym (take_more xs i d lt))

-- the same of an item that is given by its equation
pub item_more : {X : Type 0} (f : X → List ℕ) (out : List ℕ) (xs : List X) (i : ℕ) (x : X) → i < length xs → x ≡ get_or xs i x
    → (out ++ flat_map f (take i xs)) ++ f x ≡ out ++ flat_map f (take (i + 1) xs)
item_more f out xs i x lt is = ap (λ y. (out ++ flat_map f (take i xs)) ++ f y) is ∙ one_more f out xs i x lt
