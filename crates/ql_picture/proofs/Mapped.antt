-- a list that is made item by item
use Rattle.std.proofs.Common.{◌≡◌, ℕ, ◌<◌, ◌+◌, length, List, [], ◌∷◌, ◌++◌, map, take, get_or, ap, sym, ◌∙◌}
use Rattle.std.proofs.lemmas.List.{map-append, take_more}

-- one item more on both sides
pub one_made : {X Y Z : Type 0} (f : X → Z) (g : Y → Z) (xs : List X) (ys : List Y) (i : ℕ) (x : X) (y : Y) → i < length ys → y ≡ get_or ys i y
    → map f xs ≡ map g (take i ys) → f x ≡ g y → map f (xs ++ x ∷ []) ≡ map g (take (i + 1) ys)
one_made f g xs ys i x y lt is same made =
    map-append f xs (x ∷ []) ∙ ap (λ l. l ++ f x ∷ []) same ∙ ap (λ z. map g (take i ys) ++ z ∷ []) made
    ∙ ap (λ w. map g (take i ys) ++ g w ∷ []) is ∙ sym (map-append g (take i ys) (get_or ys i y ∷ [])) ∙ ap (map g) (sym (take_more ys i y lt))
