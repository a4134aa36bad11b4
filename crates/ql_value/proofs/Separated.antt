-- one more item behind a comma
use Rattle.std.proofs.Common.{◌≡◌, ◌<◌, ◌+◌, ℕ, List, [], ◌∷◌, ◌++◌, length, take, get_or, map, sym, ap, ◌∙◌, append_assoc, All, subst}
use Rattle.std.specs.Prelude.{codes}
use Rattle.std.proofs.lemmas.List.{take_more, append-nil, map-append}
use Rattle.std.proofs.lemmas.List.Elements.{All-more}
use Rattle.ql_value.specs.Spelling.{followed}

followed-push : (texts : List (List ℕ)) (b : List ℕ) → followed (texts ++ b ∷ []) ≡ followed texts ++ (codes ", " ++ b)
followed-push [] b = append-nil (codes ", " ++ b)
followed-push (x ∷ xs) b = ap (λ t. (codes ", " ++ x) ++ t) (followed-push xs b) ∙ sym (append_assoc (codes ", " ++ x) (followed xs) (codes ", " ++ b))

pub one_more : {X : Type 0} (f : X → List ℕ) (xs : List X) (i : ℕ) (x : X) (start : List ℕ) → i < length xs → x ≡ get_or xs i x → ((start ++ followed (map f (take i xs))) ++ codes ", ") ++ f x ≡ start ++ followed (map f (take (i + 1) xs))
one_more f xs i x start lt x_is =
    let more : map f (take (i + 1) xs) ≡ map f (take i xs) ++ f x ∷ [] = ap (map f) (take_more xs i x lt) ∙ map-append f (take i xs) (get_or xs i x ∷ []) ∙ ap (λ y. map f (take i xs) ++ f y ∷ []) (sym x_is) in
    append_assoc (start ++ followed (map f (take i xs))) (codes ", ") (f x)
    ∙ append_assoc start (followed (map f (take i xs))) (codes ", " ++ f x)
    ∙ ap (λ t. start ++ t) (sym (ap followed more ∙ followed-push (map f (take i xs)) (f x)))

-- what holds of the first so many items holds of one more
pub all_more : {X : Type 0} (P : X → Type 0) (xs : List X) (i : ℕ) (x : X) → i < length xs → x ≡ get_or xs i x → All P (take i xs) → P x → All P (take (i + 1) xs)
all_more P xs i x lt x_is all here = All-more P xs i x lt all (subst P x_is here)
