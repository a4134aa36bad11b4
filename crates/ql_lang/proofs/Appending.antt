use Rattle.std.proofs.Common.{◌≡◌, ℕ, ◌<◌, ◌≤◌, ◌+◌, List, [], ◌∷◌, ◌++◌, ◌∙◌, ap, refl, sym, append_assoc, drop, length, map}
use Rattle.std.proofs.Math.ListN.{get_or}
use Rattle.std.proofs.lemmas.List.{append-nil, drop_all, drop_more}
use Rattle.std.specs.List.{concat}
use Rattle.ql_lang.specs.Spelling.{listed}

-- a text behind which two more were put
pub behind : {a b : List ℕ} (old x y : List ℕ) → a ≡ old ++ x → b ≡ a ++ y → b ≡ old ++ (x ++ y)
behind old x y first second = second ∙ ap (λ t. t ++ y) first ∙ append_assoc old x y

-- the texts that are left, when one more was put
pub one_fewer : {T U : Type 0} (F : U → List ℕ) (G : T → U) (xs : List T) (i : ℕ) (x : T) (a b all : List ℕ) → i < length xs → x ≡ get_or xs i x → a ++ concat (map F (map G (drop i xs))) ≡ all → b ≡ a ++ F (G x) → b ++ concat (map F (map G (drop (i + 1) xs))) ≡ all
one_fewer F G xs i x a b all below is so_far put =
    ap (λ t. t ++ concat (map F (map G (drop (i + 1) xs)))) put
    ∙ append_assoc a (F (G x)) (concat (map F (map G (drop (i + 1) xs))))
    ∙ ap (λ y. a ++ concat (map F (map G (y ∷ drop (i + 1) xs)))) is
    ∙ ap (λ ys. a ++ concat (map F (map G ys))) (sym (drop_more xs i x below))
    ∙ so_far

-- the same of texts that are made of the items at once
pub one_less : {T : Type 0} (F : T → List ℕ) (xs : List T) (i : ℕ) (x : T) (a b all : List ℕ) → i < length xs → x ≡ get_or xs i x → a ++ concat (map F (drop i xs)) ≡ all → b ≡ a ++ F x → b ++ concat (map F (drop (i + 1) xs)) ≡ all
one_less F xs i x a b all below is so_far put =
    ap (λ t. t ++ concat (map F (drop (i + 1) xs))) put
    ∙ append_assoc a (F x) (concat (map F (drop (i + 1) xs)))
    ∙ ap (λ y. a ++ concat (map F (y ∷ drop (i + 1) xs))) is
    ∙ ap (λ ys. a ++ concat (map F ys)) (sym (drop_more xs i x below))
    ∙ so_far

-- no text is left
pub none_left : {T U : Type 0} (F : U → List ℕ) (G : T → U) (xs : List T) (i : ℕ) (a all : List ℕ) → length xs ≤ i → a ++ concat (map F (map G (drop i xs))) ≡ all → a ≡ all
none_left F G xs i a all past so_far = sym (append-nil a) ∙ ap (λ ys. a ++ concat (map F (map G ys))) (sym (drop_all i xs past)) ∙ so_far

-- the texts of a list that are left: this mark before the first, and the separator before each other one
abbrev pub continued : List ℕ → List ℕ → List (List ℕ) → List ℕ
continued before mark [] = []
continued before mark (t ∷ ts) = before ++ (t ++ concat (map (λ u. mark ++ u) ts))

-- with nothing before the first one they are the list
pub from_start : (mark : List ℕ) (ts : List (List ℕ)) → continued [] mark ts ≡ listed mark ts
from_start mark [] = refl
from_start mark (t ∷ ts) = refl

marked_on : (mark : List ℕ) (ts : List (List ℕ)) → continued mark mark ts ≡ concat (map (λ u. mark ++ u) ts)
marked_on mark [] = refl
marked_on mark (t ∷ ts) = sym (append_assoc mark t (concat (map (λ u. mark ++ u) ts)))

-- the same list, when what stands before the first one was put, and then the first one
pub one_listed : (before mark t : List ℕ) (all_left ts : List (List ℕ)) (a m b all : List ℕ) → all_left ≡ t ∷ ts → a ++ continued before mark all_left ≡ all → m ≡ a ++ before → b ≡ m ++ t → b ++ continued mark mark ts ≡ all
one_listed before mark t all_left ts a m b all is so_far first second =
    ap (λ x. x ++ continued mark mark ts) (behind a before t first second)
    ∙ ap (λ x. (a ++ (before ++ t)) ++ x) (marked_on mark ts)
    ∙ append_assoc a (before ++ t) (concat (map (λ u. mark ++ u) ts))
    ∙ ap (λ x. a ++ x) (append_assoc before t (concat (map (λ u. mark ++ u) ts)))
    ∙ ap (λ us. a ++ continued before mark us) (sym is)
    ∙ so_far

-- none of them is left
pub none_listed : (before mark : List ℕ) (all_left : List (List ℕ)) (a all : List ℕ) → all_left ≡ [] → a ++ continued before mark all_left ≡ all → a ≡ all
none_listed before mark all_left a all none so_far = sym (append-nil a) ∙ ap (λ us. a ++ continued before mark us) (sym none) ∙ so_far

-- what a loop has left, when it takes one more
pub taken : {T : Type 0} (xs : List T) (i : ℕ) (x : T) → i < length xs → x ≡ get_or xs i x → drop i xs ≡ x ∷ drop (i + 1) xs
taken xs i x below is = drop_more xs i x below ∙ ap (λ y. y ∷ drop (i + 1) xs) (sym is)
