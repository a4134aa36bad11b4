-- Lists made over ranges and over choices: what stands where, and what all of them pass.
use Rattle.std.proofs.Common.{◌≡◌, ℕ, zero, suc, ◌+◌, ◌*◌, ◌<◌, Bool, true, List, [], ◌∷◌, ◌++◌, length, get_or, refl, sym, ◌∙◌, ap, arith, inl, inr, length-append}
use Rattle.std.proofs.lemmas.Bool.{and_from, or_left, or_right, cases_lt}
use Rattle.std.proofs.lemmas.List.{get_or_append_left, get_or-append-add}
use Rattle.std.proofs.lemmas.List.Folds.{list_all-append, list_any-append}
use Rattle.std.proofs.lemmas.Nat.{mul-add-lt}
use Rattle.std.specs.List.{list_all, list_any}
use Rattle.ql_base.specs.Ranges.{upto}
use Rattle.ql_ground.specs.Ground.{choices}

pub length-upto : {A : Type 0} (n w : ℕ) (f : ℕ → List A) → ((i : ℕ) → length (f i) ≡ w) → length (upto n f) ≡ n * w
length-upto zero w f h = omega arith
length-upto (suc n) w f h =
    let rest : length (upto n f) ≡ n * w = length-upto n w f h in
    let product : suc n * w ≡ n * w + w = grind arith in
    omega (arith, length-append (upto n f) (f n), h n)

-- the item j of the part i, where each part has w items
pub upto-at : {A : Type 0} (n w : ℕ) (f : ℕ → List A) (i j : ℕ) (d : A) → ((p : ℕ) → length (f p) ≡ w) → i < n → j < w → get_or (upto n f) (i * w + j) d ≡ get_or (f i) j d
upto-at zero w f i j d h l m = absurd (omega arith)
upto-at (suc n) w f i j d h l m = elim (cases_lt i n) [
  | inl less ↦
      let inside : i * w + j < length (upto n f) = omega (arith, mul-add-lt i w j n less m, length-upto n w f h) in
      get_or_append_left (upto n f) (f n) d (i * w + j) inside ∙ upto-at n w f i j d h less m
  | inr more ↦
      let last : i ≡ n = omega arith in
      let place : i * w + j ≡ length (upto n f) + j = ap (λ p. p * w + j) last ∙ ap (λ p. p + j) (sym (length-upto n w f h)) in
      ap (λ p. get_or (upto n f ++ f n) p d) place ∙ get_or-append-add (upto n f) (f n) j d ∙ ap (λ p. get_or (f p) j d) (sym last)
]

-- all items of a range pass where all of each part do
pub upto-all : {A : Type 0} (p : A → Bool) (n : ℕ) (f : ℕ → List A) → ((i : ℕ) → i < n → list_all p (f i) ≡ true) → list_all p (upto n f) ≡ true
upto-all p zero f h = refl
upto-all p (suc n) f h =
    list_all-append p (upto n f) (f n)
    ∙ and_from (list_all p (upto n f)) (list_all p (f n)) (upto-all p n f (λ i l. h i (omega arith))) (h n (omega arith))

pub all-append : {A : Type 0} (p : A → Bool) (xs ys : List A) → list_all p xs ≡ true → list_all p ys ≡ true → list_all p (xs ++ ys) ≡ true
all-append p xs ys h g = list_all-append p xs ys ∙ and_from (list_all p xs) (list_all p ys) h g

-- for each number below n for each place
abbrev pub ForEach : ℕ → ℕ → (List ℕ → Type 0) → Type 0
ForEach n zero P = P []
ForEach n (suc places) P = (i : ℕ) → i < n → ForEach n places (λ rest. P (i ∷ rest))

abbrev pub AllBelow : ℕ → List ℕ → Type 0
AllBelow n [] = Unit {0}
AllBelow n (x ∷ xs) = (x < n) × AllBelow n xs

pub each-at : (n places : ℕ) (P : List ℕ → Type 0) → ForEach n places P → (constants : List ℕ) → length constants ≡ places → AllBelow n constants → P constants
each-at n zero P h [] e b = h
each-at n zero P h (x ∷ xs) e b = absurd (omega arith)
each-at n (suc places) P h [] e b = absurd (omega arith)
each-at n (suc places) P h (x ∷ xs) e b = each-at n places (λ rest. P (x ∷ rest)) (h x b.0) xs (omega arith) b.1

pub choices-all : {A : Type 0} (p : A → Bool) (n places : ℕ) (f : List ℕ → List A) → ((constants : List ℕ) → length constants ≡ places → AllBelow n constants → list_all p (f constants) ≡ true) → list_all p (choices n places f) ≡ true
choices-all p n zero f h = h [] refl tt
choices-all p n (suc places) f h =
    upto-all p n (λ first. choices n places (λ rest. f (first ∷ rest)))
    (λ i l. choices-all p n places (λ rest. f (i ∷ rest)) (λ rest e b. h (i ∷ rest) (omega arith) (l, b)))

-- an item of a part passes
pub upto-any : {A : Type 0} (p : A → Bool) (n : ℕ) (f : ℕ → List A) (i : ℕ) → i < n → list_any p (f i) ≡ true → list_any p (upto n f) ≡ true
upto-any p zero f i l h = absurd (omega arith)
upto-any p (suc n) f i l h = list_any-append p (upto n f) (f n) ∙ elim (cases_lt i n) [
  | inl less ↦ or_left (list_any p (upto n f)) (list_any p (f n)) (upto-any p n f i less h)
  | inr more ↦ or_right (list_any p (upto n f)) (list_any p (f n)) (ap (λ k. list_any p (f k)) (omega arith) ∙ h)
]
