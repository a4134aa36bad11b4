-- Clause lists that grow by one group of clauses after another.
use Rattle.std.proofs.lemmas.List.{map_more, map-append, take_more_set}
use Rattle.std.proofs.lemmas.List.Elements.{All-weaker}
use Rattle.std.proofs.Math.ListN.{set}
use Rattle.std.proofs.Common.{◌≡◌, ℕ, zero, suc, ◌+◌, ◌-◌, ◌<◌, ◌≤◌, arith, length, get_or, take, map, List, [], ◌∷◌, ◌++◌, refl, sym, ◌∙◌, ap, append-nil, append_assoc, add-one}
use Rattle.ql_atoms.specs.Atoms.{Size}
use Rattle.ql_cnf.specs.declared.lit.Lit.{Lit}
use Rattle.ql_cnf.specs.Circuits.{Circuit, Input, Both, clauses_of}
use Rattle.ql_cnf.specs.Satisfaction.{AreInRange}
use Rattle.ql_cnf.proofs.CircuitLemmas.{clauses_of-append}
use Rattle.ql_ground.specs.Bodies.{grouped}
use Rattle.ql_typing.specs.WellFormed.{AreBelow}
use Rattle.ql_ground.specs.Rules.{Rule}
use Rattle.ql_base.specs.Ranges.{upto}
use Rattle.ql_ground.specs.Ground.{choices, instances, all_instances}

-- literals over the first of the variables
pub in_range_more : (n m : ℕ) (c : List Lit) → n ≤ m → AreInRange n c → AreInRange m c
in_range_more n m c l h = All-weaker (λ x. (1 ≤ x.var) × (x.var ≤ n)) (λ x. (1 ≤ x.var) × (x.var ≤ m)) (λ x p. (p.0, omega (arith, l, p.1))) c h

pub then : (old mid new a b : List (List Lit)) → mid ≡ old ++ clauses_of a → new ≡ mid ++ clauses_of b → new ≡ old ++ clauses_of (a ++ b)
then old mid new a b h g =
    g ∙ ap (λ p. p ++ clauses_of b) h ∙ append_assoc old (clauses_of a) (clauses_of b) ∙ ap (λ p. old ++ p) (sym (clauses_of-append a b))

-- a last group
pub last : (old new a : List (List Lit)) → new ≡ old ++ clauses_of a → new ≡ old ++ clauses_of (a ++ [])
last old new a h = h ∙ ap (λ p. old ++ clauses_of p) (sym (append-nil a))

-- a group over a range, one part more
pub upto_more : (f : ℕ → List (List Lit)) (old mid new : List (List Lit)) (i : ℕ) → mid ≡ old ++ clauses_of (upto i f) → new ≡ mid ++ clauses_of (f i) → new ≡ old ++ clauses_of (upto (i + 1) f)
upto_more f old mid new i h g = rw add-one (then old mid new (upto i f) (f i) h g)

upto-same : {A : Type 0} (n : ℕ) (f g : ℕ → List A) → ((i : ℕ) → f i ≡ g i) → upto n f ≡ upto n g
upto-same zero f g h = refl
upto-same (suc n) f g h = ap (λ p. p ++ f n) (upto-same n f g h) ∙ ap (λ p. upto n g ++ p) (h n)

choices-same : {A : Type 0} (n k : ℕ) (f g : List ℕ → List A) → ((r : List ℕ) → f r ≡ g r) → choices n k f ≡ choices n k g
choices-same n zero f g h = h []
choices-same n (suc k) f g h = upto-same n _ _ (λ first. choices-same n k (λ rest. f (first ∷ rest)) (λ rest. g (first ∷ rest)) (λ rest. h (first ∷ rest)))

-- the choices that begin with these
abbrev pub from : ℕ → ℕ → (List ℕ → List (List Lit)) → List ℕ → List (List Lit)
from n k f front = choices n k (λ rest. f (front ++ rest))

pub from_next : (n k : ℕ) (f : List ℕ → List (List Lit)) (front : List ℕ) → upto n (λ first. from n k f (front ++ first ∷ [])) ≡ from n (suc k) f front
from_next n k f front =
    upto-same n (λ first. from n k f (front ++ first ∷ [])) (λ first. choices n k (λ rest. f (front ++ first ∷ rest)))
    (λ first. choices-same n k (λ rest. f ((front ++ first ∷ []) ++ rest)) (λ rest. f (front ++ first ∷ rest)) (λ rest. ap f (append_assoc front (first ∷ []) rest)))

pub all_instances-append : (s : Size) (xs ys : List Rule) → all_instances s (xs ++ ys) ≡ all_instances s xs ++ all_instances s ys
all_instances-append s [] ys = refl
all_instances-append s (r ∷ xs) ys = ap (λ p. instances s r ++ p) (all_instances-append s xs ys) ∙ sym (append_assoc (instances s r) (all_instances s xs) (all_instances s ys))

-- rules after rules
pub then_rules : (s : Size) (old mid new : List (List Lit)) (xs ys : List Rule) → mid ≡ old ++ clauses_of (all_instances s xs) → new ≡ mid ++ clauses_of (all_instances s ys) → new ≡ old ++ clauses_of (all_instances s (xs ++ ys))
then_rules s old mid new xs ys h g =
    then old mid new (all_instances s xs) (all_instances s ys) h g ∙ ap (λ p. old ++ clauses_of p) (sym (all_instances-append s xs ys))

-- a rule after rules
pub then_rule : (s : Size) (old mid new : List (List Lit)) (r : Rule) (ys : List Rule) → mid ≡ old ++ clauses_of (instances s r) → new ≡ mid ++ clauses_of (all_instances s ys) → new ≡ old ++ clauses_of (all_instances s (r ∷ ys))
then_rule s old mid new r ys h g = then old mid new (instances s r) (all_instances s ys) h g

-- one rule
pub one_rule : (s : Size) (old new : List (List Lit)) (r : Rule) → new ≡ old ++ clauses_of (instances s r) → new ≡ old ++ clauses_of (all_instances s (r ∷ []))
one_rule s old new r h = last old new (instances s r) h

-- the rules that a list of names stands for, one more
pub rules_more : {X : Type 0} (s : Size) (f : X → Rule) (old mid new : List (List Lit)) (xs : List X) (i : ℕ) (d : X) → i < length xs → mid ≡ old ++ clauses_of (all_instances s (map f (take i xs))) → new ≡ mid ++ clauses_of (instances s (f (get_or xs i d))) → new ≡ old ++ clauses_of (all_instances s (map f (take (i + 1) xs)))
rules_more s f old mid new xs i d l h g =
    then_rules s old mid new (map f (take i xs)) (f (get_or xs i d) ∷ []) h (one_rule s mid new (f (get_or xs i d)) g)
    ∙ ap (λ rules. old ++ clauses_of (all_instances s rules)) (sym (map_more f xs i d l))

-- a list mapped twice, one item more
pub mapped_more : {X Y Z : Type 0} (f : Y → Z) (g : X → Y) (start mid new : List Z) (xs : List X) (i : ℕ) (d : X) → i < length xs → mid ≡ start ++ map f (map g (take i xs)) → new ≡ mid ++ f (g (get_or xs i d)) ∷ [] → new ≡ start ++ map f (map g (take (i + 1) xs))
mapped_more f g start mid new xs i d l h e =
    e ∙ ap (λ p. p ++ f (g (get_or xs i d)) ∷ []) h ∙ append_assoc start (map f (map g (take i xs))) (f (g (get_or xs i d)) ∷ [])
    ∙ ap (λ p. start ++ p) (sym (map-append f (map g (take i xs)) (g (get_or xs i d) ∷ [])) ∙ ap (λ p. map f p) (sym (map_more g xs i d l)))

-- one more constant for a place
pub choices_more : (n places depth k : ℕ) (f : List ℕ → List (List Lit)) (chosen : List ℕ) (old mid new : List (List Lit)) → depth < length chosen → mid ≡ old ++ clauses_of (upto k (λ first. from n (places - (depth + 1)) f (take depth chosen ++ first ∷ []))) → new ≡ mid ++ clauses_of (from n (places - (depth + 1)) f (take (depth + 1) (set chosen depth k))) → new ≡ old ++ clauses_of (upto (k + 1) (λ first. from n (places - (depth + 1)) f (take depth chosen ++ first ∷ [])))
choices_more n places depth k f chosen old mid new l h g =
    upto_more (λ first. from n (places - (depth + 1)) f (take depth chosen ++ first ∷ [])) old mid new k h
    (g ∙ ap (λ front. mid ++ clauses_of (from n (places - (depth + 1)) f front)) (take_more_set chosen depth k l))

-- all constants for a place
pub choices_done : (n places depth k : ℕ) (f : List ℕ → List (List Lit)) (front : List ℕ) (old new : List (List Lit)) → depth < places → k ≡ n → new ≡ old ++ clauses_of (upto k (λ first. from n (places - (depth + 1)) f (front ++ first ∷ []))) → new ≡ old ++ clauses_of (from n (places - depth) f front)
choices_done n places depth k f front old new l e h =
    let all : suc (places - (depth + 1)) ≡ places - depth = omega arith in
    h ∙ ap (λ p. old ++ clauses_of p) (ap (λ m. upto m (λ first. from n (places - (depth + 1)) f (front ++ first ∷ []))) e ∙ from_next n (places - (depth + 1)) f front ∙ ap (λ m. from n m f front) all)

-- a constant for each place
pub choices_one : (n places depth : ℕ) (f : List ℕ → List (List Lit)) (front : List ℕ) (old new : List (List Lit)) → depth ≡ places → new ≡ old ++ clauses_of (f front) → new ≡ old ++ clauses_of (from n (places - depth) f front)
choices_one n places depth f front old new e h =
    let none : zero ≡ places - depth = omega arith in
    h ∙ ap (λ p. old ++ clauses_of p) (ap f (sym (append-nil front)) ∙ ap (λ m. from n m f front) none)

-- a whole range
pub upto_done : (f : ℕ → List (List Lit)) (old new : List (List Lit)) (i n : ℕ) → i ≡ n → new ≡ old ++ clauses_of (upto i f) → new ≡ old ++ clauses_of (upto n f)
upto_done f old new i n e h = h ∙ ap (λ m. old ++ clauses_of (upto m f)) e

-- an atom for each number of a range, one more
pub atoms_more : {X Y : Type 0} (f : X → Y) (g : ℕ → X) (mid new : List Y) (i : ℕ) → mid ≡ map f (upto i (λ o. g o ∷ [])) → new ≡ mid ++ f (g i) ∷ [] → new ≡ map f (upto (i + 1) (λ o. g o ∷ []))
atoms_more f g mid new i h e = rw add-one (e ∙ ap (λ p. p ++ f (g i) ∷ []) h ∙ sym (map-append f (upto i (λ o. g o ∷ [])) (g i ∷ [])))

pub atoms_done : {X Y : Type 0} (f : X → Y) (g : ℕ → X) (new : List Y) (i n : ℕ) → i ≡ n → new ≡ map f (upto i (λ o. g o ∷ [])) → new ≡ map f (upto n (λ o. g o ∷ []))
atoms_done f g new i n e h = h ∙ ap (λ m. map f (upto m (λ o. g o ∷ []))) e

pub below_at : (n : ℕ) (xs : List ℕ) (k d : ℕ) → AreBelow n xs → k < length xs → get_or xs k d < n
below_at n [] k d h l = absurd (omega arith)
below_at n (x ∷ xs) zero d h l = h.0
below_at n (x ∷ xs) (suc k) d h l = below_at n xs k d h.1 (omega arith)

-- one more circuit of a group
pub grouped_more : (g : Circuit) (hs : List Circuit) (h : Circuit) → grouped g (hs ++ h ∷ []) ≡ Both (grouped g hs) h
grouped_more g [] h = refl
grouped_more g (k ∷ hs) h = grouped_more (Both g k) hs h

pub group_step : (all new : Circuit) (first : Lit) (rest : List Lit) (i : ℕ) (d : Lit) → i < length rest → all ≡ grouped (Input first) (map Input (take i rest)) → new ≡ Both all (Input (get_or rest i d)) → new ≡ grouped (Input first) (map Input (take (i + 1) rest))
group_step all new first rest i d l h e =
    e ∙ ap (λ g. Both g (Input (get_or rest i d))) h ∙ sym (grouped_more (Input first) (map Input (take i rest)) (Input (get_or rest i d)))
    ∙ ap (grouped (Input first)) (sym (map_more Input rest i d l))
