-- What is read of the items of a list, item by item.
use Rattle.std.proofs.Common.{◌≡◌, ◌<◌, ◌≤◌, ◌+◌, ℕ, List, [], ◌∷◌, ◌++◌, map, length, get_or, drop, take, refl, sym, ap, ◌∙◌, add-one, append_assoc, append-nil}
use Rattle.std.specs.List.{flat_map}
use Rattle.std.proofs.lemmas.List.{map-append, map_push, take_all}
use Rattle.std.proofs.Math.Seq.{take-suc}
use Rattle.ql_typing.specs.declared.fault.TypeFault.{TypeFault}
use Rattle.ql_typing.specs.Faults.{each}
use Rattle.ql_typing.proofs.Each.{next_item, no_item}

pub map-twice : {A B C : Type 0} (f : A → B) (g : B → C) (xs : List A) → map g (map f xs) ≡ map (λ x. g (f x)) xs
map-twice f g [] = refl
map-twice f g (x ∷ xs) = ap (λ r. g (f x) ∷ r) (map-twice f g xs)

pub each-map : {A B : Type 0} (f : A → B) (faults : B → List TypeFault) (xs : List A) → each faults (map f xs) ≡ each (λ x. faults (f x)) xs
unfolding each
each-map f faults [] = refl
each-map f faults (x ∷ xs) = ap (λ r. faults (f x) ++ r) (each-map f faults xs)

module _ {A B : Type 0} (f : A → B) (xs : List A) (i : ℕ) where
  pub next_mapped : (x : A) → i < length xs → x ≡ get_or xs i x → map f (drop i xs) ≡ f x ∷ map f (drop (i + 1) xs)
  next_mapped x below is = ap (λ ys. map f ys) (next_item xs i x below is)

  pub none_mapped : length xs ≤ i → map f (drop i xs) ≡ []
  none_mapped past = ap (λ ys. map f ys) (no_item xs i past)

  more : (x : A) → i < length xs → x ≡ get_or xs i x → take (i + 1) xs ≡ take i xs ++ x ∷ []
  more x below is = rw (add-one, take-suc xs i x below) (ap (λ y. take i xs ++ y ∷ []) (sym is))

  -- what was read of the items so far, after what was there, and of one more
  pub mapped_step : (before now : List B) (x : A) → i < length xs → x ≡ get_or xs i x → now ≡ before ++ map f (take i xs) → now ++ f x ∷ [] ≡ before ++ map f (take (i + 1) xs)
  mapped_step before now x below is h = rw (h, more x below is, map_push f (take i xs) x) (append_assoc before (map f (take i xs)) (f x ∷ []))

  pub mapped_end : (before now : List B) → length xs ≤ i → now ≡ before ++ map f (take i xs) → now ≡ before ++ map f xs
  mapped_end before now past h = h ∙ ap (λ ys. before ++ map f ys) (take_all i xs past)

flat_push : {A B : Type 0} (f : A → List B) (xs : List A) (x : A) → flat_map f (xs ++ x ∷ []) ≡ flat_map f xs ++ f x
flat_push f [] x = append-nil (f x)
flat_push f (y ∷ ys) x = ap (λ r. f y ++ r) (flat_push f ys x) ∙ sym (append_assoc (f y) (flat_map f ys) (f x))

-- the same of lists, one after another
module _ {A B C : Type 0} (f : A → List B) (g : B → C) (xs : List A) (i : ℕ) (now : List C) where
  pub flat_step : (x : A) → i < length xs → x ≡ get_or xs i x → now ≡ map g (flat_map f (take i xs)) → now ++ map g (f x) ≡ map g (flat_map f (take (i + 1) xs))
  flat_step x below is h =
      rw (h, more (λ (y : A). y) xs i x below is, flat_push f (take i xs) x) (sym (map-append g (flat_map f (take i xs)) (f x)))

  pub flat_end : length xs ≤ i → now ≡ map g (flat_map f (take i xs)) → now ≡ map g (flat_map f xs)
  flat_end past h = h ∙ ap (λ ys. map g (flat_map f ys)) (take_all i xs past)
