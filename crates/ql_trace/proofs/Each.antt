-- what each item of a list is, item by item
use Rattle.std.proofs.Common.{◌≡◌, ◌<◌, ◌+◌, ℕ, suc, List, [], ◌∷◌, ◌++◌, length, map, take, drop, get_or, Option, None, Some, refl, sym, ap, ◌∙◌}
use Rattle.std.specs.Option.{option_and_then, option_map, option_map_or}
use Rattle.std.proofs.lemmas.List.{append_assoc, append-nil, take_more, take-append-drop}
use Rattle.std.proofs.Math.Seq.{drop-cons}
use Rattle.ql_trace.specs.Kinds.{each_as}

abbrev joined : {X : Type 0} → Option (List X) → Option (List X) → Option (List X)
joined first second = option_and_then (λ xs. option_map (λ ys. xs ++ ys) second) first

stopped : {X : Type 0} (first : Option (List X)) → joined first None ≡ None
stopped None = refl
stopped (Some xs) = refl

some-same : {X : Type 0} {x y : X} → Some x ≡ Some y → x ≡ y
some-same {X} {x} {y} e = ap (λ o. option_map_or (λ z. z) o x) e

module _ {D X : Type 0} (one : D → Option X) where
  each-joined : (ds es : List D) → each_as one (ds ++ es) ≡ joined (each_as one ds) (each_as one es)
  unfolding each_as
  each-joined [] es = by (each_as one es) where
    by : (o : Option (List X)) → o ≡ joined (Some []) o
    by None = refl
    by (Some ys) = refl
  each-joined (d ∷ ds) es = rw (each-joined ds es) (by (one d) (each_as one ds) (each_as one es)) where
    by : (o : Option X) (p q : Option (List X)) → option_and_then (λ x. option_map (λ xs. x ∷ xs) (joined p q)) o ≡ joined (option_and_then (λ x. option_map (λ xs. x ∷ xs) p) o) q
    by None p q = refl
    by (Some x) None q = refl
    by (Some x) (Some ys) None = refl
    by (Some x) (Some ys) (Some zs) = refl

  -- one item more
  pub each-more : (ds : List D) (k : ℕ) (d : D) (x : X) (xs : List X) → k < length ds → d ≡ get_or ds k d → each_as one (take k ds) ≡ Some xs → one d ≡ Some x
      → each_as one (take (k + 1) ds) ≡ Some (xs ++ x ∷ [])
  unfolding each_as
  each-more ds k d x xs lt at e o = rw (take_more ds k d lt, each-joined (take k ds) (get_or ds k d ∷ []), e, ← at, o) refl

  -- an item that is nothing
  pub each-none : (ds : List D) (k : ℕ) (d : D) → k < length ds → d ≡ get_or ds k d → one d ≡ None → each_as one ds ≡ None
  unfolding each_as
  each-none ds k d lt at o =
      let whole : ds ≡ take k ds ++ get_or ds k d ∷ drop (suc k) ds = sym (take-append-drop k ds) ∙ ap (λ es. take k ds ++ es) (drop-cons ds k d lt) in
      ap (each_as one) whole ∙ each-joined (take k ds) (get_or ds k d ∷ drop (suc k) ds) ∙ rw (← at, o) (stopped (each_as one (take k ds)))

-- what each item is through a function
pub each-map : {C D X : Type 0} (one : D → Option X) (f : C → D) (cs : List C) → each_as one (map f cs) ≡ each_as (λ c. one (f c)) cs
unfolding each_as
each-map one f [] = refl
each-map one f (c ∷ cs) = rw (each-map one f cs) refl

-- before the first item
pub each-start : {D X : Type 0} (one : D → Option X) (ds : List D) (xs : List X) → xs ≡ [] → each_as one (take 0 ds) ≡ Some xs
unfolding each_as
each-start one ds xs e = ap Some (sym e)

module _ {D X : Type 0} (one : D → Option X) where
  counted : (ds : List D) (xs : List X) → ((ys : List X) → each_as one ds ≡ Some ys → length ys ≡ length ds) → (o : Option X) (p : Option (List X)) → each_as one ds ≡ p
      → option_and_then (λ x. option_map (λ ys. x ∷ ys) p) o ≡ Some xs → length xs ≡ suc (length ds)
  counted ds xs rest None p q e = cc
  counted ds xs rest (Some x) None q e = cc
  counted ds xs rest (Some x) (Some ys) q e = let same : x ∷ ys ≡ xs = some-same e in sym (ap length same) ∙ ap suc (rest ys q)

  -- as many as there are items
  pub each-length : (ds : List D) (xs : List X) → each_as one ds ≡ Some xs → length xs ≡ length ds
  unfolding each_as
  each-length [] [] e = refl
  each-length [] (x ∷ xs) e = cc
  each-length (d ∷ ds) xs e = counted ds xs (λ ys. each-length ds ys) (one d) (each_as one ds) refl e

-- what some items are, and what those after them are
abbrev pub with_rest : {X : Type 0} → List X → Option (List X) → Option (List X)
with_rest done rest = option_map (λ more. done ++ more) rest

pub each-begin : {X : Type 0} (o : Option (List X)) → o ≡ with_rest [] o
each-begin None = refl
each-begin (Some xs) = refl

pub turned : {X : Type 0} (done : List X) (x : X) (o : Option (List X)) → with_rest done (option_map (λ xs. x ∷ xs) o) ≡ with_rest (done ++ x ∷ []) o
turned done x None = refl
turned done x (Some xs) = ap Some (sym (append_assoc done (x ∷ []) xs))

module _ {D X : Type 0} (one : D → Option X) where
  pub each-turn : (done : List X) (d : D) (ds : List D) (x : X) → one d ≡ Some x → with_rest done (each_as one (d ∷ ds)) ≡ with_rest (done ++ x ∷ []) (each_as one ds)
  unfolding each_as
  each-turn done d ds x e = rw e (turned done x (each_as one ds))

  pub each-turn-none : (done : List X) (d : D) (ds : List D) → one d ≡ None → with_rest done (each_as one (d ∷ ds)) ≡ None
  unfolding each_as
  each-turn-none done d ds e = rw e refl

  pub each-end : (done : List X) → with_rest done (each_as one []) ≡ Some done
  unfolding each_as
  each-end done = ap Some (append-nil done)
