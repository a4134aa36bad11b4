-- What follows of each part where nothing is wrong.
use Rattle.std.proofs.Common.{◌≡◌, ◌<◌, ◌≤◌, ℕ, get_or, zero, suc, Bool, true, false, List, [], ◌∷◌, ◌++◌, Some, length, map, drop, refl, sym, ap, ◌∙◌, subst, arith, append-nil, append_assoc}
use Rattle.std.proofs.Math.Logic.{∥∥₁_elim}
use Rattle.std.specs.List.{flat_map, slice_get}
use Rattle.std.proofs.lemmas.List.{map-append}
use Rattle.ql_base.specs.Numbering.{has_name, with_name}
use Rattle.ql_lang.specs.declared.name.Name.{Name}
use Rattle.ql_typing.specs.declared.fault.TypeFault.{TypeFault}
use Rattle.ql_typing.specs.declared.fault.TypeFault.TheVariants.{Twice}
use Rattle.ql_typing.specs.Faults.{each, names_met, repeats, unless, where_so}

-- each part of an empty list is empty
pub left_none : {A : Type 0} (xs ys : List A) → xs ++ ys ≡ [] → xs ≡ []
left_none [] ys h = refl
left_none (x ∷ xs) ys h =
    let no : ⊥ = cc in
    absurd no

pub right_none : {A : Type 0} (xs ys : List A) → xs ++ ys ≡ [] → ys ≡ []
right_none [] ys h = h
right_none (x ∷ xs) ys h =
    let no : ⊥ = cc in
    absurd no

-- a list that is merely empty is empty
pub none_indeed : {A : Type 0} (xs : List A) → ∥ xs ≡ [] ∥₁ → xs ≡ []
none_indeed [] h = refl
none_indeed (x ∷ xs) h =
    let no : ⊥ = ∥∥₁_elim h (λ a b. absurd a) (λ e. cc) in
    absurd no

pub reported_false : (b : Bool) (f : TypeFault) → where_so b f ≡ [] → b ≡ false
reported_false false f h = refl
reported_false true f h =
    let no : ⊥ = cc in
    absurd no

pub reported_true : (b : Bool) (f : TypeFault) → unless b f ≡ [] → b ≡ true
reported_true true f h = refl
reported_true false f h =
    let no : ⊥ = cc in
    absurd no

module _ {A : Type 0} (faults : A → List TypeFault) where
  pub each-append : (xs ys : List A) → each faults (xs ++ ys) ≡ each faults xs ++ each faults ys
  unfolding each
  each-append [] ys = refl
  each-append (x ∷ xs) ys = ap (λ r. faults x ++ r) (each-append xs ys) ∙ sym (append_assoc (faults x) (each faults xs) (each faults ys))

  -- where nothing is wrong in a list, nothing is wrong in an item of it
  pub each_at : (xs : List A) (k : ℕ) (x : A) → each faults xs ≡ [] → slice_get xs k ≡ Some x → faults x ≡ []
  unfolding each
  each_at [] k x h is =
      let no : ⊥ = cc in
      absurd no
  each_at (y ∷ ys) zero x h is =
      let same : y ≡ x = cc in
      subst (λ z. faults z ≡ []) same (left_none (faults y) (each faults ys) h)
  each_at (y ∷ ys) (suc k) x h is = each_at ys k x (right_none (faults y) (each faults ys) h) is

  pub each_item : (xs : List A) (k : ℕ) (x : A) → each faults xs ≡ [] → k < length xs → x ≡ get_or xs k x → faults x ≡ []
  unfolding each
  each_item [] k x h below is = absurd (omega (arith, below))
  each_item (y ∷ ys) zero x h below is = subst (λ z. faults z ≡ []) (sym is) (left_none (faults y) (each faults ys) h)
  each_item (y ∷ ys) (suc k) x h below is = each_item ys k x (right_none (faults y) (each faults ys) h) (omega (arith, below)) is

  -- where each item past a limit is a fault, there are no more items than that
  pub few_each : ((x : A) → ¬ faults x ≡ []) → (limit : ℕ) (xs : List A) → each faults (drop limit xs) ≡ [] → length xs ≤ limit
  unfolding each
  few_each wrong limit [] h = omega arith
  few_each wrong zero (x ∷ xs) h = absurd (wrong x (left_none (faults x) (each faults xs) h))
  few_each wrong (suc k) (x ∷ xs) h =
      let few = few_each wrong k xs h in
      omega (arith, few)

-- where nothing is wrong by one rule, nothing is wrong by a weaker one
pub each_weaker : {A : Type 0} (faults others : A → List TypeFault) → ((x : A) → faults x ≡ [] → others x ≡ []) → (xs : List A) → each faults xs ≡ [] → each others xs ≡ []
unfolding each
each_weaker faults others weaker [] h = refl
each_weaker faults others weaker (x ∷ xs) h =
    rw (weaker x (left_none (faults x) (each faults xs) h)) (each_weaker faults others weaker xs (right_none (faults x) (each faults xs) h))

-- names without a repeat are met as they stand
pub distinct_met : (before : List (List ℕ)) (ns : List Name) → repeats before ns ≡ [] → names_met before ns ≡ before ++ map (λ n. n.word) ns
unfolding repeats names_met
distinct_met before [] h = sym (append-nil before)
distinct_met before (n ∷ ns) h =
    let new : has_name before n.word ≡ false = reported_false (has_name before n.word) (Twice n.at) (left_none _ _ h) in
    let rest = distinct_met (with_name before n.word) ns (right_none _ _ h) in
    rest ∙ rw new (append_assoc before (n.word ∷ []) (map (λ m. m.word) ns))

-- what is read of the items of lists one after another
pub flat_of_map : {A B C : Type 0} (f : B → C) (g : A → List B) (xs : List A) → flat_map (λ x. map f (g x)) xs ≡ map f (flat_map g xs)
flat_of_map f g [] = refl
flat_of_map f g (x ∷ xs) = ap (λ r. map f (g x) ++ r) (flat_of_map f g xs) ∙ sym (map-append f (g x) (flat_map g xs))
