-- The order of effects is that of a sort by stamp and session.
use Rattle.std.proofs.Common.{◌≡◌, ℕ, Bool, true, false, ◌&&◌, ◌||◌, cond, filter, nat_eq, nat_lt, List, [], ◌∷◌, Option, Some, None, map, refl, sym, ap, ◌∙◌, subst}
use Rattle.std.specs.List.{cons_option, filter_map}
use Rattle.std.specs.Option.{option_and_then}
use Rattle.std.specs.Cmp.{IsStrictWeakOrder}
use Rattle.std.specs.List.Sorted.{IsSortedBy, IsStableBy, ties}
use Rattle.std.specs.Ordering.{is_lt, nat_cmp, ordering_then}
use Rattle.std.specs.declared.cmp.Ordering.TheVariants.{Less, Equal, Greater}
use Rattle.std.proofs.lemmas.List.{get_or-map, length-map}
use Rattle.std.proofs.lemmas.Cmp.{nat_cmp_total, on_total, then_total}
use Rattle.std.proofs.lemmas.List.Sorted.{ranks_by}
use Rattle.ql_exec.specs.declared.effect.Effect.{Effect}
use Rattle.ql_exec.specs.Effects.{effect_at}
use Rattle.ql_exec.specs.Folding.{comes_before, in_order, with_effect}
use Rattle.ql_eval.specs.Folds.{emitting_at, has_emitted}
use Rattle.ql_eval.proofs.StableOrder.{Rises, filter_put, put, put_rises}
use Rattle.ql_eval.proofs.Insertion.{Apart, inserted, sorted_is}

-- a lower stamp, or the same and a lower session, as an answer of `cmp`
less_is : (p q r s : Bool) → is_lt (ordering_then (cond p Less (cond q Equal Greater)) (cond r Less (cond s Equal Greater))) ≡ (p || (q && r))
less_is true q r s = refl
less_is false true true s = refl
less_is false true false true = refl
less_is false true false false = refl
less_is false false r s = refl

pub compared : (e f : Effect) → is_lt (ordering_then (nat_cmp e.stamp f.stamp) (nat_cmp e.session.0 f.session.0)) ≡ comes_before e f
compared e f = less_is (nat_lt e.stamp f.stamp) (nat_eq e.stamp f.stamp) (nat_lt e.session.0 f.session.0) (nat_eq e.session.0 f.session.0)

module _ {X : Type 0} (f : X → Effect) where
  pub is_order : IsStrictWeakOrder (λ x y. comes_before (f x) (f y))
  is_order =
      let w = ranks_by (then_total (on_total (λ (e : Effect). e.stamp) nat_cmp_total) (on_total (λ (e : Effect). e.session.0) nat_cmp_total)) f in record {
        one_way = λ x y h. sym (compared (f y) (f x)) ∙ w.one_way x y (compared (f x) (f y) ∙ h);
        chain = λ x y z h i. sym (compared (f x) (f z)) ∙ w.chain x y z (compared (f x) (f y) ∙ h) (compared (f y) (f z) ∙ i);
      }

  put_map : (x : X) (ys : List X) → map f (put (λ a b. comes_before (f a) (f b)) x ys) ≡ with_effect (f x) (map f ys)
  put_map x [] = refl
  put_map x (y ∷ ys) = by (comes_before (f x) (f y)) (put_map x ys)
    where
      by : (b : Bool) → map f (put (λ a c. comes_before (f a) (f c)) x ys) ≡ with_effect (f x) (map f ys)
          → map f (cond b (x ∷ y ∷ ys) (y ∷ put (λ a c. comes_before (f a) (f c)) x ys)) ≡ cond b (f x ∷ f y ∷ map f ys) (f y ∷ with_effect (f x) (map f ys))
      by true rest = refl
      by false rest = ap (λ es. f y ∷ es) rest

  inserted_map : (xs : List X) → map f (inserted (λ x y. comes_before (f x) (f y)) xs) ≡ in_order (map f xs)
  inserted_map [] = refl
  inserted_map (x ∷ xs) = put_map x (inserted (λ a b. comes_before (f a) (f b)) xs) ∙ ap (with_effect (f x)) (inserted_map xs)

  apart_by : (xs : List X) → Apart comes_before (map f xs) → Apart (λ x y. comes_before (f x) (f y)) xs
  apart_by [] apart = tt
  apart_by (x ∷ xs) apart = (
    λ k d below. ap (λ e. ties comes_before (f x) e) (sym (get_or-map f xs k d (f d) below)) ∙ apart.0 k (f d) (rw (length-map xs f) below),
    apart_by xs apart.1,
  )

  -- effects of which no two tie, sorted stably, are in order
  pub sorted_effects : (xs ys : List X) → Apart comes_before (map f xs) → IsSortedBy (λ x y. comes_before (f x) (f y)) ys → IsStableBy (λ x y. comes_before (f x) (f y)) xs ys
      → map f ys ≡ in_order (map f xs)
  sorted_effects xs ys apart up stable = ap (map f) (sorted_is (λ x y. comes_before (f x) (f y)) is_order xs ys (apart_by xs apart) up stable) ∙ inserted_map xs

-- effects that are left out change nothing in the order of the others
put_is : (e : Effect) (es : List Effect) → put comes_before e es ≡ with_effect e es
put_is e [] = refl
put_is e (f ∷ es) = ap (λ rest. cond (comes_before e f) (e ∷ f ∷ es) (f ∷ rest)) (put_is e es)

order_rises : (es : List Effect) → Rises comes_before (in_order es)
order_rises [] = tt
order_rises (e ∷ es) = subst (Rises comes_before) (put_is e (in_order es)) (put_rises comes_before (is_order (λ f. f)) e (in_order es) (order_rises es))

filter_in_order : (p : Effect → Bool) (es : List Effect) → in_order (filter p es) ≡ filter p (in_order es)
filter_in_order p [] = refl
filter_in_order p (e ∷ es) =
    by (p e) (filter_in_order p es) ∙ sym (filter_put comes_before (is_order (λ f. f)) p e (in_order es) (order_rises es)) ∙ ap (filter p) (put_is e (in_order es))
  where
    by : (b : Bool) → in_order (filter p es) ≡ filter p (in_order es)
        → in_order (cond b (e ∷ filter p es) (filter p es)) ≡ cond b (put comes_before e (filter p (in_order es))) (filter p (in_order es))
    by true rest = sym (put_is e (in_order (filter p es))) ∙ ap (put comes_before e) rest
    by false rest = rest

emitting_alone : (x : List Effect) (ids : List ℕ) → filter_map (emitting_at x) ids ≡ filter has_emitted (filter_map (effect_at x) ids)
emitting_alone x [] = refl
emitting_alone x (id ∷ ids) = by (effect_at x id) (emitting_alone x ids)
  where
    one : (b : Bool) (e : Effect) (us vs : List Effect) → us ≡ vs → cons_option (cond b (Some e) None) us ≡ cond b (e ∷ vs) vs
    one true e us vs same = ap (λ es. e ∷ es) same
    one false e us vs same = same

    by : (o : Option Effect) → filter_map (emitting_at x) ids ≡ filter has_emitted (filter_map (effect_at x) ids)
        → cons_option (option_and_then (λ e. cond (has_emitted e) (Some e) None) o) (filter_map (emitting_at x) ids) ≡ filter has_emitted (cons_option o (filter_map (effect_at x) ids))
    by None rest = rest
    by (Some e) rest = one (has_emitted e) e (filter_map (emitting_at x) ids) (filter has_emitted (filter_map (effect_at x) ids)) rest

pub emitting_in_order : (x : List Effect) (ids : List ℕ) → in_order (filter_map (emitting_at x) ids) ≡ filter has_emitted (in_order (filter_map (effect_at x) ids))
emitting_in_order x ids = ap in_order (emitting_alone x ids) ∙ filter_in_order has_emitted (filter_map (effect_at x) ids)
