-- Where some effects come before all others of a list of ids, the effects in order are these in order, and then the others.
use Rattle.std.proofs.Common.{◌≡◌, ℕ, Bool, true, false, not, cond, List, [], ◌∷◌, ◌++◌, Option, None, Some, filter, refl, sym, ap, ◌∙◌, nat_eq}
use Rattle.std.specs.List.{AllByRecursion}
use Rattle.std.proofs.lemmas.Bool.{and_parts, eq-eqb, or_left, or_right}
use Rattle.ql_base.specs.IdLists.{has_id}
use Rattle.ql_exec.specs.declared.effect.Effect.{Effect}
use Rattle.ql_exec.specs.Effects.{effect_at}
use Rattle.ql_exec.specs.Folding.{comes_before, seen_in_order, with_effect}
use Rattle.ql_eval.proofs.EffectOrder.{is_order}
use Rattle.ql_summary.proofs.IdParts.{has_part}

-- an effect that comes before all of the second list, and one that comes before none of the first
front : (e : Effect) (es fs : List Effect) → AllByRecursion (λ f. comes_before e f ≡ true) fs → with_effect e (es ++ fs) ≡ with_effect e es ++ fs
front e [] [] h = refl
front e [] (f ∷ fs) h = rw h.0 refl
front e (g ∷ es) fs h = by (comes_before e g) (front e es fs h)
  where
    by : (t : Bool) → with_effect e (es ++ fs) ≡ with_effect e es ++ fs → cond t (e ∷ g ∷ (es ++ fs)) (g ∷ with_effect e (es ++ fs)) ≡ cond t (e ∷ g ∷ es) (g ∷ with_effect e es) ++ fs
    by true rest = refl
    by false rest = ap (λ gs. g ∷ gs) rest

back : (e : Effect) (es fs : List Effect) → AllByRecursion (λ g. comes_before e g ≡ false) es → with_effect e (es ++ fs) ≡ es ++ with_effect e fs
back e [] fs h = refl
back e (g ∷ es) fs h = rw h.0 (ap (λ gs. g ∷ gs) (back e es fs h.1))

-- what holds of each effect of some ids holds of each of them in order
put_all : (P : Effect → Type 0) (e : Effect) (es : List Effect) → P e → AllByRecursion P es → AllByRecursion P (with_effect e es)
put_all P e [] here all = (here, tt)
put_all P e (f ∷ es) here all = by (comes_before e f) (put_all P e es here all.1)
  where
    by : (t : Bool) → AllByRecursion P (with_effect e es) → AllByRecursion P (cond t (e ∷ f ∷ es) (f ∷ with_effect e es))
    by true rest = (here, all)
    by false rest = (all.0, rest)

pub seen_all : (x : List Effect) (P : Effect → Type 0) (ids : List ℕ) → ((a : ℕ) (e : Effect) → has_id ids a ≡ true → effect_at x a ≡ Some e → P e) → AllByRecursion P (seen_in_order x ids)
seen_all x P [] h = tt
seen_all x P (a ∷ ids) h = by (effect_at x a) refl (seen_all x P ids (λ b e has is. h b e (or_right (nat_eq a b) (has_id ids b) has) is))
  where
    by : (o : Option Effect) → effect_at x a ≡ o → AllByRecursion P (seen_in_order x ids) → AllByRecursion P (seen_in_order x (a ∷ ids))
    by None is rest = rw is rest
    by (Some e) is rest = rw is (put_all P e (seen_in_order x ids) (h a e (or_left (nat_eq a a) (has_id ids a) (eq-eqb a a refl)) is) rest)

-- the effects of some ids that pass a test come before those that don't
abbrev pub AreApart : List Effect → (ℕ → Bool) → List ℕ → Type 0
AreApart x k seen = (a b : ℕ) (e f : Effect) → has_id seen a ≡ true → has_id seen b ≡ true → k a ≡ true → k b ≡ false → effect_at x a ≡ Some e → effect_at x b ≡ Some f → comes_before e f ≡ true

denied : (b : Bool) → not b ≡ true → b ≡ false
denied true h = cc
denied false h = refl

pub split : (x : List Effect) (k : ℕ → Bool) (seen : List ℕ) → AreApart x k seen → seen_in_order x seen ≡ seen_in_order x (filter k seen) ++ seen_in_order x (filter (λ a. not (k a)) seen)
split x k [] h = refl
split x k (a ∷ seen) h = by (effect_at x a) refl (k a) refl (split x k seen (λ b c e f has hasc. h b c e f (later b has) (later c hasc)))
  where
    later : (b : ℕ) → has_id seen b ≡ true → has_id (a ∷ seen) b ≡ true
    later b has = or_right (nat_eq a b) (has_id seen b) has

    here : has_id (a ∷ seen) a ≡ true
    here = or_left (nat_eq a a) (has_id seen a) (eq-eqb a a refl)

    by : (o : Option Effect) → effect_at x a ≡ o → (t : Bool) → k a ≡ t
        → seen_in_order x seen ≡ seen_in_order x (filter k seen) ++ seen_in_order x (filter (λ b. not (k b)) seen)
        → seen_in_order x (a ∷ seen) ≡ seen_in_order x (filter k (a ∷ seen)) ++ seen_in_order x (filter (λ b. not (k b)) (a ∷ seen))
    by None is true passes rest = rw (passes, is) rest
    by None is false passes rest = rw (passes, is) rest
    by (Some e) is true passes rest =
        let after = seen_all x (λ f. comes_before e f ≡ true) (filter (λ b. not (k b)) seen) (λ b f has at.
        let parts = and_parts (has_id seen b) (not (k b)) (sym (has_part (λ c. not (k c)) seen b) ∙ has) in
        h a b e f here (later b parts.0) passes (denied (k b) parts.1) is at) in
        rw (passes, is) (ap (with_effect e) rest ∙ front e (seen_in_order x (filter k seen)) (seen_in_order x (filter (λ b. not (k b)) seen)) after)
    by (Some e) is false passes rest =
        let before = seen_all x (λ g. comes_before e g ≡ false) (filter k seen) (λ b g has at.
        let parts = and_parts (has_id seen b) (k b) (sym (has_part k seen b) ∙ has) in
        (is_order (λ (f : Effect). f)).one_way g e (h b a g e (later b parts.0) here parts.1 passes at is)) in
        rw (passes, is) (ap (with_effect e) rest ∙ back e (seen_in_order x (filter k seen)) (seen_in_order x (filter (λ b. not (k b)) seen)) before)
