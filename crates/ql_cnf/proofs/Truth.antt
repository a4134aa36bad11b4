-- When the clause of a list of literals is true, and the range of its variables.
use Rattle.std.proofs.Common.{◌≡◌, ℕ, zero, suc, ◌<◌, ◌≤◌, Bool, true, false, not, ◌&&◌, ◌||◌, List, [], ◌∷◌, ◌++◌, Option, Some, None, length, get_or, refl, sym, ◌∙◌, ap, subst, arith}
use Rattle.std.proofs.lemmas.List.Elements.{All-push}
use Rattle.std.proofs.lemmas.List.Folds.{list_all-append, list_any_at}
use Rattle.std.specs.Prelude.{IfSome}
use Rattle.std.specs.Bool.{beq}
use Rattle.std.specs.List.{All, list_any}
use Rattle.ql_cnf.specs.Literals.{negated, same_literal, has_literal, IsAscendingByVariable, clause_of, HasBothSigns, SameLiterals}
use Rattle.ql_cnf.specs.Satisfaction.{AreInRange, ClausesInRange, variable_value, literal_true, clause_true, all_true}
use Rattle.ql_cnf.specs.declared.lit.Lit.{Lit}
use Rattle.ql_cnf.proofs.Meaning.{same_literal-eq, same_literal-refl, is_clause, is_tautology}

-- a literal of the list that passes a test
pub list_any-has : (p : Lit → Bool) (xs : List Lit) (z : Lit) → has_literal xs z ≡ true → p z ≡ true → list_any p xs ≡ true
list_any-has p [] z h e = absurd (cc)
list_any-has p (x ∷ xs) z h e = step (same_literal z x) (p x) refl refl h (list_any-has p xs z)
  where
    step : (b d : Bool) → same_literal z x ≡ b → p x ≡ d → (b || has_literal xs z) ≡ true → (has_literal xs z ≡ true → p z ≡ true → list_any p xs ≡ true) → (d || list_any p xs) ≡ true
    step b true f g k ih = refl
    step true false f g k ih = absurd (let same : z ≡ x = same_literal-eq z x f in cc (ap p same))
    step false false f g k ih = ih k e

-- where a test passes, a literal of the list does
pub has-list_any : (p : Lit → Bool) (xs : List Lit) → list_any p xs ≡ true → (z : Lit) × (has_literal xs z ≡ true) × (p z ≡ true)
has-list_any p [] h = absurd (cc)
has-list_any p (x ∷ xs) h = step (p x) refl h (has-list_any p xs)
  where
    step : (b : Bool) → p x ≡ b → (b || list_any p xs) ≡ true → (list_any p xs ≡ true → (z : Lit) × (has_literal xs z ≡ true) × (p z ≡ true)) → (z : Lit) × (has_literal (x ∷ xs) z ≡ true) × (p z ≡ true)
    step true e k ih = (x, rw (same_literal-refl x) refl, e)
    step false e k ih = let found = ih k in (found.0, rw found.1 (or_true (same_literal found.0 x)), found.2)
      where
        or_true : (b : Bool) → (b || true) ≡ true
        or_true true = refl
        or_true false = refl

same_answer : (a b : Bool) → (a ≡ true → b ≡ true) → (b ≡ true → a ≡ true) → a ≡ b
same_answer true b f g = sym (f refl)
same_answer false true f g = g refl
same_answer false false f g = refl

-- lists of the same literals pass a test alike
pub list_any-same : (p : Lit → Bool) (xs ys : List Lit) → SameLiterals xs ys → list_any p xs ≡ list_any p ys
list_any-same p xs ys same = same_answer (list_any p xs) (list_any p ys) there back
  where
    there : list_any p xs ≡ true → list_any p ys ≡ true
    there h = let found = has-list_any p xs h in list_any-has p ys found.0 (sym (same found.0) ∙ found.1) found.2

    back : list_any p ys ≡ true → list_any p xs ≡ true
    back h = let found = has-list_any p ys h in list_any-has p xs found.0 (same found.0 ∙ found.1) found.2

-- both signs of a variable: one of them is true
both_signs_true : (a : List Bool) (xs : List Lit) → HasBothSigns xs → clause_true a xs ≡ true
both_signs_true a xs both = cases (literal_true a both.0) refl
  where
    other : (v p : Bool) → beq v p ≡ false → beq v (not p) ≡ true
    other true true e = absurd (cc)
    other true false e = refl
    other false true e = refl
    other false false e = absurd (cc)

    cases : (b : Bool) → literal_true a both.0 ≡ b → clause_true a xs ≡ true
    cases true e = list_any-has (literal_true a) xs both.0 both.1 e
    cases false e = list_any-has (literal_true a) xs (negated both.0) both.2 (other (variable_value a both.0.var) both.0.positive e)

and_alone : (b : Bool) → (b && true) ≡ b
and_alone true = refl
and_alone false = refl

pub added_means : (a : List Bool) (cs : List (List Lit)) (xs c : List Lit) → Some c ≡ clause_of xs → all_true a (cs ++ c ∷ []) ≡ (all_true a cs && clause_true a xs)
added_means a cs xs c e =
    let is : IsAscendingByVariable c × SameLiterals c xs = (let P : Option (List Lit) → Type 0 = λ o. IfSome o (λ d. IsAscendingByVariable d × SameLiterals d xs) in subst P (sym e) (is_clause xs)) in
    list_all-append (clause_true a) cs (c ∷ []) ∙ ap (λ b. all_true a cs && b) (and_alone (clause_true a c) ∙ list_any-same (literal_true a) c xs is.1)

pub left_out_means : (a : List Bool) (cs : List (List Lit)) (xs : List Lit) → None ≡ clause_of xs → all_true a cs ≡ (all_true a cs && clause_true a xs)
left_out_means a cs xs e =
    let yes : clause_true a xs ≡ true = both_signs_true a xs ((is_tautology xs).0 (rw (← e) refl)) in
    sym (rw yes (and_alone (all_true a cs)))

All-has : (P : Lit → Type 0) (xs : List Lit) (z : Lit) → All P xs → has_literal xs z ≡ true → P z
All-has P [] z h e = absurd (cc)
All-has P (x ∷ xs) z h e = step (same_literal z x) refl e (All-has P xs z (λ k d l. h (suc k) d (omega arith)))
  where
    step : (b : Bool) → same_literal z x ≡ b → (b || has_literal xs z) ≡ true → (has_literal xs z ≡ true → P z) → P z
    step true f k ih = subst P (sym (same_literal-eq z x f)) (h zero x (omega arith))
    step false f k ih = ih k

has_at : (xs : List Lit) (k : ℕ) (d : Lit) → k < length xs → has_literal xs (get_or xs k d) ≡ true
has_at xs k d l = list_any_at (same_literal (get_or xs k d)) xs k d l (same_literal-refl (get_or xs k d))

pub added_in_range : (n : ℕ) (cs : List (List Lit)) (xs c : List Lit) → Some c ≡ clause_of xs → AreInRange n xs → ClausesInRange n cs → ClausesInRange n (cs ++ c ∷ [])
added_in_range n cs xs c e inside earlier =
    let is : IsAscendingByVariable c × SameLiterals c xs = (let P : Option (List Lit) → Type 0 = λ o. IfSome o (λ d. IsAscendingByVariable d × SameLiterals d xs) in subst P (sym e) (is_clause xs)) in
    All-push (AreInRange n) cs c earlier (λ k d l. All-has (λ x. (1 ≤ x.var) × (x.var ≤ n)) xs (get_or c k d) inside (sym (is.1 (get_or c k d)) ∙ has_at c k d l))
