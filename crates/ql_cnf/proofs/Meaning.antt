-- What the clause of a list of literals has in it, and when it is true.
use Rattle.std.proofs.Common.{◌≡◌, ℕ, ◌<◌, Bool, true, false, cond, not, ◌&&◌, ◌||◌, List, [], ◌∷◌, Option, Some, None, refl, sym, ◌∙◌, subst, arith}
use Rattle.std.proofs.lemmas.Bool.Decides.{nat_tests}
use Rattle.std.specs.Prelude.{nat_lt, ◌==◌, ◌↔◌, MatchOption, IfSome, IsNone, IsTrue}
use Rattle.std.specs.Bool.{beq}
use Rattle.std.specs.Option.{option_map, option_and_then}
use Rattle.ql_cnf.specs.Literals.{negated, same_literal, has_literal, AllAbove, IsAscendingByVariable, with_literal, with_literals, clause_of, HasBothSigns, SameLiterals}
use Rattle.ql_cnf.specs.declared.lit.Lit.{Lit}

pub AllAbove-lower : (m n : ℕ) (c : List Lit) → m < n → AllAbove n c → AllAbove m c
AllAbove-lower m n [] h a = tt
AllAbove-lower m n (x ∷ xs) h a = (omega arith, AllAbove-lower m n xs h a.1)

-- what placing x into c gives
abbrev pub Placed : Lit → List Lit → Option (List Lit) → Type 0
Placed x c o = MatchOption o (IsTrue (has_literal c (negated x))) (λ d. ((n : ℕ) → n < x.var → AllAbove n c → AllAbove n d) × IsAscendingByVariable d × ((z : Lit) → has_literal d z ≡ (same_literal z x || has_literal c z)))

or_twice : (a b : Bool) → (a || b) ≡ (a || (a || b))
or_twice true b = refl
or_twice false b = refl

or_swap : (a b c : Bool) → (a || (b || c)) ≡ (b || (a || c))
or_swap true true c = refl
or_swap true false c = refl
or_swap false true c = refl
or_swap false false c = refl

or_left : (a b : Bool) → a ≡ true → (a || b) ≡ true
or_left true b h = refl
or_left false b h = absurd (cc)

or_right : (a b : Bool) → b ≡ true → (a || b) ≡ true
or_right true b h = refl
or_right false b h = h

pub beq_same : (a b : Bool) → beq a b ≡ true → a ≡ b
beq_same true true h = refl
beq_same true false h = absurd (cc)
beq_same false true h = absurd (cc)
beq_same false false h = refl

beq_other : (a b : Bool) → beq a b ≡ false → beq (not a) b ≡ true
beq_other true true h = absurd (cc)
beq_other true false h = refl
beq_other false true h = refl
beq_other false false h = absurd (cc)

pub beq_refl : (a : Bool) → beq a a ≡ true
beq_refl true = refl
beq_refl false = refl

eqb_same : (a b : ℕ) → (a == b) ≡ true → a ≡ b
eqb_same a b h = grind (arith, nat_tests)

pub eqb_refl : (a : ℕ) → (a == a) ≡ true
eqb_refl a = grind (arith, nat_tests)

placed_step : (x y : Lit) (ys : List Lit) (o : Option (List Lit)) → Placed x ys o → IsAscendingByVariable (y ∷ ys) → (p q r : Bool) → nat_lt x.var y.var ≡ p → (x.var == y.var) ≡ q → beq x.positive y.positive ≡ r → Placed x (y ∷ ys) (cond p (Some (x ∷ y ∷ ys)) (cond q (cond r (Some (y ∷ ys)) None) (option_map (λ zs. y ∷ zs) o)))
placed_step x y ys o h a true q r ep eq er =
    let l : x.var < y.var = less _ _ ep in
    (λ n below above. (below, above), ((l, AllAbove-lower _ _ ys l a.0), a), λ z. refl)
  where
    less : (a b : ℕ) → nat_lt a b ≡ true → a < b
    less a b e = grind (arith, nat_tests)
placed_step x y ys o h a false true true ep eq er =
    let same_var : x.var ≡ y.var = eqb_same _ _ eq in
    let same_sign : x.positive ≡ y.positive = beq_same _ _ er in
    (λ n below above. above, a, λ z. rw (same_var, same_sign) (or_twice (same_literal z y) (has_literal ys z)))
placed_step x y ys o h a false true false ep eq er = rw (eq, beq_other _ _ er) refl
placed_step x y ys None h a false false r ep eq er = or_right (same_literal (negated x) y) (has_literal ys (negated x)) h
placed_step x y ys (Some d) h a false false r ep eq er =
    let l : y.var < x.var = greater _ _ ep eq in
    (λ n below above. (above.0, h.0 n below above.1), (h.0 y.var l a.0, h.1), λ z. rw (h.2 z) (or_swap (same_literal z y) (same_literal z x) (has_literal ys z)))
  where
    greater : (a b : ℕ) → nat_lt a b ≡ false → (a == b) ≡ false → b < a
    greater a b e k = grind (arith, nat_tests)

pub placed : (x : Lit) (c : List Lit) → IsAscendingByVariable c → Placed x c (with_literal x c)
placed x [] a = (λ n below above. (below, tt), (tt, tt), λ z. refl)
placed x (y ∷ ys) a = placed_step x y ys (with_literal x ys) (placed x ys a.1) a _ _ _ refl refl refl

-- what placing all of xs into c gives
abbrev pub AllPlaced : List Lit → List Lit → Option (List Lit) → Type 0
AllPlaced c xs o = MatchOption o ((z : Lit) × IsTrue (has_literal c z || has_literal xs z) × IsTrue (has_literal c (negated z) || has_literal xs (negated z))) (λ d. IsAscendingByVariable d × ((z : Lit) → has_literal d z ≡ (has_literal c z || has_literal xs z)))

or_move : (a b c : Bool) → ((a || b) || c) ≡ (b || (a || c))
or_move true true c = refl
or_move true false c = refl
or_move false true c = refl
or_move false false c = refl

all_placed_rest : (x : Lit) (c d xs : List Lit) (o : Option (List Lit)) → ((z : Lit) → has_literal d z ≡ (same_literal z x || has_literal c z)) → AllPlaced d xs o → AllPlaced c (x ∷ xs) o
all_placed_rest x c d xs None same h =
    let back : (z : Lit) → (has_literal d z || has_literal xs z) ≡ (has_literal c z || (same_literal z x || has_literal xs z)) = λ z. rw (same z) (or_move (same_literal z x) (has_literal c z) (has_literal xs z)) in
    (h.0, sym (back h.0) ∙ h.1, sym (back (negated h.0)) ∙ h.2)
all_placed_rest x c d xs (Some e) same h = (h.0, λ z. h.1 z ∙ moved z)
  where
    moved : (z : Lit) → (has_literal d z || has_literal xs z) ≡ (has_literal c z || (same_literal z x || has_literal xs z))
    moved z = rw (same z) (or_move (same_literal z x) (has_literal c z) (has_literal xs z))

all_placed_step : (x : Lit) (c xs : List Lit) (o : Option (List Lit)) → Placed x c o → ((d : List Lit) → IsAscendingByVariable d → AllPlaced d xs (with_literals d xs)) → AllPlaced c (x ∷ xs) (option_and_then (λ d. with_literals d xs) o)
all_placed_step x c xs None p ih =
    (x, or_right (has_literal c x) (has_literal (x ∷ xs) x) (or_left (same_literal x x) (has_literal xs x) (rw (eqb_refl x.var, beq_refl x.positive) refl)), or_left (has_literal c (negated x)) (has_literal (x ∷ xs) (negated x)) p)
all_placed_step x c xs (Some d) p ih = all_placed_rest x c d xs (with_literals d xs) p.2 (ih d p.1)

pub all_placed : (c xs : List Lit) → IsAscendingByVariable c → AllPlaced c xs (with_literals c xs)
all_placed c [] a = (a, λ z. or_false (has_literal c z))
  where
    or_false : (b : Bool) → b ≡ (b || false)
    or_false true = refl
    or_false false = refl
all_placed c (x ∷ xs) a = all_placed_step x c xs (with_literal x c) (placed x c a) (λ d b. all_placed d xs b)

and_left : (a b : Bool) → (a && b) ≡ true → a ≡ true
and_left true b h = refl
and_left false b h = h

and_right : (a b : Bool) → (a && b) ≡ true → b ≡ true
and_right true b h = h
and_right false b h = absurd (cc)

rest : (a b : Bool) → a ≡ false → (a || b) ≡ true → b ≡ true
rest true b e h = absurd (cc)
rest false b e h = h

-- literals that are the same are equal
var_same : (x y : Lit) → same_literal x y ≡ true → x.var ≡ y.var
var_same x y h = eqb_same x.var y.var (and_left (x.var == y.var) (beq x.positive y.positive) h)

sign_same : (x y : Lit) → same_literal x y ≡ true → x.positive ≡ y.positive
sign_same x y h = beq_same x.positive y.positive (and_right (x.var == y.var) (beq x.positive y.positive) h)

abbrev literal : ℕ → Bool → Lit
literal v p = record { var = v; positive = p }

lit_eq : (a b : ℕ) (p q : Bool) → a ≡ b → p ≡ q → literal a p ≡ literal b q
lit_eq a b p q e f = cc

pub same_literal-eq : (x y : Lit) → same_literal x y ≡ true → x ≡ y
same_literal-eq x y h = lit_eq x.var y.var x.positive y.positive (var_same x y h) (sign_same x y h)

-- an ascending clause doesn't have both signs of a variable
AllAbove-has : (n : ℕ) (c : List Lit) (z : Lit) → AllAbove n c → has_literal c z ≡ true → n < z.var
AllAbove-has n [] z a h = absurd (cc)
AllAbove-has n (x ∷ xs) z a h = step (same_literal z x) refl (λ k. AllAbove-has n xs z a.1 k)
  where
    step : (b : Bool) → same_literal z x ≡ b → (has_literal xs z ≡ true → n < z.var) → n < z.var
    step true e ih = let same_var : z.var ≡ x.var = var_same z x e in omega (arith, a.0)
    step false e ih = ih (rest (same_literal z x) (has_literal xs z) e h)

pub one_sign : (c : List Lit) (z : Lit) → IsAscendingByVariable c → has_literal c z ≡ true → has_literal c (negated z) ≡ true → ⊥
one_sign [] z a h k = cc
one_sign (x ∷ xs) z a h k = step (same_literal z x) (same_literal (negated z) x) refl refl (one_sign xs z a.1)
  where
    step : (b d : Bool) → same_literal z x ≡ b → same_literal (negated z) x ≡ d → (has_literal xs z ≡ true → has_literal xs (negated z) ≡ true → ⊥) → ⊥
    step true true e f ih = other z.positive (sign_same z x e ∙ sym (sign_same (negated z) x f))
      where
        other : (b : Bool) → b ≡ not b → ⊥
        other true h = cc
        other false h = cc
    step true false e f ih =
        let above : x.var < z.var = AllAbove-has x.var xs (negated z) a.0 (rest (same_literal (negated z) x) (has_literal xs (negated z)) f k) in
        let same_var : z.var ≡ x.var = var_same z x e in
        omega arith
    step false true e f ih =
        let above : x.var < z.var = AllAbove-has x.var xs z a.0 (rest (same_literal z x) (has_literal xs z) e h) in
        let same_var : z.var ≡ x.var = var_same (negated z) x f in
        omega arith
    step false false e f ih =
        ih (rest (same_literal z x) (has_literal xs z) e h) (rest (same_literal (negated z) x) (has_literal xs (negated z)) f k)

Placed-ascending : (x : Lit) (c d : List Lit) (o : Option (List Lit)) → o ≡ Some d → Placed x c o → IsAscendingByVariable d
Placed-ascending x c d None e h = absurd (cc)
Placed-ascending x c d (Some b) e h = let same : b ≡ d = cc in subst IsAscendingByVariable same h.1

-- a clause stays ascending
pub stays_ascending : (x : Lit) (c d : List Lit) → with_literal x c ≡ Some d → IsAscendingByVariable c → IsAscendingByVariable d
stays_ascending x c d e a = Placed-ascending x c d (with_literal x c) e (placed x c a)

-- the clause of the literals is ascending and has the same literals
clause_from : (xs : List Lit) (o : Option (List Lit)) → AllPlaced [] xs o → IfSome o (λ c. IsAscendingByVariable c × SameLiterals c xs)
clause_from xs None h = tt
clause_from xs (Some c) h = h

pub is_clause : (xs : List Lit) → IfSome (clause_of xs) (λ c. IsAscendingByVariable c × SameLiterals c xs)
is_clause xs = clause_from xs (clause_of xs) (all_placed [] xs tt)

-- there is none where the literals hold both signs of a variable
none_from : (xs : List Lit) (o : Option (List Lit)) → AllPlaced [] xs o → IsNone o ↔ HasBothSigns xs
none_from xs None h = (λ e. (h.0, h.1, h.2), λ both. refl)
none_from xs (Some c) h = (λ e. absurd (cc), λ both. absurd (one_sign c both.0 h.0 (h.1 both.0 ∙ both.1) (h.1 (negated both.0) ∙ both.2)))

pub is_tautology : (xs : List Lit) → IsNone (clause_of xs) ↔ HasBothSigns xs
is_tautology xs = none_from xs (clause_of xs) (all_placed [] xs tt)

pub same_literal-refl : (x : Lit) → same_literal x x ≡ true
same_literal-refl x = rw (eqb_refl x.var, beq_refl x.positive) refl
