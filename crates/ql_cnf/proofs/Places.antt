-- Where a literal stands in an ascending clause.
use Rattle.std.proofs.Common.{◌≡◌, ◌≢◌, ℕ, zero, suc, ◌<◌, ◌≤◌, Bool, true, false, cond, List, [], ◌∷◌, Some, None, length, get_or, refl, sym, ◌∙◌, arith, ap}
use Rattle.std.proofs.lemmas.List.{get_or_default}
use Rattle.std.proofs.lemmas.Bool.Decides.{nat_tests}
use Rattle.std.specs.Prelude.{nat_lt, ◌==◌, insert, MatchBool}
use Rattle.std.specs.Bool.{beq}
use Rattle.std.specs.Option.{option_map}
use Rattle.ql_cnf.specs.Literals.{count_below, with_literal, IsAscendingByVariable, AllAbove}
use Rattle.ql_cnf.specs.declared.lit.Lit.{Lit}

pub count_below-none : (v x n : ℕ) → v ≤ x → cond (nat_lt x v) (suc n) 0 ≤ 0
count_below-none v x n h = grind (arith, nat_tests)

pub count_below-more : (v x n k : ℕ) → n ≤ k → cond (nat_lt x v) (suc n) 0 ≤ suc k
count_below-more v x n k h = grind (arith, nat_tests)

-- no more are below v than stand before one that is not
pub count_below-le : (v : ℕ) (c : List Lit) (k : ℕ) (d : Lit) → k < length c → v ≤ (get_or c k d).var → count_below v c ≤ k
count_below-le v [] k d h e = absurd (omega arith)
count_below-le v (x ∷ xs) zero d h e = count_below-none v x.var (count_below v xs) e
count_below-le v (x ∷ xs) (suc k) d h e =
    let h' : k < length xs = omega arith in
    count_below-more v x.var (count_below v xs) k (count_below-le v xs k d h' e)

pub count_below-length : (v : ℕ) (c : List Lit) → count_below v c ≤ length c
count_below-length v [] = omega arith
count_below-length v (x ∷ xs) = count_below-more v x.var (count_below v xs) (length xs) (count_below-length v xs)

pub count_below-some : (v x n k : ℕ) → x < v → k ≤ n → suc k ≤ cond (nat_lt x v) (suc n) 0
count_below-some v x n k l h = grind (arith, nat_tests)

pub AllAbove-at : (n : ℕ) (c : List Lit) (k : ℕ) (d : Lit) → AllAbove n c → k < length c → n < (get_or c k d).var
AllAbove-at n [] k d a h = absurd (omega arith)
AllAbove-at n (x ∷ xs) zero d a h = a.0
AllAbove-at n (x ∷ xs) (suc k) d a h = let h' : k < length xs = omega arith in AllAbove-at n xs k d a.1 h'

-- all before one that is below v are below v
pub count_below-ge : (v : ℕ) (c : List Lit) (k : ℕ) (d : Lit) → IsAscendingByVariable c → k < length c → (get_or c k d).var < v → suc k ≤ count_below v c
count_below-ge v [] k d a h e = absurd (omega arith)
count_below-ge v (x ∷ xs) zero d a h e = count_below-some v x.var (count_below v xs) 0 e (omega arith)
count_below-ge v (x ∷ xs) (suc k) d a h e =
    let h' : k < length xs = omega arith in
    let above : x.var < (get_or xs k d).var = AllAbove-at x.var xs k d a.0 h' in
    let l : x.var < v = omega arith in
    count_below-some v x.var (count_below v xs) (suc k) l (count_below-ge v xs k d a.1 h' e)

not_below : (a b : ℕ) → b ≤ a → nat_lt a b ≡ false
not_below a b h = grind (arith, nat_tests)

below : (a b : ℕ) → a < b → nat_lt a b ≡ true
below a b h = grind (arith, nat_tests)

not_same : (a b : ℕ) → a ≢ b → (a == b) ≡ false
not_same a b h = grind (arith, nat_tests)

same : (a b : ℕ) → a ≡ b → (a == b) ≡ true
same a b h = grind (arith, nat_tests)

is_below : (a b : ℕ) → nat_lt a b ≡ true → a < b
is_below a b h = grind (arith, nat_tests)

is_not_below : (a b : ℕ) → nat_lt a b ≡ false → b ≤ a
is_not_below a b h = grind (arith, nat_tests)

-- no literal at the place n has the variable v
abbrev pub IsFreeAt : ℕ → List Lit → ℕ → Type 0
IsFreeAt v c n = (d : Lit) → n < length c → (get_or c n d).var ≢ v

new_step : (x y : Lit) (ys : List Lit) (b : Bool) → nat_lt y.var x.var ≡ b → (IsFreeAt x.var ys (count_below x.var ys) → with_literal x ys ≡ Some (insert ys (count_below x.var ys) x)) → IsFreeAt x.var (y ∷ ys) (cond b (suc (count_below x.var ys)) 0) → with_literal x (y ∷ ys) ≡ Some (insert (y ∷ ys) (cond b (suc (count_below x.var ys)) 0) x)
new_step x y ys true e ih free =
    let l : y.var < x.var = is_below _ _ e in
    let ne : x.var ≢ y.var = omega arith in
    let first : nat_lt x.var y.var ≡ false = not_below _ _ (omega arith) in
    let second : (x.var == y.var) ≡ false = not_same _ _ ne in
    let placed : with_literal x ys ≡ Some (insert ys (count_below x.var ys) x) = ih (λ d h. free d (omega arith)) in
    rw (first, second, placed) refl
new_step x y ys false e ih free =
    let l : x.var ≤ y.var = is_not_below _ _ e in
    let ne : y.var ≢ x.var = free y (omega arith) in
    let first : nat_lt x.var y.var ≡ true = below _ _ (omega arith) in
    rw first refl

pub with_literal-new : (x : Lit) (c : List Lit) → IsFreeAt x.var c (count_below x.var c) → with_literal x c ≡ Some (insert c (count_below x.var c) x)
with_literal-new x [] free = refl
with_literal-new x (y ∷ ys) free = new_step x y ys (nat_lt y.var x.var) refl (with_literal-new x ys) free

there_step : (x y : Lit) (ys : List Lit) (d : Lit) (b : Bool) → nat_lt y.var x.var ≡ b → (count_below x.var ys < length ys → (get_or ys (count_below x.var ys) d).var ≡ x.var → with_literal x ys ≡ cond (beq x.positive (get_or ys (count_below x.var ys) d).positive) (Some ys) None) → cond b (suc (count_below x.var ys)) 0 < length (y ∷ ys) → (get_or (y ∷ ys) (cond b (suc (count_below x.var ys)) 0) d).var ≡ x.var → with_literal x (y ∷ ys) ≡ cond (beq x.positive (get_or (y ∷ ys) (cond b (suc (count_below x.var ys)) 0) d).positive) (Some (y ∷ ys)) None
there_step x y ys d true e ih h at =
    let l : y.var < x.var = is_below _ _ e in
    let ne : x.var ≢ y.var = omega arith in
    let first : nat_lt x.var y.var ≡ false = not_below _ _ (omega arith) in
    let second : (x.var == y.var) ≡ false = not_same _ _ ne in
    rw (first, second) (rw (ih (omega arith) at) (moved (beq x.positive (get_or ys (count_below x.var ys) d).positive) y ys))
  where
    moved : (b : Bool) (y : Lit) (ys : List Lit) → option_map (λ zs. y ∷ zs) (cond b (Some ys) None) ≡ cond b (Some (y ∷ ys)) None
    moved true y ys = refl
    moved false y ys = refl
there_step x y ys d false e ih h at =
    let first : nat_lt x.var y.var ≡ false = not_below _ _ (omega arith) in
    let second : (x.var == y.var) ≡ true = same _ _ (sym at) in
    rw (first, second) refl

pub with_literal-there : (x : Lit) (c : List Lit) (d : Lit) → count_below x.var c < length c → (get_or c (count_below x.var c) d).var ≡ x.var → with_literal x c ≡ cond (beq x.positive (get_or c (count_below x.var c) d).positive) (Some c) None
with_literal-there x [] d h at = absurd (omega arith)
with_literal-there x (y ∷ ys) d h at = there_step x y ys d (nat_lt y.var x.var) refl (with_literal-there x ys d) h at

pub free_from_read : (v : ℕ) (c : List Lit) (n : ℕ) (r : Lit) → r ≡ get_or c n r → r.var ≢ v → IsFreeAt v c n
free_from_read v c n r read ne d h e = ne (ap (λ (x : Lit). x.var) (read ∙ get_or_default c n r d h) ∙ e)

-- a literal whose variable is there already
pub there : (x : Lit) (c : List Lit) (n : ℕ) (r s : Lit) → n ≡ count_below x.var c → n < length c → r ≡ get_or c n r → s ≡ get_or c n s → s.var ≡ x.var → MatchBool (beq r.positive x.positive) (with_literal x c ≡ Some c) (with_literal x c ≡ None)
there x c n r s place h read also same_var =
    let same : s ≡ r = also ∙ get_or_default c n s r h ∙ sym read in
    let place_var : (get_or c n r).var ≡ x.var = rw (← read, ← same) same_var in
    let found : with_literal x c ≡ cond (beq x.positive (get_or c n r).positive) (Some c) None = rw place (with_literal-there x c r (rw (← place) h) (rw (← place) place_var)) in
    cases x.positive r.positive (found ∙ rw (← read) refl)
  where
    cases : (p q : Bool) → with_literal x c ≡ cond (beq p q) (Some c) None → MatchBool (beq q p) (with_literal x c ≡ Some c) (with_literal x c ≡ None)
    cases true true e = e
    cases true false e = e
    cases false true e = e
    cases false false e = e
