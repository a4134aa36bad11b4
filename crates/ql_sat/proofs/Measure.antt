-- The trail as a number in base 3: what makes it greater.
use Rattle.std.proofs.Common.{◌≡◌, ℕ, zero, suc, ◌+◌, ◌*◌, ◌^◌, ◌<◌, ◌≤◌, Bool, true, false, cond, List, [], ◌∷◌, ◌++◌, length, arith}
use Rattle.std.proofs.Math.Nat.{pow-suc}
use Rattle.std.specs.Prelude.{is_some}
use Rattle.ql_sat.specs.Trail.{digit, trail_number}
use Rattle.ql_sat.specs.declared.trail.Step.{Step}

digit_most : (b : Bool) (k : ℕ) → cond b 2 1 * k ≤ 2 * k
digit_most true k = omega arith
digit_most false k = omega arith

digit_least : (b : Bool) (k : ℕ) → k ≤ cond b 2 1 * k
digit_least true k = omega arith
digit_least false k = omega arith

below_head : (d n m t : ℕ) → d ≤ 2 * m → t < m → n ≡ m * 3 → d + t < n
below_head d n m t h l e = omega arith

positive : (t m n : ℕ) → t < m → n ≡ m * 3 → 0 < n
positive t m n h e = omega arith

pub number-below : (n : ℕ) (ss : List Step) → trail_number n ss < 3 ^ n
unfolding trail_number
number-below zero ss = omega arith
number-below (suc n) [] = positive (trail_number n []) (3 ^ n) (3 ^ suc n) (number-below n []) (pow-suc 3 n)
number-below (suc n) (s ∷ ss) = below_head (digit s * 3 ^ n) (3 ^ suc n) (3 ^ n) (trail_number n ss) (digit_most (is_some s.reason) (3 ^ n)) (number-below n ss) (pow-suc 3 n)

more_at_end : (d m t : ℕ) → m ≤ d → t < m → 0 < d + t
more_at_end d m t h l = omega arith

same_head : (d t u : ℕ) → t < u → d + t < d + u
same_head d t u h = omega arith

-- one more step
pub number_push : (n : ℕ) (xs : List Step) (s : Step) → length xs < n → trail_number n xs < trail_number n (xs ++ s ∷ [])
unfolding trail_number
number_push zero xs s h = absurd (omega arith)
number_push (suc n) [] s h = more_at_end (digit s * 3 ^ n) (3 ^ n) (trail_number n []) (digit_least (is_some s.reason) (3 ^ n)) (number-below n [])
number_push (suc n) (x ∷ xs) s h = same_head (digit x * 3 ^ n) (trail_number n xs) (trail_number n (xs ++ s ∷ [])) (number_push n xs s (omega arith))

one_digit : (b : Bool) (k : ℕ) → b ≡ false → cond b 2 1 * k ≡ k
one_digit true k h = absurd (cc)
one_digit false k h = omega arith

two_digit : (b : Bool) (k : ℕ) → b ≡ true → cond b 2 1 * k ≡ 2 * k
two_digit true k h = omega arith
two_digit false k h = absurd (cc)

greater_head : (d f m t u : ℕ) → d ≡ m → f ≡ 2 * m → t < m → d + t < f + u
greater_head d f m t u e g h = omega arith

-- a forced literal in the place of a decision
pub number_back : (n : ℕ) (xs ys : List Step) (d f : Step) → length xs < n → is_some d.reason ≡ false → is_some f.reason ≡ true → trail_number n (xs ++ d ∷ ys) < trail_number n (xs ++ f ∷ [])
unfolding trail_number
number_back zero xs ys d f h e g = absurd (omega arith)
number_back (suc n) [] ys d f h e g = greater_head (digit d * 3 ^ n) (digit f * 3 ^ n) (3 ^ n) (trail_number n ys) (trail_number n []) (one_digit (is_some d.reason) (3 ^ n) e) (two_digit (is_some f.reason) (3 ^ n) g) (number-below n ys)
number_back (suc n) (x ∷ xs) ys d f h e g = same_head (digit x * 3 ^ n) (trail_number n (xs ++ d ∷ ys)) (trail_number n (xs ++ f ∷ [])) (number_back n xs ys d f (omega arith) e g)
