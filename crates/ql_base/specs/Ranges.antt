-- Lists made from the numbers below a bound.
use Rattle.std.specs.Prelude.{ℕ, zero, suc, List, [], ◌++◌}

-- f of 0, f of 1, and so on for the numbers below n, concatenated
abbrev pub upto : {A : Type 0} → ℕ → (ℕ → List A) → List A
upto zero f = []
upto (suc n) f = upto n f ++ f n
