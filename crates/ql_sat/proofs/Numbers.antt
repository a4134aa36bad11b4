-- Clauses by their numbers, and the literal that one forces.
use Rattle.std.proofs.Common.{◌≡◌, ℕ, zero, suc, ◌+◌, ◌-◌, ◌<◌, ◌≤◌, false, List, [], ◌∷◌, Some, length, get_or, arith}
use Rattle.std.proofs.lemmas.Bool.Decides.{nat_tests}
use Rattle.std.specs.Prelude.{◌==◌, slice_get}
use Rattle.ql_cnf.specs.Satisfaction.{AreInRange}
use Rattle.ql_cnf.specs.declared.lit.Lit.{Lit}
use Rattle.ql_refute.specs.Partial.{Partial, reading}
use Rattle.ql_refute.specs.Verdict.{numbered}
use Rattle.ql_refute.specs.declared.marks.Reading.TheVariants.{Forces}
use Rattle.ql_refute.proofs.Steps.{forced_passes}

pub get_of : {X : Type 0} → (xs : List X) (k : ℕ) (x e : X) → slice_get xs k ≡ Some x → (k < length xs) × (get_or xs k e ≡ x)
get_of [] k x e h = absurd (cc)
get_of (y ∷ ys) zero x e h = (omega arith, cc)
get_of (y ∷ ys) (suc k) x e h = let rest = get_of ys k x e h in (omega (arith, rest.0), rest.1)

pub numbered_next : {X : Type 0} → (xs : List X) (k : ℕ) (x : X) → slice_get xs (k + 1 - 1) ≡ Some x → numbered xs (k + 1) ≡ Some x
numbered_next xs k x h = rw (not_zero k) h
  where
    not_zero : (n : ℕ) → (n + 1 == 0) ≡ false
    not_zero n = grind (arith, nat_tests)

pub forced_in_range : (n : ℕ) (p : Partial) (d : List Lit) (x : Lit) → reading p d ≡ Forces x → AreInRange n d → (1 ≤ x.var) × (x.var ≤ n)
forced_in_range n p d x forces inside = forced_passes (λ y. (1 ≤ y.var) × (y.var ≤ n)) p d x forces inside
