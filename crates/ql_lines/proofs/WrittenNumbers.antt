-- Numbers that are written alike are equal.
use Rattle.std.proofs.Common.{◌≡◌, ℕ, List, [], ◌∷◌, length, map, decimal, arith, refl, ap}
use Rattle.std.specs.List.{AllByRecursion}
use Rattle.std.proofs.lemmas.Fmt.{decimal_injective}
use Rattle.ql_lines.specs.Fields.{IsId}
use Rattle.ql_lines.proofs.Conses.{both, heads, tails}

pub same_numbers : (xs ys : List ℕ) → AllByRecursion IsId xs → AllByRecursion IsId ys → map decimal xs ≡ map decimal ys → xs ≡ ys
same_numbers [] [] f g e = refl
same_numbers [] (y ∷ ys) f g e = absurd (omega (arith, ap length e))
same_numbers (x ∷ xs) [] f g e = absurd (omega (arith, ap length e))
same_numbers (x ∷ xs) (y ∷ ys) f g e =
    both x y xs ys (decimal_injective x y (omega (arith, f.0)) (omega (arith, g.0)) (heads (decimal x) (decimal y) (map decimal xs) (map decimal ys) e))
    (same_numbers xs ys f.1 g.1 (tails (decimal x) (decimal y) (map decimal xs) (map decimal ys) e))
