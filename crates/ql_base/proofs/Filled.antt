use Rattle.std.proofs.Common.{◌≡◌, ◌≤◌, ◌-◌, ℕ, List, ◌++◌, length, drop, replicate, arith, refl, length-append}
use Rattle.std.proofs.lemmas.List.{drop-replicate, length-replicate}
use Rattle.std.proofs.Math.Seq.{take-append_seam}
use Rattle.ql_base.specs.Words.{IsRow}

-- the zeros that follow the first `n` of a row
zeros_after : (n : ℕ) → drop n (replicate {A = ℕ} 32 0) ≡ replicate {A = ℕ} (32 - n) 0
zeros_after n = drop-replicate n 32 0

-- a name's bytes over a row of zeros
pub row_of : (b : List ℕ) → 1 ≤ length b → length b ≤ 32 → IsRow (length b) (b ++ drop (length b) (replicate {A = ℕ} 32 0))
row_of b some few = rw zeros_after (record {
  some = some;
  few = few;
  full = omega (arith, length-append b (replicate (32 - length b) 0), length-replicate {A = ℕ} (32 - length b) 0);
  rest = rw take-append_seam refl;
})
