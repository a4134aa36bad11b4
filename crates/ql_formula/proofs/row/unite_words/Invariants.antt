use Rattle.std.proofs.Common.{◌≡◌, ℕ, ◌<◌, ◌≤◌, length, get_or}
use Rattle.std.specs.Prelude.{bit_or}
use Rattle.ql_formula.proofs.row.unite_words.Given as goal

abbrev pub invariant-loop-k : goal.invariant-loop-k
invariant-loop-k l =
    (length l.words ≡ length l.fn.words)
    × ((j : ℕ) → j < l.k → get_or l.words j 0 ≡ bit_or (get_or l.fn.words j 0) (get_or l.others j 0))
    × ((j : ℕ) → l.k ≤ j → get_or l.words j 0 ≡ get_or l.fn.words j 0)
