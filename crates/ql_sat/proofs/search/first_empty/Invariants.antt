use Rattle.std.proofs.Common.{◌≢◌, ℕ, ◌<◌, []}
use Rattle.std.specs.List.{slice_index_or}
use Rattle.ql_sat.proofs.search.first_empty.Given as goal

abbrev pub invariant-loop-k : goal.invariant-loop-k
invariant-loop-k l = (j : ℕ) → j < l.k → slice_index_or l.c.clauses j [] ≢ []
