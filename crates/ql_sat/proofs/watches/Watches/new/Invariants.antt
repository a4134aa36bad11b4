use Rattle.std.proofs.Common.{◌≡◌, ◌+◌, ◌*◌, ◌<◌, ℕ, [], length}
use Rattle.std.specs.List.{slice_index_or}
use Rattle.ql_cnf.specs.Literals.{IsAscendingByVariable}
use Rattle.ql_sat.specs.Settled.{WatchesOwn}
use Rattle.ql_sat.specs.Watch.{pair_at}
use Rattle.ql_sat.proofs.watches.Watches.new.Given as goal

abbrev pub invariant-loop-k : goal.invariant-loop-k
invariant-loop-k l = record {
  counted : length l.watches.pairs.items ≡ l.k;
  room : length l.watches.lists.items ≡ 2 * (l.c.variables + 1);
  ascending : (j : ℕ) → j < l.k → IsAscendingByVariable (slice_index_or l.c.clauses j []);
  own : (j : ℕ) → j < l.k → WatchesOwn (slice_index_or l.c.clauses j []) (pair_at l.watches.pairs.items j);
}
