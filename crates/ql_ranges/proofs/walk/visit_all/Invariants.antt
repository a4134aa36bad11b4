use Rattle.std.proofs.Common.{◌<◌, ◌≤◌, ◌-◌, ℕ, length, get_or}
use Rattle.ql_holder.specs.Closed.{Has}
use Rattle.ql_ranges.specs.Ranges.{ids_of}
use Rattle.ql_ranges.specs.Reach.{InEither}
use Rattle.ql_ranges.specs.Walks.{IsWalk, Visited}
use Rattle.ql_ranges.proofs.walk.visit_all.Given as goal

abbrev pub invariant-loop-visited : goal.invariant-loop-visited
invariant-loop-visited l = record {
  walk : IsWalk l.effects l.search.asked.now (ids_of l.walk.found) l.walk.due.items;
  begins : (a : ℕ) → Has l.search.asked.now a → InEither (ids_of l.search.known.now) (ids_of l.walk.found) a;
  inside : l.visited ≤ length l.walk.due.items;
  done : (k : ℕ) → k < l.visited → Visited l.effects l.search.asked.now (ids_of l.search.known.now) (ids_of l.walk.found) (get_or l.walk.due.items k 0);
}

abbrev pub decreases-loop-visited : goal.decreases-loop-visited
decreases-loop-visited l = length l.effects - l.visited
