use Rattle.std.proofs.Common.{◌≤◌, ◌-◌, length, take}
use Rattle.ql_ranges.specs.Ranges.{ids_of}
use Rattle.ql_ranges.specs.Walks.{Meets}
use Rattle.ql_ranges.proofs.walk.meet_by_ranges.Given as goal

abbrev pub invariant-loop-met : goal.invariant-loop-met
invariant-loop-met l = record {
  inside : l.met ≤ length l.ids;
  meets : Meets (ids_of l.known) (take l.met l.ids) (ids_of l.initial.walk.found) l.initial.walk.due.items (ids_of l.walk.found) l.walk.due.items;
}

abbrev pub decreases-loop-met : goal.decreases-loop-met
decreases-loop-met l = length l.ids - l.met
