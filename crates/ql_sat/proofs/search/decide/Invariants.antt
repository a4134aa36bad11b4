use Rattle.std.proofs.Common.{◌+◌, ◌-◌, ◌^◌}
use Rattle.ql_sat.specs.State.{IsReady}
use Rattle.ql_sat.specs.Trail.{trail_number}
use Rattle.ql_sat.proofs.search.decide.Given as goal

abbrev pub invariant-turns : goal.invariant-turns
invariant-turns l = IsReady l.c l.search

abbrev pub decreases-turns : goal.decreases-turns
decreases-turns l = 3 ^ (l.c.variables + 1) - trail_number (l.c.variables + 1) l.search.trail.steps.items
