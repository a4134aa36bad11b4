use Rattle.std.proofs.Common.{◌≡◌, ◌++◌, take}
use Rattle.ql_runs.specs.Watching.{new_ids}
use Rattle.ql_runs.proofs.watched.push_new.Given as goal

abbrev pub invariant-loop-id : goal.invariant-loop-id
invariant-loop-id l = l.arrivals.items ≡ l.fn.arrivals.items ++ new_ids l.before (take l.id-index l.after)
