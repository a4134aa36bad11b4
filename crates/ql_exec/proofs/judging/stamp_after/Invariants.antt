use Rattle.std.proofs.Common.{◌≡◌, max, map, drop}
use Rattle.ql_exec.specs.Execution.{greatest, stamp_at, session_stamp, seen_stamp}
use Rattle.ql_exec.proofs.judging.stamp_after.Given as goal

abbrev pub invariant-loop-id : goal.invariant-loop-id
invariant-loop-id l =
    max l.stamp (greatest (map (stamp_at l.effects) (drop l.id-index l.seen))) ≡ max (seen_stamp l.effects l.seen) (session_stamp l.effects l.fn.session)
