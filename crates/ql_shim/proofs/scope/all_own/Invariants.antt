use Rattle.std.proofs.Common.{take}
use Rattle.ql_shim.specs.Joined.{IsComplete}
use Rattle.ql_shim.proofs.scope.all_own.Given as goal

abbrev pub invariant-loop-a : goal.invariant-loop-a
invariant-loop-a l = IsComplete l.x l.running.own l.running.saw l.others l.running.txn.session (take l.a-index l.on) l.ids
