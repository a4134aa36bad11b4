use Rattle.std.proofs.Common.{◌≡◌, take}
use Rattle.ql_machine.specs.Runs.{replicas_at_end}
use Rattle.ql_schedule.proofs.schedule.Schedule.last_replicas.Given as goal

abbrev pub invariant-loop-event : goal.invariant-loop-event
invariant-loop-event l = l.replicas ≡ replicas_at_end l.self.replicas (take l.event-index l.self.events)
