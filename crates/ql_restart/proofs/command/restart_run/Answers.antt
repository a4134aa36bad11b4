use Rattle.std.proofs.Common.{arith, inr}
use Rattle.std.proofs.lemmas.Result.{IfOk-at_ok}
use Rattle.ql_restart.proofs.command.restart_run.Goals as goal

pub returns-then-replica-replicas : goal.returns-then-replica-replicas
returns-then-replica-replicas c =
    let input = c.in-Ok.input in
    let read = c.in_ok-input.ensures in
    let levels = IfOk-at_ok _ c.in-Ok.is read.levels in
    inr (record {
      program = input.typed.program;
      schedule = input.schedule;
      is_source = IfOk-at_ok _ c.in-Ok.is read.source;
      is_schedule = IfOk-at_ok _ c.in-Ok.is read.schedule;
      accepted = levels.accepted;
      is_none = (let is = c.last_replicas-replicas.ensures in let least = c.if-replica-replicas.true in omega (arith, is, least));
      printed = c.in_ok-no_replica.ensures;
    })
