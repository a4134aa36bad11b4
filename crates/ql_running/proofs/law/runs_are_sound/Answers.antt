use Rattle.std.proofs.Common.{map, length}
use Rattle.ql_base.specs.declared.ids.TypeId.{TypeId}
use Rattle.ql_running.proofs.OfRuns.{schedule-for}
use Rattle.ql_running.proofs.law.runs_are_sound.Goals as goal

pub returns : goal.returns
returns c = λ p levels s replies last are is run.
    (let kinds = map (λ (t : TypeId). t.0) s.kinds in
    let asked = schedule-for p (length s.objects) s.kinds s.replicas s.events is.events in
    let enough = are.least.enough in
    record {
      operations = c.runs_meet_contracts.ensures.operations p levels kinds s.replicas s.events replies last run asked enough;
      transactions = c.runs_meet_contracts.ensures.transactions p levels kinds s.replicas s.events replies last run asked enough;
      answers = c.runs_meet_contracts.ensures.answers p levels s.replicas s.events replies last run;
    })
