use Rattle.ql_running.specs.Stores.{rules_of}
use Rattle.ql_verdicts.proofs.law.replicas_of_runs_agree.Goals as goal

pub returns : goal.returns
returns c = λ form source schedule text reported arrived.
    (let rules = rules_of reported.program reported.levels in
    let n = reported.schedule.replicas in
    let events = reported.schedule.events in
    let replies = reported.prints.replies in
    let last = reported.prints.last in
    let run = reported.prints.run in
    record {
      received = c.replicas_agree.ensures.received rules n events replies last run arrived;
      applied = c.replicas_agree.ensures.applied rules n events replies last run arrived;
      not_blocked = c.replicas_agree.ensures.not_blocked rules n events replies last run arrived;
      same_view = λ call plain q r q_in r_in a. c.replicas_agree.ensures.same_view rules n events replies last run arrived call plain q r q_in r_in a;
      same_effect = λ call plain q r q_in r_in after other t u is too. c.replicas_agree.ensures.same_effect rules n events replies last run arrived call plain q r q_in r_in after t is other u too;
    })
