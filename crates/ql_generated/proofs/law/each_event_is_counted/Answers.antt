use Rattle.std.proofs.Common.{◌∙◌}
use Rattle.ql_gen.proofs.Lawful.{events_plain, length_events}
use Rattle.ql_generated.proofs.Totals.{each_counted}
use Rattle.ql_generated.proofs.law.each_event_is_counted.Goals as goal

pub returns : goal.returns
returns c = λ source text number soak.
    let run = soak.prints in (
      run.replies,
      run.last.effects,
      run.printed,
      each_counted _ _ _ run.replies run.last run.run (events_plain soak.program number 4000) ∙ length_events soak.program number 4000,
    )
