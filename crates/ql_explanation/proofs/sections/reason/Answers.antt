use Rattle.std.proofs.Common.{sym}
use Rattle.ql_explanation.proofs.Known.{unmet_known}
use Rattle.ql_explanation.proofs.sections.reason.Goals as goal

pub counter_part-requires-clause-goal : goal.counter_part-requires-clause-goal
counter_part-requires-clause-goal c = (unmet_known c.args.t.now.program c.args.finding.now c.in-Some.unmet.now c.requires.finding (sym c.in-Some.ensures)).0

pub counter_part-requires-clause-unmet : goal.counter_part-requires-clause-unmet
counter_part-requires-clause-unmet c = (unmet_known c.args.t.now.program c.args.finding.now c.in-Some.unmet.now c.requires.finding (sym c.in-Some.ensures)).1
