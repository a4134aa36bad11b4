use Rattle.std.proofs.Common.{sym}
use Rattle.ql_explanation.proofs.Known.{unmet_known}
use Rattle.ql_explain.proofs.json_counter.shown_of.Goals as goal

pub make_shown-requires-clause-goal : goal.make_shown-requires-clause-goal
make_shown-requires-clause-goal c = (unmet_known c.args.t.now.program c.args.finding.now c.in-Some.unmet.now c.requires (sym c.in-Some.ensures)).0

pub make_shown-requires-clause-unmet : goal.make_shown-requires-clause-unmet
make_shown-requires-clause-unmet c = (unmet_known c.args.t.now.program c.args.finding.now c.in-Some.unmet.now c.requires (sym c.in-Some.ensures)).1
