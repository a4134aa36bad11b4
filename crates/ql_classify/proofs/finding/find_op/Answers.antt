use Rattle.std.proofs.Common.{refl}
use Rattle.ql_classify.specs.Targets.{IsEvidence, op_at}
use Rattle.ql_classify.proofs.LeastLevels.{least}
use Rattle.ql_classify.proofs.finding.find_op.Goals as goal

pub returns-in-Ok : goal.returns-in-Ok
returns-in-Ok c =
    let p = c.args.t.now.program in
    let g = op_at c.args.o.0 c.in-Ok.level in
    let shown : IsEvidence p g c.in-Ok.evidence = c.in-Ok.ensures.least in
    ((refl, c.requires.op), least p g c.in-Ok.evidence shown, shown.enough.2, c.last_of_op.ensures p c.in-Ok.level shown.lower)
