use Rattle.ql_classify.proofs.Climbing.{all_answered}
use Rattle.ql_classify.proofs.evidence.answer.Goals as goal

pub returns : goal.returns
returns c =
    all_answered c.args.t.now.program c.args.goal c.in_ok-clauses.clauses c.decide.result c.in_ok-clauses.ensures.list c.in_ok-clauses.ensures.sound c.decide.ensures.right c.decide.ensures.numbered
