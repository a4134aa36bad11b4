use Rattle.ql_ranges.specs.Ranges.{ids_of}
use Rattle.ql_session.proofs.WalkLaws.{walk-ends}
use Rattle.ql_session.proofs.past.past_of.Goals as goal

pub returns : goal.returns
returns c = λ a first last.
    let walk = c.in_ok-visit_all.ensures c.args.session c.args.view.now (c.in_ok-walk.ensures c.args.x.now) in
    (walk.past a, walk-ends c.args.x.now c.args.session c.args.view.now (ids_of c.visit_all.new.walk.met) (ids_of c.visit_all.new.walk.sessions) walk a first last)
