use Rattle.ql_ranges.specs.Ranges.{ids_of}
use Rattle.ql_ranges.specs.Walks.{met_before, known_before}
use Rattle.ql_ranges.proofs.NeighbourLaws.{soo-first, soo-need}
use Rattle.ql_ranges.proofs.WalkLaws.{goes-with-one, met-one, on-ok}
use Rattle.ql_ranges.proofs.walk.meet_before.Goals as goal

pub returns-in-Some-clause-on : goal.returns-in-Some-clause-on
returns-in-Some-clause-on c =
    let x = c.args.effects.now in
    on-ok c.meet.result
    (goes-with-one x (ids_of c.args.known.now) (ids_of c.args.walk.now.found) c.args.walk.now.due.items (ids_of c.meet.new.walk.found) c.meet.new.walk.due.items
    c.args.e c.in-Some.before (soo-need x c.args.e c.in-Some.before c.in-Some.ensures.0)) c.meet.ensures

pub returns-in-Some-clause-met : goal.returns-in-Some-clause-met
returns-in-Some-clause-met c =
    on-ok c.meet.result
    (λ m. met_before c.in-Some.before c.in-Some.ensures.0 c.in-Some.ensures.1
    (met-one (ids_of c.args.known.now) (ids_of c.args.walk.now.found) c.args.walk.now.due.items (ids_of c.meet.new.walk.found) c.meet.new.walk.due.items c.in-Some.before m)) c.meet.ensures

pub returns-in-None-clause-met : goal.returns-in-None-clause-met
returns-in-None-clause-met c = known_before (λ a is. c.whole_to.ensures.whole a (soo-first c.args.effects.now a c.args.e is) (c.in-None.ensures a is))
