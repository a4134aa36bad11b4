use Rattle.ql_ranges.specs.Ranges.{ids_of}
use Rattle.ql_ranges.specs.Walks.{met_above}
use Rattle.ql_ranges.proofs.NeighbourLaws.{txn-need}
use Rattle.ql_ranges.proofs.WalkLaws.{goes-with-one, met-one, on-ok}
use Rattle.ql_ranges.proofs.walk.meet_above.Goals as goal

pub returns-in-Some-clause-on : goal.returns-in-Some-clause-on
returns-in-Some-clause-on c =
    let x = c.args.effects.now in
    on-ok c.meet.result
    (goes-with-one x (ids_of c.args.known.now) (ids_of c.args.walk.now.found) c.args.walk.now.due.items (ids_of c.meet.new.walk.found) c.meet.new.walk.due.items
    c.args.e c.in-Some.member (txn-need x c.args.e c.in-Some.member c.in-Some.ensures.1)) c.meet.ensures

pub returns-in-Some-clause-met : goal.returns-in-Some-clause-met
returns-in-Some-clause-met c =
    on-ok c.meet.result
    (λ m. met_above c.in-Some.member c.in-Some.ensures
    (met-one (ids_of c.args.known.now) (ids_of c.args.walk.now.found) c.args.walk.now.due.items (ids_of c.meet.new.walk.found) c.meet.new.walk.due.items c.in-Some.member m)) c.meet.ensures
