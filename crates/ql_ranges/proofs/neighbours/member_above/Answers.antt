use Rattle.ql_ranges.proofs.NeighbourLaws.{above-from}
use Rattle.ql_ranges.proofs.neighbours.member_above.Goals as goal

pub returns-in-Some : goal.returns-in-Some
returns-in-Some c = above-from c.args.effects.now c.args.e c.in-Some.k c.only_in_txn.result c.requires.law c.in-Some.ensures c.only_in_txn.ensures
