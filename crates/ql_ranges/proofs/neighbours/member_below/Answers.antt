use Rattle.ql_ranges.proofs.NeighbourLaws.{none-below-first, below-from}
use Rattle.ql_ranges.proofs.neighbours.member_below.Goals as goal

pub returns-in-Some : goal.returns-in-Some
returns-in-Some c = below-from c.args.effects.now c.args.e c.in-Some.k c.only_in_txn.result c.requires.law c.in-Some.ensures c.only_in_txn.ensures

pub returns-in-None : goal.returns-in-None
returns-in-None c = none-below-first c.args.effects.now c.args.e c.requires.law c.in-None.ensures
