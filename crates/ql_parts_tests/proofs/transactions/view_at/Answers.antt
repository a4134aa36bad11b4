use Rattle.ql_parts_tests.proofs.transactions.view_at.Goals as goal

pub receive-requires-clause-fits : goal.receive-requires-clause-fits
receive-requires-clause-fits c = c.empty-replica.ensures.fits c.in_ok-x.x
