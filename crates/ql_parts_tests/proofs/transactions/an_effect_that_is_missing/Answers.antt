use Rattle.ql_parts_tests.proofs.transactions.an_effect_that_is_missing.Goals as goal

pub view_rule-requires-clause-fits : goal.view_rule-requires-clause-fits
view_rule-requires-clause-fits g c = c.empty-replica.ensures.fits c.in_ok-x.x
