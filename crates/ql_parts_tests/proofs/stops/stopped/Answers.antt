use Rattle.ql_parts_tests.proofs.stops.stopped.Goals as goal

pub journal-answer-requires-clause-fits : goal.journal-answer-requires-clause-fits
journal-answer-requires-clause-fits c = c.in-Ok.ensures.fits c.in_ok-execution.execution
