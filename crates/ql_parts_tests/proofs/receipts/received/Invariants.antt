use Rattle.ql_parts_tests.proofs.receipts.received.Given as goal

abbrev pub invariant-loop-id : goal.invariant-loop-id
invariant-loop-id g l = g.H.Holder.fits l.holder l.x
