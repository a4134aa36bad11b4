use Rattle.std.proofs.Common.{length}
use Rattle.ql_journal.proofs.ReadSoFar.{SoFar}
use Rattle.ql_journal.proofs.recovering.received_in.Given as goal

abbrev pub invariant-loop-entry : goal.invariant-loop-entry
invariant-loop-entry g l = record {
  fits : g.H.Holder.fits l.holder l.x;
  reads : SoFar g.H.Holder.received l.x l.committed l.bytes l.holder l.rest;
}

abbrev pub decreases-loop-entry : goal.decreases-loop-entry
decreases-loop-entry g l = length l.rest
