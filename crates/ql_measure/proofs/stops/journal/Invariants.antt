use Rattle.ql_journal.specs.Stations.{holder_of}
use Rattle.ql_measure.proofs.stops.journal.Given as goal

abbrev pub invariant-loop-id : goal.invariant-loop-id
invariant-loop-id g l = g.H.Holder.fits (holder_of l.station) l.x
