use Rattle.std.proofs.Common.{take}
use Rattle.ql_restart.specs.Progress.{calls_left}
use Rattle.ql_restart.proofs.Journals.{IsJournaling}
use Rattle.ql_restart.proofs.journal.journal_all.Given as goal

abbrev pub invariant-loop-id : goal.invariant-loop-id
invariant-loop-id g l = IsJournaling g.H.Holder.received g.H.Holder.fits l.x (take l.id-index l.arrivals) (calls_left l.fn.disk) l.disk l.station
