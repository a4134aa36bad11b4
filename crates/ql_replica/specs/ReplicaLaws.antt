-- What a replica keeps is right for a longer execution.
use Rattle.std.specs.Prelude.{◌++◌, ℕ, List, Option}
use Rattle.ql_exec.specs.declared.effect.Effect.{Effect}
use Rattle.ql_exec.specs.Execution.{IsExecution}
use Rattle.ql_holder.specs.Needs.{Needs, JoinsNone}
use Rattle.ql_holder.proofs.ClosedLaws.{reached-more}
use Rattle.ql_holder.proofs.NeedsLaws.{closed-grown, needs-longer}
use Rattle.ql_holder.proofs.Packages.{whole-grown, package-grown, joins-fewer}
use Rattle.ql_replica.specs.declared.waiting.Waiting.{Waiting}
use Rattle.ql_replica.specs.Waiting.{FitsReplica, Watches}

watches-more : (received : List ℕ) (w : Waiting) (x more : List Effect) → JoinsNone x more received → Watches x received w → Watches (x ++ more) received w
watches-more received w x more alone watches = record {
  whole = package-grown x more w.pack watches.whole (joins-fewer x more received w.pack watches.within alone);
  within = watches.within;
  needed = (watches.needed.0, watches.needed.1, reached-more (Needs x) (Needs (x ++ more)) (needs-longer x more) watches.needed.0 w.watched watches.needed.2);
  absent = watches.absent;
}

pub fits-more : (received applied : List ℕ) (held : ℕ → Option Waiting) (x more : List Effect) → IsExecution (x ++ more) → FitsReplica received applied held x → JoinsNone x more received → FitsReplica received applied held (x ++ more)
fits-more received applied held x more law fits alone = record {
  ascending = fits.ascending;
  whole = whole-grown x more received fits.whole alone;
  closed = λ a is. (closed-grown x more received law fits.whole.there alone a).0 (fits.closed a is);
  watches = λ key w at. watches-more received w x more alone (fits.watches key w at);
  waits = fits.waits;
}
