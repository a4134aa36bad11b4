use Rattle.ql_machine.specs.Sets.{AreThose}
use Rattle.ql_store.specs.Received.{IsReceivedOf}
use Rattle.ql_store.proofs.received.received_effects.Given as goal

abbrev pub invariant-loop-k : goal.invariant-loop-k
invariant-loop-k g l = AreThose (IsReceivedOf (g.H.Holder.received l.holder) l.k) l.ids
