use Rattle.std.proofs.Common.{take}
use Rattle.ql_machine.specs.Sets.{AreThose}
use Rattle.ql_holder.specs.Closed.{Has}
use Rattle.ql_restart.proofs.recovered.received_among.Given as goal

abbrev pub invariant-loop-id : goal.invariant-loop-id
invariant-loop-id g l = AreThose (λ a. Has (take l.id-index l.ids) a × Has (g.H.Holder.received l.holder) a) l.found
