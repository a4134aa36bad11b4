use Rattle.std.proofs.Common.{take}
use Rattle.ql_holder.specs.Closed.{Has}
use Rattle.ql_machine.specs.Sets.{AreThose}
use Rattle.ql_store.proofs.strong.id_set.Given as goal

abbrev pub invariant-loop-id : goal.invariant-loop-id
invariant-loop-id l = AreThose (λ a. Has (take l.id-index l.ids) a × Unit {0}) l.set
