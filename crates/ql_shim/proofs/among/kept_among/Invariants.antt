use Rattle.std.proofs.Common.{take}
use Rattle.ql_holder.specs.Closed.{Has}
use Rattle.ql_machine.specs.Sets.{AreThose}
use Rattle.ql_shim.proofs.among.kept_among.Given as goal

abbrev pub invariant-loop-a : goal.invariant-loop-a
invariant-loop-a l = AreThose (λ a. Has (take l.a-index l.effects) a × Has l.set a) l.found
