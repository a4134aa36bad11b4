use Rattle.std.proofs.Common.{List, take}
use Rattle.ql_exec.specs.declared.effect.Effect.{Effect}
use Rattle.ql_holder.specs.Closed.{Has}
use Rattle.ql_holder.specs.Arrivals.{Applied}
use Rattle.ql_machine.specs.Sets.{AreThose}
use Rattle.ql_shim.proofs.among.applied_among.Given as goal

abbrev pub invariant-loop-a : goal.invariant-loop-a
invariant-loop-a g l =
    (x : List Effect) → g.H.Holder.fits l.holder x → AreThose (λ a. Has (take l.a-index l.effects) a × Applied x (g.H.Holder.received l.holder) a) l.found
