use Rattle.std.proofs.Common.{◌≤◌}
use Rattle.ql_holder.specs.Arrivals.{Applied}
use Rattle.ql_machine.specs.Sets.{AreThose}
use Rattle.ql_store.proofs.begin.applied_by.Given as goal

-- of the first effects those that are applied were found
abbrev pub invariant-loop-k : goal.invariant-loop-k
invariant-loop-k g l = AreThose (λ a. (1 ≤ a) × (a ≤ l.k) × Applied l.x (g.H.Holder.received l.holder) a) l.ids
