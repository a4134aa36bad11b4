use Rattle.std.proofs.Common.{ℕ, ◌↔◌, take}
use Rattle.ql_holder.specs.Closed.{Has}
use Rattle.ql_holder.specs.Arrivals.{Applied}
use Rattle.ql_plain_holder.proofs.closing.closed_part.Given as goal

abbrev pub invariant-loop-id : goal.invariant-loop-id
invariant-loop-id l = (a : ℕ) → Has l.closed a ↔ (Has (take l.id-index l.ids) a × Applied l.x l.after a)
