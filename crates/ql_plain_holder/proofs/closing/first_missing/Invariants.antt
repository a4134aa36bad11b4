use Rattle.std.proofs.Common.{ℕ, ◌<◌, get_or}
use Rattle.ql_holder.specs.Closed.{Has}
use Rattle.ql_plain_holder.proofs.closing.first_missing.Given as goal

abbrev pub invariant-loop-id : goal.invariant-loop-id
invariant-loop-id l = (k : ℕ) → k < l.id-index → Has l.others (get_or l.ids k 0)
