use Rattle.std.proofs.Common.{◌≡◌, ◌+◌, ℕ, ◌&&◌, nat_le, nat_lt}
use Rattle.ql_base.specs.IdLists.{has_id}
use Rattle.ql_exec.specs.Relations.{sametxn}
use Rattle.ql_plain_holder.proofs.closing.package_of.Given as goal

abbrev pub invariant-loop-k : goal.invariant-loop-k
invariant-loop-k l = (a : ℕ) → has_id l.pack a ≡ ((nat_le 1 a && nat_lt a (l.k + 1)) && sametxn l.x l.id a)
