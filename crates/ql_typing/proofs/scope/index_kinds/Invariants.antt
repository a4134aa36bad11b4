use Rattle.std.proofs.Common.{◌-◌, drop, length}
use Rattle.ql_typing.specs.Tables.{FindsKinds}
use Rattle.ql_typing.proofs.scope.index_kinds.Given as goal

abbrev pub invariant-loop-k : goal.invariant-loop-k
invariant-loop-k l = FindsKinds l.kinds (drop (length l.known - l.k) l.known)
