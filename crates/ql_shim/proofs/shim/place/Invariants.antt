use Rattle.std.proofs.Common.{◌≡◌, false, take}
use Rattle.std.specs.List.{list_any}
use Rattle.ql_shim.specs.Transactions.{is_of}
use Rattle.ql_shim.proofs.shim.place.Given as goal

abbrev pub invariant-loop-k : goal.invariant-loop-k
invariant-loop-k l = list_any (is_of l.s) (take l.k l.running) ≡ false
